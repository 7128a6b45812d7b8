-- The print of a program: a line for each word, its instruction's name, a space, and its operands with a comma and a space
-- between. "From the printer 4 or 5; then 9 if the output buffer is too small."
use Rattle.instruction.specs.declared.Instruction.{Instruction}
use Rattle.std.specs.Prelude.{Err, Ok, Result, ℕ, zero, suc, ◌+◌, ◌-◌, ◌/◌, ◌%◌, ◌^◌, cond, List, [], ◌∷◌, ◌++◌, ltb, eqb, length, drop}
use Rattle.refusal.specs.Stops.{number_of, particular_of}
use Rattle.refusal.specs.declared.Refusal.{Refusal}
use Rattle.memory.specs.Bytes.{number_at}
use Rattle.opcode.specs.Opcodes.{opcode_number, form_of}
use Rattle.opcode.specs.declared.Form.{Form}
use Rattle.opcode.specs.declared.Form.TheVariants.{R, I, Shift, S, B, J, Alone}
use Rattle.instruction.specs.Operands.{parts_of}
use Rattle.instruction.specs.declared.Parts.{Parts}
use Rattle.words.specs.Words.{decode_in}
use Rattle.names.specs.Names.{name_of, register_text}
use Rattle.told.specs.Told.{done_told, refused_told}
use Rattle.told.specs.declared.Told.{Told}

-- a number in decimal, in at most f digits, and no more than it needs
unfoldable pub digits_by : ℕ → ℕ → List ℕ
digits_by zero n = []
digits_by (suc f) n = cond (ltb n 10) ((48 + n) ∷ []) (digits_by f (n / 10) ++ ((48 + n % 10) ∷ []))

-- a number that stands modulo 2^64 for a signed one
unfoldable pub number_text : ℕ → List ℕ
number_text n = cond (ltb n (2 ^ 63)) (digits_by 20 n) (45 ∷ digits_by 20 (2 ^ 64 - n))

abbrev pub operand_texts : Form → Parts → List (List ℕ)
operand_texts R p = register_text p.a ∷ (register_text p.b ∷ (register_text p.c ∷ []))
operand_texts I p = register_text p.a ∷ (register_text p.b ∷ (number_text p.imm ∷ []))
operand_texts Shift p = register_text p.a ∷ (register_text p.b ∷ (number_text p.imm ∷ []))
operand_texts S p = register_text p.a ∷ (register_text p.b ∷ (number_text p.imm ∷ []))
operand_texts B p = register_text p.a ∷ (register_text p.b ∷ (number_text p.imm ∷ []))
operand_texts J p = register_text p.a ∷ (number_text p.imm ∷ [])
operand_texts Alone p = []

abbrev pub with_commas : List (List ℕ) → List ℕ
with_commas [] = []
with_commas (t ∷ ts) = 44 ∷ (32 ∷ (t ++ with_commas ts))

abbrev pub spelled : List (List ℕ) → List ℕ
spelled [] = []
spelled (t ∷ ts) = 32 ∷ (t ++ with_commas ts)

unfoldable pub print_line : Parts → List ℕ
print_line p = name_of p.op ++ spelled (operand_texts (form_of p.op) p)

-- the text of words, or the refusal of the first that does not decode
pub data Printed : Type 0 where
  text : List ℕ → Printed
  undecodable : Refusal → Printed

abbrev pub and_line : List ℕ → Printed → Printed
and_line line (text t) = text (line ++ (10 ∷ t))
and_line line (undecodable r) = undecodable r

abbrev pub printed_by : Result Instruction Refusal → Printed → Printed
printed_by (Ok i) rest = and_line (print_line (parts_of i)) rest
printed_by (Err r) rest = undecodable r

unfoldable pub print_of : List ℕ → Printed
print_of [] = text []
print_of (w ∷ ws) = printed_by (decode_in opcode_number w) (print_of ws)

-- the first n words in bytes, four each, the lowest first
unfoldable pub words_in : ℕ → List ℕ → List ℕ
words_in zero bs = []
words_in (suc n) bs = number_at 4 bs 0 ∷ words_in n (drop 4 bs)

-- ---- what the call answers, and what it leaves in the text that it is lent
abbrev pub told_of : Printed → ℕ → Told
told_of (text t) room = cond (ltb room (length t)) (refused_told 9 0) (done_told (length t))
told_of (undecodable r) room = refused_told (number_of r) (particular_of r)

abbrev pub left_by : Printed → List ℕ → List ℕ
left_by (text t) room = cond (ltb (length room) (length t)) room (t ++ drop (length t) room)
left_by (undecodable r) room = room

unfoldable pub print_told : List ℕ → List ℕ → Told
print_told words room = cond (eqb (length words % 4) 0) (told_of (print_of (words_in (length words / 4) words)) (length room)) (refused_told 9 0)

unfoldable pub print_leaves : List ℕ → List ℕ → List ℕ
print_leaves words room = cond (eqb (length words % 4) 0) (left_by (print_of (words_in (length words / 4) words)) room) room
