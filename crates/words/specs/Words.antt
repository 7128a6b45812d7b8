-- Document 01, "Words": the instruction of a word and the word of an instruction, in any numbering of the fifty.
use Rattle.refusal.specs.declared.Refusal.{Refusal}
use Rattle.std.specs.Prelude.{Err, None, Ok, Option, Result, Some, ℕ, ◌/◌, ◌^◌, Bool, cond, ◌&&◌, ltb, eqb}
use Rattle.encoding.specs.Fields.{field}
use Rattle.encoding.specs.Words.{r_word, i_word, s_word, j_word}
use Rattle.refusal.specs.Stops.{refusal_of}
use Rattle.opcode.specs.Opcodes.{form_of, opcode_in}
use Rattle.forms.specs.Forms.{used_bits, immediate_of, imm_fits}
use Rattle.instruction.specs.Operands.{instruction_of, parts_of}
use Rattle.opcode.specs.declared.Opcode.{Opcode}
use Rattle.opcode.specs.declared.Form.{Form}
use Rattle.opcode.specs.declared.Form.TheVariants.{R, I, Shift, S, B, J, Alone}
use Rattle.instruction.specs.declared.Instruction.{Instruction}
use Rattle.instruction.specs.declared.Parts.{Parts}

unfoldable pub apart_of : Opcode → ℕ → Result Parts Refusal
apart_of op w =
    cond (eqb (w / 2 ^ used_bits (form_of op)) 0)
    (Ok (record { op = op; a = field 7 4 w; b = field 11 4 w; c = field 15 4 w; imm = immediate_of (form_of op) w }))
    (Err (refusal_of 5 w))

-- "opcode 0 or over 50" is refused (4), before 5 is looked at
unfoldable pub found_apart : Option Opcode → ℕ → Result Parts Refusal
found_apart (Some op) w = apart_of op w
found_apart None w = Err (refusal_of 4 w)

unfoldable pub take_in : (Opcode → ℕ) → ℕ → Result Parts Refusal
take_in num w = found_apart (opcode_in num (field 0 7 w)) w

unfoldable pub decoded_of : Result Parts Refusal → Result Instruction Refusal
decoded_of (Ok p) = Ok (instruction_of p)
decoded_of (Err r) = Err r

abbrev pub decode_in : (Opcode → ℕ) → ℕ → Result Instruction Refusal
decode_in num w = decoded_of (take_in num w)

-- "the encoder of an instruction refuses (9) what doesn't fit": a register over 15, an immediate or a shift amount
unfoldable pub parts_fit : Parts → Bool
parts_fit p = ltb p.a 16 && ltb p.b 16 && ltb p.c 16 && imm_fits (form_of p.op) p.imm

abbrev pub fits_of : Instruction → Bool
fits_of i = parts_fit (parts_of i)

unfoldable pub word_of : Form → ℕ → Parts → ℕ
word_of R n p = r_word n p.a p.b p.c 0
word_of I n p = i_word n p.a p.b p.imm
word_of Shift n p = i_word n p.a p.b p.imm
word_of S n p = s_word n p.a p.b p.imm
word_of B n p = s_word n p.a p.b p.imm
word_of J n p = j_word n p.a p.imm
word_of Alone n p = r_word n 0 0 0 0

unfoldable pub encoded_in : (Opcode → ℕ) → Parts → Result ℕ Refusal
encoded_in num p = cond (parts_fit p) (Ok (word_of (form_of p.op) (num p.op) p)) (Err (refusal_of 9 0))

abbrev pub encode_in : (Opcode → ℕ) → Instruction → Result ℕ Refusal
encode_in num i = encoded_in num (parts_of i)
