-- A line of the assembler's language: what can be written, as trees that hold every space; the text of a tree; the word of an
-- instruction. "One instruction a line, operands in the order rd, rs1, rs2, immediate as far as present; commas between operands."
use Rattle.refusal.specs.declared.Refusal.{Refusal}
use Rattle.std.specs.Prelude.{None, Option, Some, Err, Ok, Result, ◌≡◌, ℕ, zero, suc, true, List, [], ◌∷◌, ◌++◌, ℤ, pos, nat_lt}
use Rattle.std.specs.Int.{w64}
use Rattle.std.proofs.Common.{of_z}
use Rattle.opcode.specs.Opcodes.{opcode_number, form_of}
use Rattle.opcode.specs.declared.Opcode.{Opcode}
use Rattle.opcode.specs.declared.Form.{Form}
use Rattle.opcode.specs.declared.Form.TheVariants.{R, I, Shift, S, B, J, Alone}
use Rattle.instruction.specs.declared.Parts.{Parts}
use Rattle.words.specs.Words.{encoded_in}
use Rattle.names.specs.Names.{name_of, register_text}
use Rattle.labels.specs.Bytes.{is_name, spaces}
use Rattle.sums.specs.Sums.{Sum, sum_text, sum_value}

pub data Kind : Type 0 where
  register immediate : Kind

abbrev pub kinds_of : Form → List Kind
kinds_of R = register ∷ (register ∷ (register ∷ []))
kinds_of I = register ∷ (register ∷ (immediate ∷ []))
kinds_of Shift = register ∷ (register ∷ (immediate ∷ []))
kinds_of S = register ∷ (register ∷ (immediate ∷ []))
kinds_of B = register ∷ (register ∷ (immediate ∷ []))
kinds_of J = register ∷ (immediate ∷ [])
kinds_of Alone = []

pub data Operand : Kind → Type 0 where
  reg : (r : ℕ) → nat_lt r 16 ≡ true → Operand register
  sum : Sum → Operand immediate

-- operands of these kinds, each with the spaces before and after it
pub data Operands : List Kind → Type 0 where
  without : Operands []
  last : {k : Kind} → ℕ → Operand k → ℕ → Operands (k ∷ [])
  more : {k j : Kind} {ks : List Kind} → ℕ → Operand k → ℕ → Operands (j ∷ ks) → Operands (k ∷ (j ∷ ks))

pub data Line : Type 0 where
  blank : ℕ → Line
  defines : ℕ → (name : List ℕ) → is_name name ≡ true → ℕ → ℕ → Line
  instruction : ℕ → (op : Opcode) → Operands (kinds_of (form_of op)) → ℕ → Line

-- ---- the text: at least one space between a name and its first operand
abbrev pub operand_text : {k : Kind} → Operand k → List ℕ
operand_text (reg r h) = register_text r
operand_text (sum e) = sum_text e

unfoldable pub operands_text : {ks : List Kind} → Operands ks → List ℕ
operands_text without = []
operands_text (last g o h) = spaces g ++ (operand_text o ++ spaces h)
operands_text (more g o h os) = spaces g ++ (operand_text o ++ (spaces h ++ (44 ∷ operands_text os)))

abbrev pub arguments_text : {ks : List Kind} → Operands ks → List ℕ
arguments_text without = []
arguments_text (last g o h) = 32 ∷ operands_text (last g o h)
arguments_text (more g o h os) = 32 ∷ operands_text (more g o h os)

unfoldable pub line_text : Line → List ℕ
line_text (blank g) = spaces g
line_text (defines g name n h k) = spaces g ++ (name ++ (spaces h ++ (58 ∷ spaces k)))
line_text (instruction g op os h) = spaces g ++ (name_of op ++ (arguments_text os ++ spaces h))

-- ---- the word, where `look` gives the labels' values
abbrev pub operand_value : {k : Kind} → Operand k → (List ℕ → Option ℤ) → Option ℤ
operand_value (reg r h) look = Some (pos r)
operand_value (sum e) look = sum_value e look 16

abbrev pub pushed : Option ℤ → Option (List ℤ) → Option (List ℤ)
pushed None vs = None
pushed (Some v) None = None
pushed (Some v) (Some vs) = Some (v ∷ vs)

unfoldable pub operands_values : {ks : List Kind} → Operands ks → (List ℕ → Option ℤ) → Option (List ℤ)
operands_values without look = Some []
operands_values (last g o h) look = pushed (operand_value o look) (Some [])
operands_values (more g o h os) look = pushed (operand_value o look) (operands_values os look)

-- the number of an operand modulo 2^64, counted from 0
abbrev pub bits_at : List ℤ → ℕ → ℕ
bits_at [] n = 0
bits_at (v ∷ vs) zero = of_z w64 v
bits_at (v ∷ vs) (suc n) = bits_at vs n

abbrev pub parts : Opcode → ℕ → ℕ → ℕ → ℕ → Parts
parts op a b c imm = record { op = op; a = a; b = b; c = c; imm = imm }

-- an instruction's operands, of the values that were written for them: 0 for those that it lacks
unfoldable pub parts_by : Opcode → Form → List ℤ → Parts
parts_by op R vs = parts op (bits_at vs 0) (bits_at vs 1) (bits_at vs 2) 0
parts_by op I vs = parts op (bits_at vs 0) (bits_at vs 1) 0 (bits_at vs 2)
parts_by op Shift vs = parts op (bits_at vs 0) (bits_at vs 1) 0 (bits_at vs 2)
parts_by op S vs = parts op (bits_at vs 0) (bits_at vs 1) 0 (bits_at vs 2)
parts_by op B vs = parts op (bits_at vs 0) (bits_at vs 1) 0 (bits_at vs 2)
parts_by op J vs = parts op (bits_at vs 0) 0 0 (bits_at vs 1)
parts_by op Alone vs = parts op 0 0 0 0

abbrev pub word_made : Result ℕ Refusal → Option ℕ
word_made (Ok w) = Some w
word_made (Err r) = None

-- the word, if every value is one and fits its field
unfoldable pub word_for : Opcode → Option (List ℤ) → Option ℕ
word_for op None = None
word_for op (Some vs) = word_made (encoded_in opcode_number (parts_by op (form_of op) vs))

-- what a line says: nothing, a label, an instruction's word, or what is wrong. `look` gives the labels' values, which in a branch
-- or a jump are distances
pub data Saying : Type 0 where
  empty : Saying
  named : List ℕ → Saying
  word : ℕ → Saying
  wrong : Saying

abbrev pub saying_of : Option ℕ → Saying
saying_of None = wrong
saying_of (Some w) = word w

unfoldable pub line_saying : Line → (Form → List ℕ → Option ℤ) → Saying
line_saying (blank g) look = empty
line_saying (defines g name n h k) look = named name
line_saying (instruction g op os h) look = saying_of (word_for op (operands_values os (look (form_of op))))

-- "A label means its byte address, and in a branch or Jal its distance from the instruction": where `own` instructions stand before it,
-- the number of those from which a label is counted
abbrev pub base_of : Form → ℕ → ℕ
base_of R own = 0
base_of I own = 0
base_of Shift own = 0
base_of S own = 0
base_of B own = own
base_of J own = own
base_of Alone own = 0
