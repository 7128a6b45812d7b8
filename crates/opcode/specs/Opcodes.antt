-- Document 01, "Words": the fifty opcodes in its order, with their numbers and the forms of their words.
use Rattle.std.specs.Prelude.{None, Option, Some, ℕ, cond, List, [], ◌∷◌, eqb}
use Rattle.opcode.specs.declared.Opcode.{Opcode}
use Rattle.opcode.specs.declared.Form.{Form}
use Rattle.opcode.specs.declared.Opcode.TheVariants as O
use Rattle.opcode.specs.declared.Form.TheVariants.{R, I, Shift, S, B, J, Alone}

-- "Opcodes run from 1 in the order of the match in execute.rs". A form is a kind of word, but that a shift amount has six bits
-- (Shift) and Ecall and Ebreak have no operands (Alone)
pub record Row : Type 0 where
  pub number : ℕ
  pub form : Form

abbrev row : ℕ → Form → Row
row n f = record { number = n; form = f }

abbrev pub row_of : Opcode → Row
row_of O.Add = row 1 R
row_of O.Sub = row 2 R
row_of O.Mul = row 3 R
row_of O.Mulh = row 4 R
row_of O.Div = row 5 R
row_of O.Divu = row 6 R
row_of O.Rem = row 7 R
row_of O.Remu = row 8 R
row_of O.Addi = row 9 I
row_of O.And = row 10 R
row_of O.Or = row 11 R
row_of O.Xor = row 12 R
row_of O.Andi = row 13 I
row_of O.Ori = row 14 I
row_of O.Xori = row 15 I
row_of O.Sll = row 16 R
row_of O.Srl = row 17 R
row_of O.Sra = row 18 R
row_of O.Slli = row 19 Shift
row_of O.Srli = row 20 Shift
row_of O.Srai = row 21 Shift
row_of O.Slt = row 22 R
row_of O.Sltu = row 23 R
row_of O.Sge = row 24 R
row_of O.Sgeu = row 25 R
row_of O.Seq = row 26 R
row_of O.Sne = row 27 R
row_of O.Cmov = row 28 R
row_of O.Cmovz = row 29 R
row_of O.Cmovnz = row 30 R
row_of O.Lb = row 31 I
row_of O.Lbu = row 32 I
row_of O.Lh = row 33 I
row_of O.Lhu = row 34 I
row_of O.Lw = row 35 I
row_of O.Ld = row 36 I
row_of O.Sb = row 37 S
row_of O.Sh = row 38 S
row_of O.Sw = row 39 S
row_of O.Sd = row 40 S
row_of O.Beq = row 41 B
row_of O.Bne = row 42 B
row_of O.Blt = row 43 B
row_of O.Bge = row 44 B
row_of O.Bltu = row 45 B
row_of O.Bgeu = row 46 B
row_of O.Jal = row 47 J
row_of O.Jalr = row 48 I
row_of O.Ecall = row 49 Alone
row_of O.Ebreak = row 50 Alone

abbrev pub opcode_number : Opcode → ℕ
opcode_number op = (row_of op).number

abbrev pub form_of : Opcode → Form
form_of op = (row_of op).form

unfoldable pub all : List Opcode
all =
    O.Add ∷ O.Sub ∷ O.Mul ∷ O.Mulh ∷ O.Div ∷ O.Divu ∷ O.Rem ∷ O.Remu ∷ O.Addi ∷ O.And ∷
    O.Or ∷ O.Xor ∷ O.Andi ∷ O.Ori ∷ O.Xori ∷ O.Sll ∷ O.Srl ∷ O.Sra ∷ O.Slli ∷ O.Srli ∷
    O.Srai ∷ O.Slt ∷ O.Sltu ∷ O.Sge ∷ O.Sgeu ∷ O.Seq ∷ O.Sne ∷ O.Cmov ∷ O.Cmovz ∷ O.Cmovnz ∷
    O.Lb ∷ O.Lbu ∷ O.Lh ∷ O.Lhu ∷ O.Lw ∷ O.Ld ∷ O.Sb ∷ O.Sh ∷ O.Sw ∷ O.Sd ∷
    O.Beq ∷ O.Bne ∷ O.Blt ∷ O.Bge ∷ O.Bltu ∷ O.Bgeu ∷ O.Jal ∷ O.Jalr ∷ O.Ecall ∷ O.Ebreak ∷ []

-- the opcode that has a number, in a numbering of the fifty; document 01's is `opcode_number`
unfoldable pub first_with : (Opcode → ℕ) → List Opcode → ℕ → Option Opcode
first_with num [] n = None
first_with num (o ∷ os) n = cond (eqb n (num o)) (Some o) (first_with num os n)

abbrev pub opcode_in : (Opcode → ℕ) → ℕ → Option Opcode
opcode_in num n = first_with num all n
