-- The fifty opcodes and the seven forms as lists of variants.
use mathlib.Core.Path.{◌≡◌, refl}
use mathlib.Core.List.{List, [], ◌∷◌}
use Prim.Native.Nat.{ℕ}
use lib.Dec.{eqb}
use lib.ListN.{get_or}
use denote.Enum.Declared.{tag_of}
use Rattle.opcode.specs.Opcodes.{all, form_of}
use Rattle.opcode.specs.declared.Opcode.{Opcode}
use Rattle.opcode.specs.declared.Opcode.TheVariants as O
use Rattle.opcode.specs.declared.Form.{Form}
use Rattle.opcode.specs.declared.Form.TheVariants.{R, I, Shift, S, B, J, Alone}
use Rattle.opcode.proofs.Arms.{those}
use Rattle.opcode.specs.contracts.Opcode as Opcodes
use Rattle.opcode.specs.contracts.Form as Forms

abbrev pub place : Opcode → ℕ
place = tag_of Opcodes.the_type

-- `all` has the fifty in the order of their declaration
pub all-at : (op : Opcode) → get_or all (place op) O.Add ≡ op
unfolding all
all-at O.Add = refl
all-at O.Sub = refl
all-at O.Mul = refl
all-at O.Mulh = refl
all-at O.Div = refl
all-at O.Divu = refl
all-at O.Rem = refl
all-at O.Remu = refl
all-at O.Addi = refl
all-at O.And = refl
all-at O.Or = refl
all-at O.Xor = refl
all-at O.Andi = refl
all-at O.Ori = refl
all-at O.Xori = refl
all-at O.Sll = refl
all-at O.Srl = refl
all-at O.Sra = refl
all-at O.Slli = refl
all-at O.Srli = refl
all-at O.Srai = refl
all-at O.Slt = refl
all-at O.Sltu = refl
all-at O.Sge = refl
all-at O.Sgeu = refl
all-at O.Seq = refl
all-at O.Sne = refl
all-at O.Cmov = refl
all-at O.Cmovz = refl
all-at O.Cmovnz = refl
all-at O.Lb = refl
all-at O.Lbu = refl
all-at O.Lh = refl
all-at O.Lhu = refl
all-at O.Lw = refl
all-at O.Ld = refl
all-at O.Sb = refl
all-at O.Sh = refl
all-at O.Sw = refl
all-at O.Sd = refl
all-at O.Beq = refl
all-at O.Bne = refl
all-at O.Blt = refl
all-at O.Bge = refl
all-at O.Bltu = refl
all-at O.Bgeu = refl
all-at O.Jal = refl
all-at O.Jalr = refl
all-at O.Ecall = refl
all-at O.Ebreak = refl

abbrev pub forms : List Form
forms = R ∷ I ∷ Shift ∷ S ∷ B ∷ J ∷ Alone ∷ []

abbrev pub form-place : Form → ℕ
form-place = tag_of Forms.the_type

pub forms-at : (f : Form) → get_or forms (form-place f) R ≡ f
forms-at R = refl
forms-at I = refl
forms-at Shift = refl
forms-at S = refl
forms-at B = refl
forms-at J = refl
forms-at Alone = refl

-- the places of the opcodes of a form
abbrev pub places : Form → List ℕ
places f = those (λ (op : Opcode). eqb (form-place (form_of op)) (form-place f)) 0 all
