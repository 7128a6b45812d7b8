-- "Instruction names and R0 to R15 spelled as in document 01": each once.
use Rattle.std.specs.Prelude.{ℕ, ◌+◌, cond, List, [], ◌∷◌, ltb}
use Prim.Native.Char.{code}
use Prim.Native.String.{String, [] as none, ◌∷◌ as ◌then◌}
use Rattle.labels.specs.Bytes.{key_of}
use Rattle.opcode.specs.declared.Opcode.{Opcode}
use Rattle.opcode.specs.declared.Opcode.TheVariants as O

-- the bytes of a text in ASCII
abbrev pub bytes_of : String → List ℕ
bytes_of none = []
bytes_of (c then s) = code c ∷ bytes_of s

abbrev pub name_of : Opcode → List ℕ
name_of O.Add = bytes_of "Add"
name_of O.Sub = bytes_of "Sub"
name_of O.Mul = bytes_of "Mul"
name_of O.Mulh = bytes_of "Mulh"
name_of O.Div = bytes_of "Div"
name_of O.Divu = bytes_of "Divu"
name_of O.Rem = bytes_of "Rem"
name_of O.Remu = bytes_of "Remu"
name_of O.Addi = bytes_of "Addi"
name_of O.And = bytes_of "And"
name_of O.Or = bytes_of "Or"
name_of O.Xor = bytes_of "Xor"
name_of O.Andi = bytes_of "Andi"
name_of O.Ori = bytes_of "Ori"
name_of O.Xori = bytes_of "Xori"
name_of O.Sll = bytes_of "Sll"
name_of O.Srl = bytes_of "Srl"
name_of O.Sra = bytes_of "Sra"
name_of O.Slli = bytes_of "Slli"
name_of O.Srli = bytes_of "Srli"
name_of O.Srai = bytes_of "Srai"
name_of O.Slt = bytes_of "Slt"
name_of O.Sltu = bytes_of "Sltu"
name_of O.Sge = bytes_of "Sge"
name_of O.Sgeu = bytes_of "Sgeu"
name_of O.Seq = bytes_of "Seq"
name_of O.Sne = bytes_of "Sne"
name_of O.Cmov = bytes_of "Cmov"
name_of O.Cmovz = bytes_of "Cmovz"
name_of O.Cmovnz = bytes_of "Cmovnz"
name_of O.Lb = bytes_of "Lb"
name_of O.Lbu = bytes_of "Lbu"
name_of O.Lh = bytes_of "Lh"
name_of O.Lhu = bytes_of "Lhu"
name_of O.Lw = bytes_of "Lw"
name_of O.Ld = bytes_of "Ld"
name_of O.Sb = bytes_of "Sb"
name_of O.Sh = bytes_of "Sh"
name_of O.Sw = bytes_of "Sw"
name_of O.Sd = bytes_of "Sd"
name_of O.Beq = bytes_of "Beq"
name_of O.Bne = bytes_of "Bne"
name_of O.Blt = bytes_of "Blt"
name_of O.Bge = bytes_of "Bge"
name_of O.Bltu = bytes_of "Bltu"
name_of O.Bgeu = bytes_of "Bgeu"
name_of O.Jal = bytes_of "Jal"
name_of O.Jalr = bytes_of "Jalr"
name_of O.Ecall = bytes_of "Ecall"
name_of O.Ebreak = bytes_of "Ebreak"

-- the fifty keys are a numbering of the opcodes
abbrev pub name_key : Opcode → ℕ
name_key op = key_of (name_of op)

-- a register, 0 to 15: "R" and its number in decimal
abbrev pub register_text : ℕ → List ℕ
register_text r = 82 ∷ cond (ltb r 10) ((48 + r) ∷ []) (49 ∷ ((38 + r) ∷ []))
