-- What each operation computes of whole values. Document 01: "Seq, Sne, Beq, Bne, the moves, division, Mulh and addresses use all 64
-- [bits]; the other instructions follow execute.rs", which takes the low 40.
use Rattle.std.specs.Prelude.{ℕ, ◌+◌, ◌%◌, ◌^◌, Bool, not, eqb}
use Rattle.encoding.specs.Fields.{extended}
use Rattle.value.specs.Forty.{and40, or40, xor40, shl40, shr40, sra40, slt40, ult40}
use Rattle.value.specs.Product.{mulh_of}
use Rattle.value.specs.Division.{div_of, divu_of, rem_of, remu_of}
use Rattle.memory.specs.Bytes.{bit}
use Rattle.memory.specs.declared.Size.{Size}
use Rattle.memory.specs.declared.Size.TheVariants.{Byte, Half, Word, Double}
use Rattle.instruction.specs.declared.Division.{Division}
use Rattle.instruction.specs.declared.Division.TheVariants.{Div, Divu, Rem, Remu}
use Rattle.instruction.specs.declared.Operation.{Operation}
use Rattle.instruction.specs.declared.Operation.TheVariants.{Mulh, And, Or, Xor, Sll, Srl, Sra, Slt, Sltu, Sge, Sgeu, Seq, Sne}
use Rattle.instruction.specs.declared.ImmOperation.{ImmOperation}
use Rattle.instruction.specs.declared.ImmOperation.TheVariants.{Andi, Ori, Xori, Slli, Srli, Srai}
use Rattle.instruction.specs.declared.MoveKind.{MoveKind}
use Rattle.instruction.specs.declared.MoveKind.TheVariants.{Cmov, Cmovz, Cmovnz}
use Rattle.instruction.specs.declared.LoadKind.{LoadKind}
use Rattle.instruction.specs.declared.LoadKind.TheVariants.{Lb, Lbu, Lh, Lhu, Lw, Ld}
use Rattle.instruction.specs.declared.StoreKind.{StoreKind}
use Rattle.instruction.specs.declared.StoreKind.TheVariants.{Sb, Sh, Sw, Sd}
use Rattle.instruction.specs.declared.BranchKind.{BranchKind}
use Rattle.instruction.specs.declared.BranchKind.TheVariants.{Beq, Bne, Blt, Bge, Bltu, Bgeu}

-- addresses and the program counter wrap modulo 2^64
abbrev pub plus64 : ℕ → ℕ → ℕ
plus64 a b = (a + b) % 2 ^ 64

unfoldable pub divided : Division → ℕ → ℕ → ℕ
divided Div a b = div_of a b
divided Divu a b = divu_of a b
divided Rem a b = rem_of a b
divided Remu a b = remu_of a b

-- a register's shift amount is its low six bits
unfoldable pub result : Operation → ℕ → ℕ → ℕ
result Mulh a b = mulh_of a b
result And a b = and40 a b
result Or a b = or40 a b
result Xor a b = xor40 a b
result Sll a b = shl40 a (b % 64)
result Srl a b = shr40 a (b % 64)
result Sra a b = sra40 a (b % 64)
result Slt a b = bit (slt40 a b)
result Sltu a b = bit (ult40 a b)
result Sge a b = bit (not (slt40 a b))
result Sgeu a b = bit (not (ult40 a b))
result Seq a b = bit (eqb a b)
result Sne a b = bit (not (eqb a b))

-- an immediate form is the register form with the immediate for its second operand
unfoldable pub register_form : ImmOperation → Operation
register_form Andi = And
register_form Ori = Or
register_form Xori = Xor
register_form Slli = Sll
register_form Srli = Srl
register_form Srai = Sra

-- whether a move happens, by rs2
unfoldable pub moves : MoveKind → ℕ → Bool
moves Cmov b = not (eqb b 0)
moves Cmovz b = eqb b 0
moves Cmovnz b = not (eqb b 0)

-- whether a branch is taken
unfoldable pub taken : BranchKind → ℕ → ℕ → Bool
taken Beq a b = eqb a b
taken Bne a b = not (eqb a b)
taken Blt a b = slt40 a b
taken Bge a b = not (slt40 a b)
taken Bltu a b = ult40 a b
taken Bgeu a b = not (ult40 a b)

unfoldable pub load_size : LoadKind → Size
load_size Lb = Byte
load_size Lbu = Byte
load_size Lh = Half
load_size Lhu = Half
load_size Lw = Word
load_size Ld = Double

-- what a load makes of the number it read: Lb and Lh extend it by its sign, the others by zeros
unfoldable pub loaded : LoadKind → ℕ → ℕ
loaded Lb v = extended 7 (v % 2 ^ 8)
loaded Lbu v = v
loaded Lh v = extended 15 (v % 2 ^ 16)
loaded Lhu v = v
loaded Lw v = v
loaded Ld v = v

unfoldable pub store_size : StoreKind → Size
store_size Sb = Byte
store_size Sh = Half
store_size Sw = Word
store_size Sd = Double
