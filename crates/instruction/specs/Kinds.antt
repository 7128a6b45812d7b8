-- Inner: the kind of an operation by its opcode, as the code finds it.
use Rattle.std.specs.Prelude.{cond, List, [], ◌∷◌, eqb}
use Rattle.opcode.specs.Opcodes.{opcode_number}
use Rattle.opcode.specs.declared.Opcode.{Opcode}
use Rattle.instruction.specs.declared.Division.{Division}
use Rattle.instruction.specs.declared.Division.TheVariants as Dv
use Rattle.instruction.specs.declared.Operation.{Operation}
use Rattle.instruction.specs.declared.Operation.TheVariants as Op
use Rattle.instruction.specs.declared.ImmOperation.{ImmOperation}
use Rattle.instruction.specs.declared.ImmOperation.TheVariants as Im
use Rattle.instruction.specs.declared.MoveKind.{MoveKind}
use Rattle.instruction.specs.declared.MoveKind.TheVariants as Mv
use Rattle.instruction.specs.declared.LoadKind.{LoadKind}
use Rattle.instruction.specs.declared.LoadKind.TheVariants as Ld
use Rattle.instruction.specs.declared.StoreKind.{StoreKind}
use Rattle.instruction.specs.declared.StoreKind.TheVariants as St
use Rattle.instruction.specs.declared.BranchKind.{BranchKind}
use Rattle.instruction.specs.declared.BranchKind.TheVariants as Br
use Rattle.instruction.specs.Operands.{of_division, of_operation, of_imm_operation, of_move, of_load, of_store, of_branch}

-- of a kind of operations, the one that has an opcode; the first of them, if none has it
abbrev pub among : {X : Type 0} → (X → Opcode) → X → List X → Opcode → X
among of x [] op = x
among of x (y ∷ ys) op = cond (eqb (opcode_number op) (opcode_number (of y))) y (among of x ys op)

abbrev pub division_of : Opcode → Division
division_of op = among of_division Dv.Div (Dv.Divu ∷ Dv.Rem ∷ Dv.Remu ∷ []) op

abbrev pub operation_of : Opcode → Operation
operation_of op = among of_operation Op.Mulh (Op.And ∷ Op.Or ∷ Op.Xor ∷ Op.Sll ∷ Op.Srl ∷ Op.Sra ∷ Op.Slt ∷ Op.Sltu ∷ Op.Sge ∷ Op.Sgeu ∷ Op.Seq ∷ Op.Sne ∷ []) op

abbrev pub imm_operation_of : Opcode → ImmOperation
imm_operation_of op = among of_imm_operation Im.Andi (Im.Ori ∷ Im.Xori ∷ Im.Slli ∷ Im.Srli ∷ Im.Srai ∷ []) op

abbrev pub move_kind_of : Opcode → MoveKind
move_kind_of op = among of_move Mv.Cmov (Mv.Cmovz ∷ Mv.Cmovnz ∷ []) op

abbrev pub load_kind_of : Opcode → LoadKind
load_kind_of op = among of_load Ld.Lb (Ld.Lbu ∷ Ld.Lh ∷ Ld.Lhu ∷ Ld.Lw ∷ Ld.Ld ∷ []) op

abbrev pub store_kind_of : Opcode → StoreKind
store_kind_of op = among of_store St.Sb (St.Sh ∷ St.Sw ∷ St.Sd ∷ []) op

abbrev pub branch_kind_of : Opcode → BranchKind
branch_kind_of op = among of_branch Br.Beq (Br.Bne ∷ Br.Blt ∷ Br.Bge ∷ Br.Bltu ∷ Br.Bgeu ∷ []) op
