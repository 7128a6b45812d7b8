-- An instruction taken apart into its opcode and operands, and joined again.
use Rattle.std.specs.Prelude.{ℕ}
use Rattle.opcode.specs.declared.Opcode.{Opcode}
use Rattle.instruction.specs.declared.Instruction.{Instruction}
use Rattle.instruction.specs.declared.Parts.{Parts}
use Rattle.opcode.specs.declared.Opcode.TheVariants as O
use Rattle.instruction.specs.declared.Instruction.TheVariants as N
use Rattle.instruction.specs.declared.Division.{Division}
use Rattle.instruction.specs.declared.Operation.{Operation}
use Rattle.instruction.specs.declared.ImmOperation.{ImmOperation}
use Rattle.instruction.specs.declared.MoveKind.{MoveKind}
use Rattle.instruction.specs.declared.LoadKind.{LoadKind}
use Rattle.instruction.specs.declared.StoreKind.{StoreKind}
use Rattle.instruction.specs.declared.BranchKind.{BranchKind}
use Rattle.instruction.specs.declared.Division.TheVariants as Dv
use Rattle.instruction.specs.declared.Operation.TheVariants as Op
use Rattle.instruction.specs.declared.ImmOperation.TheVariants as Im
use Rattle.instruction.specs.declared.MoveKind.TheVariants as Mv
use Rattle.instruction.specs.declared.LoadKind.TheVariants as Ld
use Rattle.instruction.specs.declared.StoreKind.TheVariants as St
use Rattle.instruction.specs.declared.BranchKind.TheVariants as Br

-- the instruction of each opcode, of the registers at bits 7, 11 and 15 and the immediate: it takes those that it has
abbrev pub built : Opcode → ℕ → ℕ → ℕ → ℕ → Instruction
built O.Add a b c imm = N.Add a b c
built O.Sub a b c imm = N.Sub a b c
built O.Mul a b c imm = N.Mul a b c
built O.Mulh a b c imm = N.Op Op.Mulh a b c
built O.Div a b c imm = N.Divide Dv.Div a b c
built O.Divu a b c imm = N.Divide Dv.Divu a b c
built O.Rem a b c imm = N.Divide Dv.Rem a b c
built O.Remu a b c imm = N.Divide Dv.Remu a b c
built O.Addi a b c imm = N.Addi a b imm
built O.And a b c imm = N.Op Op.And a b c
built O.Or a b c imm = N.Op Op.Or a b c
built O.Xor a b c imm = N.Op Op.Xor a b c
built O.Andi a b c imm = N.OpImm Im.Andi a b imm
built O.Ori a b c imm = N.OpImm Im.Ori a b imm
built O.Xori a b c imm = N.OpImm Im.Xori a b imm
built O.Sll a b c imm = N.Op Op.Sll a b c
built O.Srl a b c imm = N.Op Op.Srl a b c
built O.Sra a b c imm = N.Op Op.Sra a b c
built O.Slli a b c imm = N.OpImm Im.Slli a b imm
built O.Srli a b c imm = N.OpImm Im.Srli a b imm
built O.Srai a b c imm = N.OpImm Im.Srai a b imm
built O.Slt a b c imm = N.Op Op.Slt a b c
built O.Sltu a b c imm = N.Op Op.Sltu a b c
built O.Sge a b c imm = N.Op Op.Sge a b c
built O.Sgeu a b c imm = N.Op Op.Sgeu a b c
built O.Seq a b c imm = N.Op Op.Seq a b c
built O.Sne a b c imm = N.Op Op.Sne a b c
built O.Cmov a b c imm = N.Move Mv.Cmov a b c
built O.Cmovz a b c imm = N.Move Mv.Cmovz a b c
built O.Cmovnz a b c imm = N.Move Mv.Cmovnz a b c
built O.Lb a b c imm = N.Load Ld.Lb a b imm
built O.Lbu a b c imm = N.Load Ld.Lbu a b imm
built O.Lh a b c imm = N.Load Ld.Lh a b imm
built O.Lhu a b c imm = N.Load Ld.Lhu a b imm
built O.Lw a b c imm = N.Load Ld.Lw a b imm
built O.Ld a b c imm = N.Load Ld.Ld a b imm
built O.Sb a b c imm = N.Store St.Sb a b imm
built O.Sh a b c imm = N.Store St.Sh a b imm
built O.Sw a b c imm = N.Store St.Sw a b imm
built O.Sd a b c imm = N.Store St.Sd a b imm
built O.Beq a b c imm = N.Branch Br.Beq a b imm
built O.Bne a b c imm = N.Branch Br.Bne a b imm
built O.Blt a b c imm = N.Branch Br.Blt a b imm
built O.Bge a b c imm = N.Branch Br.Bge a b imm
built O.Bltu a b c imm = N.Branch Br.Bltu a b imm
built O.Bgeu a b c imm = N.Branch Br.Bgeu a b imm
built O.Jal a b c imm = N.Jal a imm
built O.Jalr a b c imm = N.Jalr a b imm
built O.Ecall a b c imm = N.Ecall
built O.Ebreak a b c imm = N.Ebreak

abbrev pub instruction_of : Parts → Instruction
instruction_of p = built p.op p.a p.b p.c p.imm

abbrev pub of_division : Division → Opcode
of_division Dv.Div = O.Div
of_division Dv.Divu = O.Divu
of_division Dv.Rem = O.Rem
of_division Dv.Remu = O.Remu

abbrev pub of_operation : Operation → Opcode
of_operation Op.Mulh = O.Mulh
of_operation Op.And = O.And
of_operation Op.Or = O.Or
of_operation Op.Xor = O.Xor
of_operation Op.Sll = O.Sll
of_operation Op.Srl = O.Srl
of_operation Op.Sra = O.Sra
of_operation Op.Slt = O.Slt
of_operation Op.Sltu = O.Sltu
of_operation Op.Sge = O.Sge
of_operation Op.Sgeu = O.Sgeu
of_operation Op.Seq = O.Seq
of_operation Op.Sne = O.Sne

abbrev pub of_imm_operation : ImmOperation → Opcode
of_imm_operation Im.Andi = O.Andi
of_imm_operation Im.Ori = O.Ori
of_imm_operation Im.Xori = O.Xori
of_imm_operation Im.Slli = O.Slli
of_imm_operation Im.Srli = O.Srli
of_imm_operation Im.Srai = O.Srai

abbrev pub of_move : MoveKind → Opcode
of_move Mv.Cmov = O.Cmov
of_move Mv.Cmovz = O.Cmovz
of_move Mv.Cmovnz = O.Cmovnz

abbrev pub of_load : LoadKind → Opcode
of_load Ld.Lb = O.Lb
of_load Ld.Lbu = O.Lbu
of_load Ld.Lh = O.Lh
of_load Ld.Lhu = O.Lhu
of_load Ld.Lw = O.Lw
of_load Ld.Ld = O.Ld

abbrev pub of_store : StoreKind → Opcode
of_store St.Sb = O.Sb
of_store St.Sh = O.Sh
of_store St.Sw = O.Sw
of_store St.Sd = O.Sd

abbrev pub of_branch : BranchKind → Opcode
of_branch Br.Beq = O.Beq
of_branch Br.Bne = O.Bne
of_branch Br.Blt = O.Blt
of_branch Br.Bge = O.Bge
of_branch Br.Bltu = O.Bltu
of_branch Br.Bgeu = O.Bgeu

-- 0 stands for the operands that an instruction lacks
abbrev pub three : Opcode → ℕ → ℕ → ℕ → Parts
three op a b c = record { op = op; a = a; b = b; c = c; imm = 0 }

abbrev pub two : Opcode → ℕ → ℕ → ℕ → Parts
two op a b imm = record { op = op; a = a; b = b; c = 0; imm = imm }

abbrev pub parts_of : Instruction → Parts
parts_of (N.Add rd rs1 rs2) = three O.Add rd rs1 rs2
parts_of (N.Sub rd rs1 rs2) = three O.Sub rd rs1 rs2
parts_of (N.Addi rd rs1 imm) = two O.Addi rd rs1 imm
parts_of (N.Mul rd rs1 rs2) = three O.Mul rd rs1 rs2
parts_of (N.Divide op rd rs1 rs2) = three (of_division op) rd rs1 rs2
parts_of (N.Op op rd rs1 rs2) = three (of_operation op) rd rs1 rs2
parts_of (N.OpImm op rd rs1 imm) = two (of_imm_operation op) rd rs1 imm
parts_of (N.Move op rd rs1 rs2) = three (of_move op) rd rs1 rs2
parts_of (N.Load op rd rs1 imm) = two (of_load op) rd rs1 imm
parts_of (N.Store op rs1 rs2 imm) = two (of_store op) rs1 rs2 imm
parts_of (N.Branch op rs1 rs2 imm) = two (of_branch op) rs1 rs2 imm
parts_of (N.Jal rd imm) = two O.Jal rd 0 imm
parts_of (N.Jalr rd rs1 imm) = two O.Jalr rd rs1 imm
parts_of N.Ecall = three O.Ecall 0 0 0
parts_of N.Ebreak = three O.Ebreak 0 0 0
