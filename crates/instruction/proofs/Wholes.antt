-- An instruction taken apart and joined again, and the other way: a form's operands are all that an instruction has.
use Prim.Native.Nat.{ℕ}
use mathlib.Core.Path.{◌≡◌, refl, sym, ap, ◌∙◌}
use Rattle.opcode.specs.Opcodes.{form_of, all}
use Rattle.instruction.specs.Operands.{built, instruction_of, parts_of}
use Rattle.opcode.specs.declared.Opcode.{Opcode}
use Rattle.opcode.specs.declared.Opcode.TheVariants as O
use Rattle.opcode.specs.declared.Form.{Form}
use Rattle.opcode.specs.declared.Form.TheVariants.{R, I, Shift, S, B, J, Alone}
use Rattle.instruction.specs.declared.Instruction.{Instruction}
use Rattle.instruction.specs.declared.Instruction.TheVariants as N
use Rattle.instruction.specs.declared.Parts.{Parts}
use Rattle.instruction.specs.declared.Division.TheVariants as Dv
use Rattle.instruction.specs.declared.Operation.TheVariants as Op
use Rattle.instruction.specs.declared.ImmOperation.TheVariants as Im
use Rattle.instruction.specs.declared.MoveKind.TheVariants as Mv
use Rattle.instruction.specs.declared.LoadKind.TheVariants as Ld
use Rattle.instruction.specs.declared.StoreKind.TheVariants as St
use Rattle.instruction.specs.declared.BranchKind.TheVariants as Br
use Rattle.opcode.proofs.Arms.{everywhere}
use Rattle.opcode.proofs.Variants.{place, all-at}

abbrev parts : Opcode → ℕ → ℕ → ℕ → ℕ → Parts
parts op a b c imm = record { op = op; a = a; b = b; c = c; imm = imm }

-- the operands that a form has; 0 for the others
unfoldable pub kept : Form → Parts → Parts
kept R p = parts p.op p.a p.b p.c 0
kept I p = parts p.op p.a p.b 0 p.imm
kept Shift p = parts p.op p.a p.b 0 p.imm
kept S p = parts p.op p.a p.b 0 p.imm
kept B p = parts p.op p.a p.b 0 p.imm
kept J p = parts p.op p.a 0 0 p.imm
kept Alone p = parts p.op 0 0 0 0

pub kept_op : (f : Form) (p : Parts) → (kept f p).op ≡ p.op
unfolding kept
kept_op R p = refl
kept_op I p = refl
kept_op Shift p = refl
kept_op S p = refl
kept_op B p = refl
kept_op J p = refl
kept_op Alone p = refl

pub parts-joined : (p : Parts) → parts_of (instruction_of p) ≡ kept (form_of p.op) p
unfolding kept all
parts-joined p =
    everywhere all O.Add place all-at
    (λ (op : Opcode). parts_of (built op p.a p.b p.c p.imm))
    (λ (op : Opcode). kept (form_of op) (parts op p.a p.b p.c p.imm))
    refl
    refl
    p.op

pub joined-parts : (i : Instruction) → instruction_of (parts_of i) ≡ i
joined-parts (N.Add rd rs1 rs2) = refl
joined-parts (N.Sub rd rs1 rs2) = refl
joined-parts (N.Addi rd rs1 imm) = refl
joined-parts (N.Mul rd rs1 rs2) = refl
joined-parts (N.Divide Dv.Div rd rs1 rs2) = refl
joined-parts (N.Divide Dv.Divu rd rs1 rs2) = refl
joined-parts (N.Divide Dv.Rem rd rs1 rs2) = refl
joined-parts (N.Divide Dv.Remu rd rs1 rs2) = refl
joined-parts (N.Op Op.Mulh rd rs1 rs2) = refl
joined-parts (N.Op Op.And rd rs1 rs2) = refl
joined-parts (N.Op Op.Or rd rs1 rs2) = refl
joined-parts (N.Op Op.Xor rd rs1 rs2) = refl
joined-parts (N.Op Op.Sll rd rs1 rs2) = refl
joined-parts (N.Op Op.Srl rd rs1 rs2) = refl
joined-parts (N.Op Op.Sra rd rs1 rs2) = refl
joined-parts (N.Op Op.Slt rd rs1 rs2) = refl
joined-parts (N.Op Op.Sltu rd rs1 rs2) = refl
joined-parts (N.Op Op.Sge rd rs1 rs2) = refl
joined-parts (N.Op Op.Sgeu rd rs1 rs2) = refl
joined-parts (N.Op Op.Seq rd rs1 rs2) = refl
joined-parts (N.Op Op.Sne rd rs1 rs2) = refl
joined-parts (N.OpImm Im.Andi rd rs1 imm) = refl
joined-parts (N.OpImm Im.Ori rd rs1 imm) = refl
joined-parts (N.OpImm Im.Xori rd rs1 imm) = refl
joined-parts (N.OpImm Im.Slli rd rs1 imm) = refl
joined-parts (N.OpImm Im.Srli rd rs1 imm) = refl
joined-parts (N.OpImm Im.Srai rd rs1 imm) = refl
joined-parts (N.Move Mv.Cmov rd rs1 rs2) = refl
joined-parts (N.Move Mv.Cmovz rd rs1 rs2) = refl
joined-parts (N.Move Mv.Cmovnz rd rs1 rs2) = refl
joined-parts (N.Load Ld.Lb rd rs1 imm) = refl
joined-parts (N.Load Ld.Lbu rd rs1 imm) = refl
joined-parts (N.Load Ld.Lh rd rs1 imm) = refl
joined-parts (N.Load Ld.Lhu rd rs1 imm) = refl
joined-parts (N.Load Ld.Lw rd rs1 imm) = refl
joined-parts (N.Load Ld.Ld rd rs1 imm) = refl
joined-parts (N.Store St.Sb rs1 rs2 imm) = refl
joined-parts (N.Store St.Sh rs1 rs2 imm) = refl
joined-parts (N.Store St.Sw rs1 rs2 imm) = refl
joined-parts (N.Store St.Sd rs1 rs2 imm) = refl
joined-parts (N.Branch Br.Beq rs1 rs2 imm) = refl
joined-parts (N.Branch Br.Bne rs1 rs2 imm) = refl
joined-parts (N.Branch Br.Blt rs1 rs2 imm) = refl
joined-parts (N.Branch Br.Bge rs1 rs2 imm) = refl
joined-parts (N.Branch Br.Bltu rs1 rs2 imm) = refl
joined-parts (N.Branch Br.Bgeu rs1 rs2 imm) = refl
joined-parts (N.Jal rd imm) = refl
joined-parts (N.Jalr rd rs1 imm) = refl
joined-parts N.Ecall = refl
joined-parts N.Ebreak = refl

-- the other operands are ignored
pub joined-kept : (p : Parts) → instruction_of (kept (form_of p.op) p) ≡ instruction_of p
joined-kept p = ap instruction_of (sym (parts-joined p)) ∙ joined-parts (instruction_of p)

-- the parts of an instruction have 0 for them
pub parts-kept : (i : Instruction) → parts_of i ≡ kept (form_of (parts_of i).op) (parts_of i)
parts-kept i = ap parts_of (sym (joined-parts i)) ∙ parts-joined (parts_of i)
