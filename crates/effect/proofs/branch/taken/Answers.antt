use borrow.Enum.Refused.{opened}
use Rattle.instruction.specs.declared.BranchKind.{BranchKind}
use mathlib.Core.Path.{refl, ap}
use denote.Enum.Declared.{tag_of}
use Rattle.effect.specs.Operations.{taken}
use Rattle.instruction.proofs.Kindred.{others}
use Rattle.instruction.specs.contracts.BranchKind as Kind
use Rattle.instruction.specs.Kinds.{branch_kind_of}
use Rattle.instruction.specs.declared.BranchKind.TheVariants.{Beq}
use Rattle.opcode.specs.Opcodes.{all}
use Rattle.effect.proofs.branch.taken.Goals as goal

pub returns-in-Bne : goal.returns-in-Bne
unfolding taken
returns-in-Bne c = rw c.in-Bne.is

pub returns-in-Blt : goal.returns-in-Blt
unfolding taken
returns-in-Blt c = rw (c.in-Blt.is, c.slt.ensures)

pub returns-in-Bge : goal.returns-in-Bge
unfolding taken
returns-in-Bge c = rw (c.in-Bge.is, c.slt-in-Bge.ensures)

pub returns-in-Bltu : goal.returns-in-Bltu
unfolding taken
returns-in-Bltu c = rw (c.in-Bltu.is, c.ult.ensures)

pub returns-in-Bgeu : goal.returns-in-Bgeu
unfolding taken
returns-in-Bgeu c = rw (c.in-Bgeu.is, c.ult-in-Bgeu.ensures)

pub returns-in_default : goal.returns-in_default
unfolding taken all
returns-in_default c = ap (λ (k : BranchKind). taken k c.args.s c.args.t) (others (tag_of Kind.the_type) branch_kind_of Beq refl c.args.op (opened c.in_default.in_default-own.keys6))
