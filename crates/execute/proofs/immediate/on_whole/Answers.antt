use Rattle.opcode.specs.declared.Form.TheVariants as F
use Rattle.execute.proofs.Forms.{settled, decided, none}
use mathlib.Core.Path.{refl, ◌∙◌}
use Rattle.execute.proofs.immediate.on_whole.Goals as goal

pub returns : goal.returns
returns c = c.carry.ensures _ ∙ decided c.args.start _ _ _ _ _ (c.decide-turn.ensures.within (rw c.requires refl) _ _ c.args.p.c _ _ c.read.ensures) (settled _ F.I c.args.p.op c.args.p.a _ c.args.p.c c.args.p.imm _ _ _ c.requires (none _))
