use Rattle.effect.specs.Effects.{seen}
use Rattle.opcode.specs.declared.Form.TheVariants as F
use Rattle.execute.proofs.Forms.{settled, decided}
use mathlib.Core.Path.{refl, ◌∙◌}
use Rattle.execute.proofs.registers.on_whole.Goals as goal

pub returns : goal.returns
unfolding seen
returns c = λ m. c.carry.ensures m ∙ decided c.args.start _ _ m _ _ (c.decide-deed.ensures.within (rw c.requires refl) _ _ _ c.args.p.imm _ m c.read.ensures) (settled _ F.R c.args.p.op c.args.p.a _ _ c.args.p.imm _ _ _ c.requires refl)
