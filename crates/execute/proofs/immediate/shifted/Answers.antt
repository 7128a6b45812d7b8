use Rattle.opcode.specs.declared.Form.TheVariants as F
use Rattle.execute.proofs.Forms.{settled, decided, no-limb-form, none}
use Rattle.execute.proofs.Finish.{not-on-limbs}
use mathlib.Core.Path.{refl, ◌∙◌}
use Rattle.execute.proofs.immediate.shifted.Goals as goal

pub returns : goal.returns
returns c = λ m. not-on-limbs _ _ _ _ _ _ _ (no-limb-form _ _ F.Shift c.args.p.op c.args.p.a c.args.p.b c.args.p.c c.args.p.imm _ c.requires refl) (c.carry.ensures m ∙ decided c.args.start _ _ m _ _ (c.shift-turn.ensures.within (rw c.requires refl) m _ _ c.args.p.c _ _ c.read.ensures) (settled _ F.Shift c.args.p.op c.args.p.a _ c.args.p.c c.args.p.imm _ _ _ c.requires (none _)))
