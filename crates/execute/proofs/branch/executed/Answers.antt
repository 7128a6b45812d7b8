use Rattle.execute.proofs.Forms.{settled, decided, no-limb-form, branched}
use Rattle.opcode.specs.declared.Form.TheVariants as F
use Rattle.execute.proofs.Ending.{went_to}
use Rattle.execute.proofs.Finish.{not-on-limbs}
use mathlib.Core.Path.{refl, ◌∙◌}
use Rattle.execute.proofs.branch.executed.Goals as goal

pub returns : goal.returns
returns c = λ m. not-on-limbs _ _ _ _ _ _ _ (no-limb-form _ _ F.B c.args.p.op c.args.p.a c.args.p.b c.args.p.c c.args.p.imm _ c.requires refl) (rw (c.to.ensures, c.next_pc-next.ensures, c.settle_two.ensures) (went_to _ _ _ _) ∙ decided c.args.start _ _ m _ _ (branched _ c.args.p.op c.args.p.a c.args.p.b c.args.p.c c.args.p.imm _ _ m c.requires) (settled _ F.B c.args.p.op c.args.p.a c.args.p.b c.args.p.c c.args.p.imm _ _ _ c.requires refl))
