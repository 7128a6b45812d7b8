use Rattle.opcode.specs.declared.Form.TheVariants as F
use Rattle.execute.proofs.Forms.{settled, decided, no-limb-form, stored}
use Rattle.execute.proofs.Ending.{went-stores, went-unstored}
use Rattle.execute.proofs.Finish.{not-on-limbs}
use mathlib.Core.Path.{refl, sym, ◌∙◌}
use Rattle.execute.proofs.store.executed.Goals as goal

pub returns-in-Ok : goal.returns-in-Ok
returns-in-Ok c = not-on-limbs _ _ _ _ _ _ _ (no-limb-form _ _ F.S c.args.p.op c.args.p.a c.args.p.b c.args.p.c c.args.p.imm _ c.requires refl) (rw (c.onward.ensures, c.settle_two.ensures) (went-stores _ _ _ _ _ _ _ _ c.stored.ensures.1 (sym c.in-Ok.is ∙ c.stored.ensures.0)) ∙ decided c.args.start _ _ _ _ _ (stored _ c.args.p.op c.args.p.a c.args.p.b c.args.p.c c.args.p.imm _ _ _ c.requires) (settled _ F.S c.args.p.op c.args.p.a c.args.p.b c.args.p.c c.args.p.imm _ _ _ c.requires refl))

pub returns-in-Err : goal.returns-in-Err
returns-in-Err c = not-on-limbs _ _ _ _ _ _ _ (no-limb-form _ _ F.S c.args.p.op c.args.p.a c.args.p.b c.args.p.c c.args.p.imm _ c.requires refl) (rw c.refuse.ensures (went-unstored _ _ _ _ _ _ _ _ _ c.stored.ensures.1 (sym c.in-Err.is ∙ c.stored.ensures.0)) ∙ decided c.args.start _ _ _ _ _ (stored _ c.args.p.op c.args.p.a c.args.p.b c.args.p.c c.args.p.imm _ _ _ c.requires) refl)
