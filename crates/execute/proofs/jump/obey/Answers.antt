use Rattle.forms.specs.Forms.{used_bits}
use Rattle.execute.proofs.Forms.{obeyed-made, no-limb-form, decided, jumped, unsettled}
use Rattle.execute.proofs.Ending.{went-writes}
use Rattle.execute.proofs.Finish.{not-on-limbs}
use Rattle.opcode.specs.declared.Form.TheVariants as F
use Rattle.state.specs.Held.{kept, waits}
use native.Mathlib.Omega.{arith}
use mathlib.Core.Path.{sym, refl, ◌∙◌}
use Rattle.execute.proofs.jump.obey.Goals as goal

pub returns : goal.returns
unfolding used_bits kept waits
returns c = λ m. obeyed-made _ _ _ _ F.J 0 _ (sym c.requires) (omega (arith, c.ranges)) _ _ _ refl c.immediate.ensures c.parts-p.ensures (not-on-limbs _ _ _ _ _ _ _ (no-limb-form _ _ F.J c.parts-p.result.op c.parts-p.result.a c.parts-p.result.b c.parts-p.result.c c.parts-p.result.imm _ (rw c.parts-p.ensures c.requires) refl) (rw (c.to.ensures, c.plus.ensures) (went-writes _ _ _ _ _ _ _ _ (rw (c.from_constant-bits.ensures, c.plus-link.ensures) at c.write.ensures)) ∙ decided c.args.start _ _ m _ _ (jumped _ c.parts-p.result.op c.parts-p.result.a c.parts-p.result.b c.parts-p.result.c c.parts-p.result.imm _ _ m (rw c.parts-p.ensures c.requires)) (unsettled _ c.parts-p.result.op c.parts-p.result.a c.parts-p.result.b c.parts-p.result.c c.parts-p.result.imm _ (rw c.parts-p.ensures c.requires))))
