use Rattle.execute.proofs.Forms.{no-limb-form, decided}
use Rattle.execute.proofs.Ending.{went_call}
use Rattle.execute.proofs.Finish.{not-on-limbs}
use Rattle.opcode.specs.declared.Form.TheVariants as F
use Rattle.opcode.specs.declared.Opcode.TheVariants as O
use Rattle.instruction.specs.declared.Instruction.TheVariants.{Ecall}
use Rattle.effect.specs.Effects.{seen, effect}
use mathlib.Core.Path.{refl, ◌∙◌}
use Rattle.execute.proofs.alone.call.Goals as goal

pub returns : goal.returns
unfolding seen effect
returns c = λ m. not-on-limbs _ _ _ Ecall _ _ _ (no-limb-form _ _ F.Alone O.Ecall 0 0 0 0 _ refl refl) (rw (c.plus.ensures, c.settle_all.ensures) (went_call _ _ _ _) ∙ decided c.args.start Ecall _ m _ _ refl refl)
