-- What the exported step comes to, from what its three calls said.
use Prim.Native.Nat.{ℕ}
use mathlib.Core.Path.{◌≡◌, refl, ap, ◌∙◌}
use mathlib.Core.Bool.{Bool, true, false, ◌&&◌}
use mathlib.Core.List.{List}
use lib.Dec.{leb}
use Rattle.refusal.specs.Stops.{refusal_of}
use Rattle.state.specs.Formed.{well_formed, zero_fits, is_zero}
use Rattle.state.specs.Held.{held_of}
use Rattle.execute.specs.World.{world_of}
use Rattle.execute.specs.Execute.{admits}
use Rattle.execute.specs.Rules.{document_rules, rules_of}
use Rattle.execute.specs.declared.Mode.TheVariants.{Deferred}
use Rattle.execute.specs.declared.Went.TheVariants as W
use Rattle.pending.specs.Pending.{Lists}
use Rattle.step.specs.Step.{Left, left, step}
use Rattle.step.specs.declared.OneStep.{OneStep}
use Rattle.step.proofs.Steps.{step-malformed}
use Rattle.checked.specs.Machine.{stepped_over}
use Rattle.checks.specs.declared.Pending.{Pending}
use Rattle.lent.specs.Lent.{lent_step, laid, lent_served, record_after, step_lent}
use Rattle.lent.specs.Inner.{shut, readied, concluded}
use Rattle.lent.specs.declared.exported.Lent.{Lent}
use Rattle.lent.specs.declared.exported.Ready.{Ready}
use Rattle.lent.specs.declared.exported.Done.{Done}
use Rattle.checks.specs.Records.{listed}

-- no step takes the state that stands for a forbidden record
refuses : (m : List ℕ) (l : Lists) → left (W.Refused (refusal_of 9 0)) (world_of shut m) l ≡ step Deferred document_rules (world_of shut m) l
unfolding admits well_formed zero_fits is_zero held_of
refuses m l = step-malformed Deferred document_rules (world_of shut m) l refl

stepped-is : (mode : ℕ) (r : Lent) (m : List ℕ) (l : Lists) → lent_served r (step (readied r mode).choices.mode document_rules (world_of (readied r mode).state m) l) ≡ step_lent mode r m l
unfolding readied step_lent record_after
stepped-is mode r m l = told (leb mode 1 && laid r) refl
  where
    told : (t : Bool) → (leb mode 1 && laid r) ≡ t → lent_served r (step (readied r mode).choices.mode document_rules (world_of (readied r mode).state m) l) ≡ step_lent mode r m l
    told true e = rw e
    told false e = rw (e, ← refuses m l)

pub says-lent : (mode : ℕ) (r : Lent) (m m' : List ℕ) (n : ℕ) (l l' : List Pending) (a : Ready) (s : OneStep) (d : Done) → a ≡ readied r mode
    → stepped_over s m' l' ≡ step a.choices.mode (rules_of a.choices) (world_of a.state m) (listed n l) → d ≡ concluded r s
    → lent_step d.answer d.lent m' (listed d.answer.count l') ≡ step_lent mode r m (listed n l)
says-lent mode r m m' n l l' a s d e f g = rw g (ap (λ (x : Left). lent_served r x) f ∙ rw e (stepped-is mode r m (listed n l)))
