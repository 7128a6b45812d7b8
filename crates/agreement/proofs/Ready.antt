-- A run by its first step.
use Prim.Native.Nat.{ℕ, suc}
use mathlib.Core.Path.{◌≡◌, refl, ◌∙◌}
use mathlib.Core.Bool.{true, false}
use Rattle.refusal.specs.Stops.{refusal_of}
use Rattle.refusal.specs.declared.Stop.TheVariants as S
use Rattle.execute.specs.World.{World}
use Rattle.execute.specs.Rules.{Rules}
use Rattle.execute.specs.declared.Mode.{Mode}
use Rattle.execute.specs.declared.Went.{Went}
use Rattle.execute.specs.declared.Went.TheVariants as W
use Rattle.pending.specs.Pending.{Lists}
use Rattle.step.specs.Step.{Left, step, goes_on, counted}
use Rattle.step.proofs.Steps.{step-taken}
use Rattle.run.specs.Run.{answer, preceded, stop_of, following, loop, run}
use Rattle.agreement.specs.Keeping.{Capped}
use Rattle.agreement.specs.Fuel.{takes}
use Rattle.agreement.proofs.Taken.{takes-kept}
use Rattle.agreement.proofs.Went.{mark-kept}

-- one that takes its steps
pub record Ready (k : Mode) (w : World) (l : Lists) : Type 0 where
  pub taken : takes k w l ≡ true
  pub unhalted : w.halted ≡ false

pub on : (g : Went) → goes_on g ≡ true → g ≡ W.On
unfolding goes_on
on W.On e = refl
on W.Ebreak e = cc
on W.Ecall e = cc
on (W.Refused r) e = cc

module _ (k : Mode) (R : Rules) (w : World) (l : Lists) where
  -- the two that take none
  pub run-malformed : (fuel : ℕ) → takes k w l ≡ false → run k R fuel w l ≡ answer (S.Refused (refusal_of 9 0)) 0 w l
  unfolding run
  run-malformed fuel t = rw t

  pub run-halted : (fuel : ℕ) → takes k w l ≡ true → w.halted ≡ true → run k R fuel w l ≡ answer S.Ebreak 0 w l
  unfolding run
  run-halted fuel t h = rw (t, h)

  run-is-loop : (fuel : ℕ) → Ready k w l → run k R fuel w l ≡ loop fuel k R w l
  unfolding run
  run-is-loop fuel ready = rw (ready.taken, ready.unhalted)

module _ (k : Mode) (R : Rules) (c : Capped R.notes) (w : World) (l : Lists) (ready : Ready k w l) where
  abbrev first : Left
  first = step k R w l

  pub ready_on : goes_on first.went ≡ true → Ready k first.world first.lists
  ready_on e =
      let inner = step-taken k R w l ready.taken in
      rw (← inner)
      record { taken = takes-kept k R c w l ready.taken; unhalted = mark-kept k R w l (on _ (rw (← inner) at e)) ∙ ready.unhalted }

  pub run_none : run k R 0 w l ≡ answer S.Fuel 0 w l
  unfolding loop
  run_none = run-is-loop k R w l 0 ready

  pub run_on : (n : ℕ) → goes_on first.went ≡ true → run k R (suc n) w l ≡ preceded 1 (run k R n first.world first.lists)
  unfolding loop following
  run_on n e =
      run-is-loop k R w l (suc n) ready
      ∙ rw (step-taken k R w l ready.taken, e, run-is-loop k R first.world first.lists n (ready_on e))

  pub run_ends : (n : ℕ) → goes_on first.went ≡ false
      → run k R (suc n) w l ≡ answer (stop_of first.went) (counted first.went) first.world first.lists
  unfolding loop following
  run_ends n e = run-is-loop k R w l (suc n) ready ∙ rw (step-taken k R w l ready.taken, e)
