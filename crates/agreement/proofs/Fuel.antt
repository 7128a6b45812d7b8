-- A run's fuel: its steps are never more, and a run of f + g is two runs.
use Prim.Native.Nat.{ℕ, zero, suc, ◌+◌, ◌≤◌}
use mathlib.Core.Path.{◌≡◌, refl, ap, ◌∙◌}
use mathlib.Core.Bool.{Bool, true, false, cond}
use native.Mathlib.Omega.{arith}
use Rattle.execute.specs.World.{World}
use Rattle.execute.specs.Rules.{Rules}
use Rattle.execute.specs.declared.Mode.{Mode}
use Rattle.execute.specs.declared.Went.{Went}
use Rattle.execute.specs.declared.Went.TheVariants as W
use Rattle.pending.specs.Pending.{Lists}
use Rattle.step.specs.Step.{step_of, step, goes_on, counted}
use Rattle.step.proofs.Legs.{at_most_one}
use Rattle.run.specs.Run.{Answer, answer, preceded, stop_of, following, loop, run}
use Rattle.agreement.specs.Keeping.{Capped}
use Rattle.agreement.specs.Fuel.{takes, ran_dry, continued}
use Rattle.agreement.specs.Statements.{RunsWithinFuel, RunsContinue}
use Rattle.agreement.proofs.Cases.{cond-case, test-case}
use Rattle.agreement.proofs.Ready.{Ready, run-malformed, run-halted, run_none, run_on, run_ends, ready_on}

-- ---- never more
loop-within : (n : ℕ) (k : Mode) (R : Rules) (w : World) (l : Lists) → (loop n k R w l).steps ≤ n
unfolding loop following
loop-within zero k R w l = omega arith
loop-within (suc n) k R w l =
    let s = step_of k R w l in
    cond-case (λ (a : Answer). a.steps ≤ suc n) (goes_on s.went) (preceded 1 (loop n k R s.world s.lists)) (answer _ (counted s.went) _ _)
    (λ _. omega (arith, loop-within n k R s.world s.lists))
    (λ _. omega (arith, at_most_one s.went))

pub runs-within : RunsWithinFuel
unfolding run
runs-within R k fuel w l =
    cond-case (λ (a : Answer). a.steps ≤ fuel) (takes k w l) _ (answer _ 0 _ _)
    (λ _. cond-case (λ (a : Answer). a.steps ≤ fuel) w.halted (answer _ 0 _ _) (loop fuel k R w l) (λ _. omega arith) (λ _. loop-within fuel k R w l))
    (λ _. omega arith)

-- ---- two runs
dry-on : (g : Went) → ran_dry (stop_of g) ≡ goes_on g
unfolding ran_dry stop_of goes_on
dry-on W.On = refl
dry-on W.Ebreak = refl
dry-on W.Ecall = refl
dry-on (W.Refused r) = refl

-- the answer of none before it
after_none : (a : Answer) → a ≡ preceded 0 a
after_none a = ap (λ (i : ℕ). answer a.stop i a.world a.lists) (omega arith)

-- a step before two runs
continued-after : (a b : Answer) → preceded 1 (continued a b) ≡ continued (preceded 1 a) b
unfolding continued
continued-after a b = told (ran_dry a.stop)
  where
    told : (t : Bool) → preceded 1 (cond t (preceded a.steps b) a) ≡ cond t (preceded (1 + a.steps) b) (preceded 1 a)
    told true = ap (λ (i : ℕ). answer b.stop i b.world b.lists) (omega arith)
    told false = refl

-- a run that doesn't stop on fuel stays as it is
stays : (a b : Answer) → ran_dry a.stop ≡ false → a ≡ continued a b
unfolding continued
stays a b e = rw e

abbrev onward : Mode → Rules → ℕ → Answer → Answer
onward k R g a = continued a (run k R g a.world a.lists)

module _ (k : Mode) (R : Rules) (c : Capped R.notes) (g : ℕ) where
  continue : (f : ℕ) (w : World) (l : Lists) → Ready k w l → run k R (f + g) w l ≡ onward k R g (run k R f w l)
  unfolding continued ran_dry
  continue zero w l ready = let z : 0 + g ≡ g = omega arith in rw (z, run_none k R c w l ready) (after_none (run k R g w l))
  continue (suc f) w l ready =
      let s = step k R w l in
      let z : suc f + g ≡ suc (f + g) = omega arith in
      test-case (goes_on s.went)
      (λ e.
      rw (z, run_on k R c w l ready (f + g) e, run_on k R c w l ready f e)
      (ap (preceded 1) (continue f s.world s.lists (ready_on k R c w l ready e)) ∙ continued-after (run k R f s.world s.lists) _))
      (λ e. rw (z, run_ends k R c w l ready (f + g) e, run_ends k R c w l ready f e) (stays _ _ (dry-on s.went ∙ e)))

pub runs-continue : RunsContinue
unfolding ran_dry
runs-continue R c k f g w l =
    test-case (takes k w l)
    (λ p.
    test-case w.halted
    (λ q. rw (run-halted k R w l (f + g) p q, run-halted k R w l f p q) (stays _ _ refl))
    (λ q. continue k R c g f w l record { taken = p; unhalted = q }))
    (λ p. rw (run-malformed k R w l (f + g) p, run-malformed k R w l f p) (stays _ _ refl))
