-- A run's steps are those of the single step, taken over and over.
use Prim.Native.Nat.{ℕ, zero, suc, ◌+◌, ◌≤◌, ◌<◌}
use mathlib.Core.Path.{◌≡◌, refl, ap, ◌∙◌}
use mathlib.Core.Bool.{true, false}
use native.Mathlib.Omega.{arith}
use Rattle.refusal.specs.declared.Refusal.{Refusal}
use Rattle.refusal.specs.declared.Stop.{Stop}
use Rattle.refusal.specs.declared.Stop.TheVariants as S
use Rattle.execute.specs.Rules.{Rules}
use Rattle.execute.specs.declared.Mode.{Mode}
use Rattle.execute.specs.declared.Went.{Went}
use Rattle.execute.specs.declared.Went.TheVariants as W
use Rattle.step.specs.Step.{Left, left, step, goes_on, counted}
use Rattle.step.proofs.Steps.{step-taken}
use Rattle.run.specs.Run.{Answer, answer, preceded, stop_of, run}
use Rattle.agreement.specs.Keeping.{Capped}
use Rattle.agreement.specs.Fuel.{times, takes, StopTells, Counts}
use Rattle.agreement.specs.Statements.{RunsAreSteps}
use Rattle.agreement.proofs.Cases.{test-case}
use Rattle.agreement.proofs.Refused.{inner-restores}
use Rattle.agreement.proofs.Ready.{Ready, on, run-malformed, run-halted, run_none, run_on, run_ends, ready_on}

-- ---- the steps s, of which t are those after the first
module _ (fuel : ℕ) (s t : ℕ → Left) (start : (s 0).went ≡ W.On) (shift : (i : ℕ) → s (suc i) ≡ t i) where
  says-later : (n : ℕ) (p : Stop) → StopTells fuel t n p → StopTells (suc fuel) s (suc n) p
  unfolding StopTells
  says-later n S.Fuel e = (omega arith, rw (shift n) e.1)
  says-later n S.Ebreak e = rw (shift n) e
  says-later n S.Ecall e = rw (shift n) e
  says-later n (S.Refused r) e = (omega arith, rw (shift n) e.1, rw (shift (suc n)) e.2)

  before-later : (n i : ℕ) → ((j : ℕ) → j < n → (t j).went ≡ W.On) → i < suc n → (s i).went ≡ W.On
  before-later n zero f h = start
  before-later n (suc i) f h = rw (shift i) (f i (omega arith))

  counts-later : (a : Answer) → Counts fuel t a → Counts (suc fuel) s (preceded 1 a)
  counts-later a c =
      let z : 1 + a.steps ≡ suc a.steps = omega arith in
      rw z
      record {
        before = λ i. before-later a.steps i c.before;
        stop = says-later a.steps a.stop c.stop;
        world = rw (shift a.steps) c.world;
        lists = rw (shift a.steps) c.lists;
      }

-- ---- a first step that doesn't go on
module _ (fuel : ℕ) (s : ℕ → Left) (start : (s 0).went ≡ W.On) where
  alone : (i : ℕ) → i < 1 → (s i).went ≡ W.On
  alone zero h = start
  alone (suc i) h = absurd (omega arith)

  -- a refused one leaves everything as it was
  counts-ended : (g : Went) → (s 1).went ≡ g → goes_on g ≡ false → ((r : Refusal) → g ≡ W.Refused r → ((s 1).world ≡ (s 0).world) × ((s 1).lists ≡ (s 0).lists))
      → Counts (suc fuel) s (answer (stop_of g) (counted g) (s 1).world (s 1).lists)
  unfolding goes_on stop_of counted StopTells
  counts-ended W.On e f same = let z : ◌≡◌ {A = ℕ} 0 1 = cc in absurd (omega arith)
  counts-ended W.Ebreak e f same = record { before = alone; stop = e; world = refl; lists = refl }
  counts-ended W.Ecall e f same = record { before = alone; stop = e; world = refl; lists = refl }
  counts-ended (W.Refused r) e f same =
      record { before = λ i h. absurd (omega arith); stop = (omega arith, start, e); world = (same r refl).0; lists = (same r refl).1 }

-- ---- the run from where a step that went on has led
module _ (k : Mode) (R : Rules) (c : Capped R.notes) where
  abbrev again : Left → Left
  again s = step k R s.world s.lists

  refused-same : (s : Left) → takes k s.world s.lists ≡ true → (r : Refusal) → (again s).went ≡ W.Refused r → ((again s).world ≡ s.world) × ((again s).lists ≡ s.lists)
  refused-same s t r = rw (← step-taken k R s.world s.lists t) (inner-restores k R s.world s.lists r)

  counts : (fuel : ℕ) (s : Left) → s.went ≡ W.On → Ready k s.world s.lists → Counts fuel (λ n. times n k R s) (run k R fuel s.world s.lists)
  unfolding times StopTells
  counts zero s e ready =
      rw (run_none k R c s.world s.lists ready)
      record { before = λ i h. absurd (omega arith); stop = (refl, e); world = refl; lists = refl }
  counts (suc fuel) s e ready =
      test-case (goes_on (again s).went)
      (λ g.
      rw (run_on k R c s.world s.lists ready fuel g)
      (counts-later fuel (λ n. times n k R s) (λ n. times n k R (again s)) e (λ i. refl) _
      (counts fuel (again s) (on _ g) (ready_on k R c s.world s.lists ready g))))
      (λ g.
      rw (run_ends k R c s.world s.lists ready fuel g)
      (counts-ended fuel (λ n. times n k R s) e (again s).went refl g (refused-same s ready.taken)))

  dry : (n : ℕ) (s : Left) → Ready k s.world s.lists → ((i : ℕ) → i ≤ n → (times i k R s).went ≡ W.On)
      → run k R n s.world s.lists ≡ answer S.Fuel n (times n k R s).world (times n k R s).lists
  unfolding times goes_on
  dry zero s ready f = run_none k R c s.world s.lists ready
  dry (suc n) s ready f =
      let g : goes_on (again s).went ≡ true = rw (f 1 (omega arith)) in
      let rest = dry n (again s) (ready_on k R c s.world s.lists ready g) (λ i h. f (suc i) (omega arith)) in
      run_on k R c s.world s.lists ready n g
      ∙ ap (preceded 1) rest
      ∙ ap (λ (i : ℕ). answer S.Fuel i (times n k R (again s)).world (times n k R (again s)).lists) (omega arith)

pub runs-are-steps : RunsAreSteps
runs-are-steps R c k fuel w l =
    record {
      malformed = run-malformed k R w l fuel;
      halted = run-halted k R w l fuel;
      counts = λ t h. counts k R c fuel (left W.On w l) refl record { taken = t; unhalted = h };
      dry = λ t h. dry k R c fuel (left W.On w l) record { taken = t; unhalted = h };
    }
