-- A run's steps and its fuel, by the single step taken over and over.
use Rattle.std.specs.Prelude.{ℕ, zero, suc, ◌≤◌, ◌<◌, ◌≡◌, Bool, true, false, cond, ◌&&◌}
use Rattle.refusal.specs.Stops.{refusal_of}
use Rattle.refusal.specs.declared.Stop.{Stop}
use Rattle.refusal.specs.declared.Stop.TheVariants as S
use Rattle.execute.specs.World.{World}
use Rattle.execute.specs.Execute.{admits}
use Rattle.execute.specs.Rules.{Rules}
use Rattle.execute.specs.declared.Mode.{Mode}
use Rattle.execute.specs.declared.Went.TheVariants as W
use Rattle.pending.specs.Pending.{Lists, lists_fit}
use Rattle.step.specs.Step.{Left, left, step}
use Rattle.run.specs.Run.{Answer, answer, preceded}

-- n times the step, whatever each says: how the last one went, and what it left
unfoldable pub times : ℕ → Mode → Rules → Left → Left
times zero k R s = s
times (suc n) k R s = times n k R (step k R s.world s.lists)

-- the n-th step from w and l, counted from 1; before the first, all is as it is
abbrev pub nth : Mode → Rules → World → Lists → ℕ → Left
nth k R w l n = times n k R (left W.On w l)

-- "A run tests 9 first"
abbrev pub takes : Mode → World → Lists → Bool
takes k w l = admits k w.registers && lists_fit l

-- what a run's stop says of its last step, the n-th, and of the next; s i is the i-th
unfoldable pub StopTells : ℕ → (ℕ → Left) → ℕ → Stop → Type 0
StopTells fuel s n S.Fuel = (n ≡ fuel) × ((s n).went ≡ W.On)
StopTells fuel s n S.Ebreak = (s n).went ≡ W.Ebreak
StopTells fuel s n S.Ecall = (s n).went ≡ W.Ecall
StopTells fuel s n (S.Refused r) = (n < fuel) × ((s n).went ≡ W.On) × ((s (suc n)).went ≡ W.Refused r)

-- "The answer counts completed instructions": all before the last went on, the last went as the stop says, and what they leave is left
pub record Counts (fuel : ℕ) (s : ℕ → Left) (a : Answer) : Type 0 where
  pub before : (i : ℕ) → i < a.steps → (s i).went ≡ W.On
  pub stop : StopTells fuel s a.steps a.stop
  pub world : a.world ≡ (s a.steps).world
  pub lists : a.lists ≡ (s a.steps).lists

-- the answer a of a run from w and l, told by the single steps: one that is malformed or halted takes none, whatever the fuel
pub record BySteps (k : Mode) (R : Rules) (fuel : ℕ) (w : World) (l : Lists) (a : Answer) : Type 0 where
  pub malformed : takes k w l ≡ false → a ≡ answer (S.Refused (refusal_of 9 0)) 0 w l
  pub halted : takes k w l ≡ true → w.halted ≡ true → a ≡ answer S.Ebreak 0 w l
  pub counts : takes k w l ≡ true → w.halted ≡ false → Counts fuel (nth k R w l) a
  -- the other way: as long as steps go on, fuel alone stops
  pub dry : takes k w l ≡ true → w.halted ≡ false → ((i : ℕ) → i ≤ fuel → (nth k R w l i).went ≡ W.On)
      → a ≡ answer S.Fuel fuel (nth k R w l fuel).world (nth k R w l fuel).lists

-- whether a run may go on with more fuel
unfoldable pub ran_dry : Stop → Bool
ran_dry S.Fuel = true
ran_dry S.Ebreak = false
ran_dry S.Ecall = false
ran_dry (S.Refused r) = false

-- the run that answers a, and then, where it stopped on fuel, the one that answers b: the steps of both, and what the second leaves
unfoldable pub continued : Answer → Answer → Answer
continued a b = cond (ran_dry a.stop) (preceded a.steps b) a
