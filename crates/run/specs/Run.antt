-- The fuelled run, by recursion on the fuel.
use Rattle.std.specs.Prelude.{ℕ, zero, suc, ◌+◌, cond, ◌&&◌, List}
use Rattle.refusal.specs.Stops.{refusal_of}
use Rattle.refusal.specs.declared.Stop.{Stop}
use Rattle.refusal.specs.declared.Stop.TheVariants as S
use Rattle.execute.specs.World.{World, world_of}
use Rattle.execute.specs.Execute.{admits}
use Rattle.execute.specs.declared.Mode.{Mode}
use Rattle.execute.specs.declared.Went.{Went}
use Rattle.execute.specs.declared.Went.TheVariants as W
use Rattle.pending.specs.Pending.{Lists, lists, lists_fit}
use Rattle.execute.specs.Rules.{Rules}
use Rattle.step.specs.Step.{Left, step_of, goes_on, counted}
use Rattle.run.specs.declared.Ran.{Ran}

pub record Answer : Type 0 where
  pub stop : Stop
  pub steps : ℕ
  pub world : World
  pub lists : Lists

abbrev pub answer : Stop → ℕ → World → Lists → Answer
answer p n w l = record { stop = p; steps = n; world = w; lists = l }

-- an answer with n steps before it
abbrev pub preceded : ℕ → Answer → Answer
preceded n a = answer a.stop (n + a.steps) a.world a.lists

-- the stop of a step that doesn't go on
unfoldable pub stop_of : Went → Stop
stop_of W.On = S.Fuel
stop_of W.Ebreak = S.Ebreak
stop_of W.Ecall = S.Ecall
stop_of (W.Refused r) = S.Refused r

unfoldable pub following : Left → (World → Lists → Answer) → Answer
following s rest = cond (goes_on s.went) (preceded 1 (rest s.world s.lists)) (answer (stop_of s.went) (counted s.went) s.world s.lists)

-- at most n steps
unfoldable pub loop : ℕ → Mode → Rules → World → Lists → Answer
loop zero k R w l = answer S.Fuel 0 w l
loop (suc n) k R w l = following (step_of k R w l) (loop n k R)

-- "A run tests 9 first; then a halted state answers Ebreak at 0 steps, before fuel is looked at"
unfoldable pub run : Mode → Rules → ℕ → World → Lists → Answer
run k R fuel w l =
    cond (admits k w.registers && lists_fit l)
    (cond w.halted (answer S.Ebreak 0 w l) (loop fuel k R w l))
    (answer (S.Refused (refusal_of 9 0)) 0 w l)

-- what the code gives back, with what was lent to it
abbrev pub ran : Ran → List ℕ → List ℕ → List ℕ → List ℕ → Answer
ran r m vs bs ps = answer r.stop r.steps (world_of r.state m) (lists r.count vs bs ps)
