-- With no list lent, none is kept.
use Prim.Native.Nat.{ℕ, zero, suc}
use mathlib.Core.Path.{◌≡◌, refl}
use mathlib.Core.Bool.{◌&&◌}
use mathlib.Core.List.{List}
use Rattle.execute.specs.World.{World}
use Rattle.execute.specs.Execute.{admits}
use Rattle.execute.specs.Rules.{Rules}
use Rattle.execute.specs.declared.Mode.{Mode}
use Rattle.pending.specs.Pending.{lists_fit, room_at, listing, no_lists}
use Rattle.pending.specs.declared.Check.{Check}
use Rattle.pending.proofs.Lists.{unlent-stays}
use Rattle.step.specs.Step.{step_of, goes_on}
use Rattle.run.specs.Run.{Answer, answer, preceded, following, loop, run}
use Rattle.agreement.proofs.Cases.{cond-case}

pub none-listed : (cs : List Check) (pc : ℕ) → listing cs pc no_lists ≡ no_lists
unfolding room_at
none-listed cs pc = unlent-stays cs pc no_lists refl

pub none_left : (k : Mode) (R : Rules) (w : World) → (step_of k R w no_lists).lists ≡ no_lists
unfolding step_of
none_left k R w = none-listed _ w.pc

abbrev Unlisted : Answer → Type 0
Unlisted a = a.lists ≡ no_lists

loop-unlisted : (n : ℕ) (k : Mode) (R : Rules) (w : World) → Unlisted (loop n k R w no_lists)
unfolding loop following
loop-unlisted zero k R w = refl
loop-unlisted (suc n) k R w =
    let s = step_of k R w no_lists in
    rw (none_left k R w)
    (cond-case Unlisted (goes_on s.went) (preceded 1 (loop n k R s.world no_lists)) (answer _ _ s.world no_lists)
    (λ _. loop-unlisted n k R s.world)
    (λ _. refl))

pub run-unlisted : (fuel : ℕ) (k : Mode) (R : Rules) (w : World) → Unlisted (run k R fuel w no_lists)
unfolding run
run-unlisted fuel k R w =
    cond-case Unlisted (admits k w.registers && lists_fit no_lists) _ (answer _ 0 w no_lists)
    (λ _. cond-case Unlisted w.halted (answer _ 0 w no_lists) (loop fuel k R w no_lists) (λ _. refl) (λ _. loop-unlisted fuel k R w))
    (λ _. refl)
