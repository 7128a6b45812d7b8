use mathlib.Core.Path.{◌≡◌}
use Prim.Native.Nat.{◌-◌}
use lib.ListN.{length}
use Rattle.execute.specs.World.{world}
use Rattle.execute.specs.Rules.{rules_of}
use Rattle.step.specs.Leg.{later, leg_in}
use Rattle.step.proofs.leg.advance.Given as goal

abbrev pub invariant-loop-n : goal.invariant-loop-n
invariant-loop-n l =
    (length l.m ≡ length l.initial.m)
    × (later l.n (leg_in (l.fuel - l.n) l.choices.mode l.room (rules_of l.choices) (world l.pc l.halted l.registers l.m))
    ≡ leg_in l.fuel l.choices.mode l.room (rules_of l.choices) (world l.initial.pc l.initial.halted l.initial.registers l.initial.m))
