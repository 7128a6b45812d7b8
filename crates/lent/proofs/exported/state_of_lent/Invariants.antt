use Prim.Native.Nat.{◌-◌}
use mathlib.Core.Path.{◌≡◌}
use lib.ListN.{get_or}
use lib.Seq.{sets}
use lib.Dec.{eqb}
use Rattle.layout.specs.Layout.{table}
use Rattle.lent.proofs.exported.state_of_lent.Given as goal

abbrev pub invariant-loop-i : goal.invariant-loop-i
invariant-loop-i l =
    sets l.accumulated l.i (table (16 - l.i) l.i (λ k. eqb (get_or l.kinds k 0) 1)) ≡ sets l.initial.accumulated 0 (table 16 0 (λ k. eqb (get_or l.kinds k 0) 1))
