use Prim.Native.Nat.{◌-◌}
use mathlib.Core.Path.{◌≡◌}
use mathlib.Core.Bool.{false}
use lib.ListN.{get_or}
use lib.Seq.{sets}
use Rattle.memory.specs.Bytes.{bit}
use Rattle.layout.specs.Layout.{table}
use Rattle.lent.proofs.exported.lent_of.Given as goal

abbrev pub invariant-loop-i : goal.invariant-loop-i
invariant-loop-i l =
    sets l.kinds l.i (table (16 - l.i) l.i (λ k. bit (get_or l.registers.accumulated k false))) ≡ sets l.initial.kinds 0 (table 16 0 (λ k. bit (get_or l.registers.accumulated k false)))
