use Prim.Native.Nat.{◌-◌}
use lib.Seq.{sets}
use mathlib.Core.Bool.{◌&&◌}
use mathlib.Core.Path.{◌≡◌}
use Rattle.state.specs.Held.{kept, waits}
use Rattle.state.specs.Formed.{all_below}
use Rattle.layout.specs.Layout.{table, held_in, bound_in, record_laid}
use Rattle.layout.proofs.reading.read.Given as goal

abbrev pub invariant-loop-i : goal.invariant-loop-i
invariant-loop-i l =
    (sets l.values l.i (table (16 - l.i) l.i (λ k. kept (held_in l.bytes k))) ≡ sets l.initial.values 0 (table 16 0 (λ k. kept (held_in l.bytes k))))
    × (sets l.accumulated l.i (table (16 - l.i) l.i (λ k. waits (held_in l.bytes k))) ≡ sets l.initial.accumulated 0 (table 16 0 (λ k. waits (held_in l.bytes k))))
    × (sets l.bounds l.i (table (16 - l.i) l.i (bound_in l.bytes)) ≡ sets l.initial.bounds 0 (table 16 0 (bound_in l.bytes)))
    × (l.laid ≡ (all_below (record_laid l.bytes) l.i && l.initial.laid))
