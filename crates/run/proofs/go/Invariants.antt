use Rattle.std.proofs.Common.{◌≡◌, ◌+◌, ◌^◌, ◌<◌, length}
use Rattle.pending.specs.Pending.{lists}
use Rattle.run.specs.Legs.{comes_to}
use Rattle.run.proofs.Loops.{ahead}
use Rattle.run.proofs.go.Given as goal

abbrev pub invariant-loop-r : goal.invariant-loop-r
invariant-loop-r l =
    (length l.m ≡ length l.initial.m) × (length l.values ≡ length l.initial.values) × (length l.bounds ≡ length l.initial.bounds) × (length l.pcs ≡ length l.initial.pcs)
    × (l.r.steps + l.r.left < 2 ^ 64) × (comes_to l.r l.m (lists l.listed l.values l.bounds l.pcs) ≡ comes_to l.initial.r l.initial.m (lists l.initial.listed l.initial.values l.initial.bounds l.initial.pcs))

abbrev pub decreases-loop-r : goal.decreases-loop-r
decreases-loop-r l = ahead l.r
