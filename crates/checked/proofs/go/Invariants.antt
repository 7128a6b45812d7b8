use Rattle.std.proofs.Common.{◌≡◌, ◌+◌, ◌^◌, ◌<◌}
use Rattle.run.specs.Legs.{comes_to}
use Rattle.run.proofs.Loops.{ahead}
use Rattle.checks.specs.Records.{listed}
use Rattle.checked.proofs.go.Given as goal

abbrev pub invariant-loop-r : goal.invariant-loop-r
invariant-loop-r l =
    (l.r.steps + l.r.left < 2 ^ 64) × (comes_to l.r l.m (listed l.count l.list) ≡ comes_to l.initial.r l.initial.m (listed l.initial.count l.initial.list))

abbrev pub decreases-loop-r : goal.decreases-loop-r
decreases-loop-r l = ahead l.r
