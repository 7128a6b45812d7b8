use Prim.Native.Nat.{◌-◌, ◌≤◌}
use lib.ListN.{length}
use Rattle.labels.proofs.Steps.{Going}
use Rattle.programs.specs.Code.{is_text}
use Rattle.programs.proofs.spans.line_feed.Given as goal

abbrev pub invariant-loop-n : goal.invariant-loop-n
invariant-loop-n l = (l.n ≤ length l.s) × Going is_text l.s l.at l.n

abbrev pub decreases-loop-n : goal.decreases-loop-n
decreases-loop-n l = length l.s - l.n
