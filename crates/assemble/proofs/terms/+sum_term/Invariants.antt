use Rattle.std.proofs.Common.{◌≤◌, ◌+◌, ◌*◌, length}
use Rattle.assemble.proofs.terms.+sum_term.Given as goal

abbrev pub decreases-sum : goal.decreases-sum
decreases-sum l = 2 * l.depth + 1

abbrev pub decreases-term : goal.decreases-term
decreases-term l = 2 * l.depth

-- what is read is behind what was given
abbrev pub invariant-sum-loop-rest : goal.invariant-sum-loop-rest
invariant-sum-loop-rest l = length l.rest ≤ length l.fn.rest

abbrev pub decreases-sum-loop-rest : goal.decreases-sum-loop-rest
decreases-sum-loop-rest l = length l.rest
