use Prim.Native.Nat.{ℕ, suc, ◌+◌, ◌-◌, ◌≤◌, ◌<◌}
use mathlib.Core.Path.{◌≡◌}
use lib.ListN.{length, drop}
use Rattle.sums.specs.Reader.{sum_read, term_read, more_by}
use Rattle.sums.specs.Code.{look_in}
use Rattle.sums.proofs.+sum_term.Given as goal

-- `sum` calls `term` as deep as it is, and `term` calls `sum` one level less deep
abbrev pub decreases-sum : goal.decreases-sum
decreases-sum l = l.depth + l.depth + 1

abbrev pub decreases-term : goal.decreases-term
decreases-term l = l.depth + l.depth

abbrev pub invariant-sum-loop-op : goal.invariant-sum-loop-op
invariant-sum-loop-op l =
    (l.at < l.n) × ((l.n ≤ length l.s) × ((f : ℕ) × ((length l.s - l.n ≤ f) × (sum_read l.depth (look_in l.scope.text.now l.scope.table.now l.scope.base) (drop l.at l.s) ≡ more_by (term_read l.depth (look_in l.scope.text.now l.scope.table.now l.scope.base)) (suc f) l.v (drop l.n l.s)))))

abbrev pub decreases-sum-loop-op : goal.decreases-sum-loop-op
decreases-sum-loop-op l = length l.s - l.n
