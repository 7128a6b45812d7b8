use Rattle.std.proofs.Common.{◌≡◌}
use Rattle.sums.proofs.Decimals.{Counting}
use Rattle.sums.proofs.digits.digits.Given as goal

abbrev pub invariant-loop-n : goal.invariant-loop-n
invariant-loop-n l = (l.n ≡ l.end) × Counting l.s l.at l.v l.end
