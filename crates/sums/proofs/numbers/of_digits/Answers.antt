use Rattle.std.proofs.Common.{pos, ap, arith}
use Rattle.sums.proofs.Differences.{fitting_at, negated}
use Rattle.sums.proofs.numbers.of_digits.Goals as goal

pub returns-then-negative : goal.returns-then-negative
returns-then-negative c = rw c.if-negative.true (fitting_at _ _ _ (negated c.args.v) c.checked_sub_unsigned.ensures)

pub returns-else-negative : goal.returns-else-negative
returns-else-negative c = rw c.if-negative.false (fitting_at _ _ _ (ap pos (omega arith)) c.checked_add_unsigned.ensures)
