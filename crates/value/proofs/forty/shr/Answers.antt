use Rattle.std.proofs.Common.{◌%◌, ◌^◌, sym, refl, arith}
use Rattle.value.specs.Forty.{shr40}
use Rattle.value.proofs.Shifts.{shr-out}
use Rattle.value.proofs.forty.shr.Goals as goal

pub returns-then-k-lt40 : goal.returns-then-k-lt40
unfolding shr40
returns-then-k-lt40 c = refl

pub returns-else-k-lt40 : goal.returns-else-k-lt40
unfolding shr40
returns-else-k-lt40 c = sym (shr-out 40 (c.args.a % 2 ^ 40) c.args.k (omega arith) c.if-k-lt40.false)
