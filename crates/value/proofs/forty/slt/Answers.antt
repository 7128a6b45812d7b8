use Rattle.std.proofs.Common.{◌%◌, ◌^◌, sym, arith}
use Rattle.value.specs.Forty.{signed40, slt40}
use Rattle.value.proofs.Order.{order}
use Rattle.value.proofs.forty.slt.Goals as goal

pub returns : goal.returns
unfolding slt40 signed40
returns c = sym (order 39 (c.args.a % 2 ^ 40) (c.args.b % 2 ^ 40) (omega arith) (omega arith))
