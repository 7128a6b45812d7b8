use Rattle.std.proofs.Common.{◌*◌, ◌%◌, ◌^◌, sym}
use lib.Pow.{mod-mod-pow}
use Rattle.value.specs.Forty.{shl40}
use Rattle.value.proofs.Shifts.{shl-out}
use Rattle.value.proofs.forty.shl.Goals as goal

pub returns-then-k-lt40 : goal.returns-then-k-lt40
unfolding shl40
returns-then-k-lt40 c = mod-mod-pow (c.args.a % 2 ^ 40 * 2 ^ c.args.k) 24 40

pub returns-else-k-lt40 : goal.returns-else-k-lt40
unfolding shl40
returns-else-k-lt40 c = sym (shl-out 40 (c.args.a % 2 ^ 40) c.args.k c.if-k-lt40.false)
