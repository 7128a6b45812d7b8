use Rattle.state.specs.Held.{low_of, high_of}
use native.Mathlib.Omega.{arith}
use Rattle.deferred.proofs.sums.constant.Goals as goal

pub returns : goal.returns
unfolding low_of high_of
returns c = (rw c.from_constant.ensures, (omega arith, omega arith))
