use Rattle.state.specs.Held.{low_of, high_of}
use borrow.Author.Tests.{le-leb, lt-leb}
use Rattle.deferred.proofs.sums.covered.Goals as goal

pub returns-then-y-x : goal.returns-then-y-x
unfolding low_of high_of
returns-then-y-x c = rw (le-leb _ _ c.if-y-x.true)

pub returns : goal.returns
unfolding low_of high_of
returns c = rw (lt-leb _ _ c.if-y-x.false)
