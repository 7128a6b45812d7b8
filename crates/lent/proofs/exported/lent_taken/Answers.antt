use borrow.Author.Tests.{le-leb, lt-leb}
use Rattle.lent.specs.Lent.{laid}
use Rattle.lent.proofs.exported.lent_taken.Goals as goal

pub returns-then-r-gt1 : goal.returns-then-r-gt1
unfolding laid
returns-then-r-gt1 c = rw (le-leb _ _ c.if-mode-gt1.false, lt-leb _ _ c.if-r-gt1.true)

pub returns : goal.returns
unfolding laid
returns c = rw (le-leb _ _ c.if-mode-gt1.false, le-leb _ _ c.if-r-gt1.false) c.kinds_fit.ensures
