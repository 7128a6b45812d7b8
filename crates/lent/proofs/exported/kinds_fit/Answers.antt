use borrow.Author.Tests.{le-leb, lt-leb}
use mathlib.Core.Path.{sym}
use Rattle.state.proofs.Below.{all_none, all_more, all-stop}
use Rattle.lent.proofs.exported.kinds_fit.Goals as goal

pub loop-kind-init : goal.loop-kind-init
loop-kind-init c = all_none _

pub returns-then-kind-gt1 : goal.returns-then-kind-gt1
returns-then-kind-gt1 c = sym (all-stop _ 16 _ c.loop-kind-test.true (lt-leb _ _ c.if-kind-gt1.true))

pub loop-kind-preserved : goal.loop-kind-preserved
loop-kind-preserved c = all_more _ _ c.loop-kind.invariant (le-leb _ _ c.if-kind-gt1.false)
