use borrow.Author.Tests.{eq-eqb, ne_eqb}
use Rattle.state.specs.Held.{kept}
use Rattle.layout.specs.Layout.{held_by}
use Rattle.layout.proofs.reading.kept_by.Goals as goal

pub returns-then-kind-ne1 : goal.returns-then-kind-ne1
unfolding held_by kept
returns-then-kind-ne1 c = simp (ne_eqb _ _ c.if-kind-ne1.true)

pub returns : goal.returns
unfolding held_by kept
returns c = simp (eq-eqb _ _ c.if-kind-ne1.false)
