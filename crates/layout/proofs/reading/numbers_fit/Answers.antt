use borrow.Author.Tests.{eq-eqb, ne_eqb, lt-ltb, le-ltb}
use Rattle.state.specs.Formed.{limbs_fit}
use Rattle.layout.specs.Layout.{numbers_fit}
use Rattle.layout.proofs.reading.numbers_fit.Goals as goal

pub returns-then-first-ge-LIMB_LIMIT : goal.returns-then-first-ge-LIMB_LIMIT
unfolding numbers_fit limbs_fit
returns-then-first-ge-LIMB_LIMIT c = simp (eq-eqb _ _ c.if-kind-eq1.true, le-ltb _ _ c.if-first-ge-LIMB_LIMIT.true)

pub returns-then-kind-eq1 : goal.returns-then-kind-eq1
unfolding numbers_fit limbs_fit
returns-then-kind-eq1 c = simp (eq-eqb _ _ c.if-kind-eq1.true, lt-ltb _ _ c.if-first-ge-LIMB_LIMIT.false)

pub returns-then-kind-ne0 : goal.returns-then-kind-ne0
unfolding numbers_fit
returns-then-kind-ne0 c = simp (ne_eqb _ _ c.if-kind-eq1.false, ne_eqb _ _ c.if-kind-ne0.true)

pub returns : goal.returns
unfolding numbers_fit
returns c = simp (ne_eqb _ _ c.if-kind-eq1.false, eq-eqb _ _ c.if-kind-ne0.false)
