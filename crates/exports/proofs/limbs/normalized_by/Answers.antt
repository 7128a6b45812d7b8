use borrow.Author.Tests.{eq-eqb, ne_eqb}
use Rattle.exports.specs.Limbs.{normalized_by}
use Rattle.exports.proofs.limbs.normalized_by.Goals as goal

pub returns-then-which-eq0 : goal.returns-then-which-eq0
unfolding normalized_by
returns-then-which-eq0 c = rw (eq-eqb c.args.which 0 c.if-which-eq0.true) c.normalize_register.ensures

pub returns-then-which-eq1 : goal.returns-then-which-eq1
unfolding normalized_by
returns-then-which-eq1 c = rw (ne_eqb c.args.which 0 c.if-which-eq0.false, eq-eqb c.args.which 1 c.if-which-eq1.true) c.normalize_if_near_overflow.ensures

pub returns : goal.returns
unfolding normalized_by
returns c = rw (ne_eqb c.args.which 0 c.if-which-eq0.false, ne_eqb c.args.which 1 c.if-which-eq1.false) c.normalize_and_write.ensures
