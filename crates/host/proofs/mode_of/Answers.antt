use Rattle.host.specs.Call.{mode_of}
use borrow.Author.Tests.{eq-eqb, ne_eqb}
use Rattle.host.proofs.mode_of.Goals as goal

pub returns-then-n-eq0 : goal.returns-then-n-eq0
unfolding mode_of
returns-then-n-eq0 c = rw (eq-eqb c.args.n 0 c.if-n-eq0.true)

pub returns : goal.returns
unfolding mode_of
returns c = rw (ne_eqb c.args.n 0 c.if-n-eq0.false)
