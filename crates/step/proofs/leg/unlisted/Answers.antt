use Rattle.step.specs.Leg.{unlisted}
use Rattle.step.proofs.leg.unlisted.Goals as goal

pub returns-in-None : goal.returns-in-None
unfolding unlisted
returns-in-None c = rw c.in-None.is

pub returns-in-Unlent : goal.returns-in-Unlent
unfolding unlisted
returns-in-Unlent c = rw (c.in-Some.is, c.in-Unlent.is)

pub returns-in-Left : goal.returns-in-Left
unfolding unlisted
returns-in-Left c = rw (c.in-Some.is, c.in-Left.is)
