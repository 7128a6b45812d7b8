use Rattle.pending.specs.Pending.{lacks}
use Rattle.pending.proofs.lacks.Goals as goal

pub returns-in-Unlent : goal.returns-in-Unlent
unfolding lacks
returns-in-Unlent c = rw c.in-Unlent.is

pub returns-in-Left : goal.returns-in-Left
unfolding lacks
returns-in-Left c = rw c.in-Left.is
