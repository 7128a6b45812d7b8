use Rattle.pending.specs.Pending.{listing}
use Rattle.pending.proofs.list.Goals as goal

pub returns-in-None : goal.returns-in-None
unfolding listing
returns-in-None c = rw c.in-None.is

pub returns-in-Some : goal.returns-in-Some
unfolding listing
returns-in-Some c = rw c.in-Some.is c.note.ensures
