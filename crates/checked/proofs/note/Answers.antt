use Rattle.pending.specs.Pending.{listing}
use Rattle.checks.proofs.Listed.{listed_more, listed_same}
use Rattle.checked.proofs.note.Goals as goal

pub returns-in-None : goal.returns-in-None
unfolding listing
returns-in-None c = rw c.in-None.is

pub returns-then-list-count : goal.returns-then-list-count
unfolding listing
returns-then-list-count c = rw c.in-Some.is (listed_same _ _ _ c.if-list-count.true)

pub returns-else-list-count : goal.returns-else-list-count
unfolding listing
returns-else-list-count c = rw (c.in-Some.is, c.note_at.ensures) (listed_more _ _ _ c.if-list-count.false)
