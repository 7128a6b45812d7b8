use Rattle.execute.proofs.Ending.{went-writes, went-refused}
use Rattle.execute.proofs.immediate.carry.Goals as goal

pub returns-in-Ok : goal.returns-in-Ok
returns-in-Ok c = λ m. rw (c.to.ensures, c.in-Ok.is) (went-writes _ _ _ _ _ _ _ _ c.put.ensures)

pub returns-in-Err : goal.returns-in-Err
returns-in-Err c = λ m. rw (c.refuse.ensures, c.in-Err.is) (went-refused _ _ _ _)
