use Rattle.execute.proofs.Ending.{went-refused}
use Rattle.execute.proofs.registers.carry.Goals as goal

pub returns-in-Ok : goal.returns-in-Ok
returns-in-Ok c = λ m. rw c.in-Ok.is (c.act.ensures m)

pub returns-in-Err : goal.returns-in-Err
returns-in-Err c = λ m. rw (c.refuse.ensures, c.in-Err.is) (went-refused _ _ _ _)
