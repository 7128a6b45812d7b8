use Rattle.step.proofs.Steps.{word-obeyed, none-fetched}
use Rattle.step.proofs.leg.step_in.Goals as goal

pub returns-in-Ok : goal.returns-in-Ok
returns-in-Ok c = word-obeyed _ _ _ _ _ c.fetch.ensures _ _ c.in-Ok.is c.obey.ensures

pub returns-in-Err : goal.returns-in-Err
returns-in-Err c = rw c.refuse.ensures (none-fetched _ _ _ _ _ c.fetch.ensures _ c.in-Err.is)
