use Rattle.host.proofs.Calls.{one-leg}
use Rattle.host.proofs.run_taken.Goals as goal

pub returns : goal.returns
returns c = rw c.stop_of.ensures (one-leg _ _ _ _ c.if-s.false c.advance-g.ensures)
