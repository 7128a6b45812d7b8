use Rattle.run.proofs.Loops.{begins}
use Rattle.std.proofs.Common.{◌∙◌}
use Rattle.run.proofs.run_in.Goals as goal

pub returns : goal.returns
returns c = c.go.ensures ∙ rw c.begin-begun.ensures (begins _ _ _ _ _ _ c.takes-taken.ensures)
