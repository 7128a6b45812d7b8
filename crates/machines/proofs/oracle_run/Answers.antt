use Rattle.machines.proofs.Leaving.{run-refused, run-left}
use mathlib.Core.Path.{sym, ◌∙◌}
use Rattle.machines.proofs.oracle_run.Goals as goal

pub returns-then-not-legible : goal.returns-then-not-legible
returns-then-not-legible c = run-refused _ _ _ _ _ _ _ (sym c.legible.ensures ∙ c.if-not-legible.true) c.write_answer.ensures

pub returns : goal.returns
returns c = run-left _ _ _ _ _ _ _ _ _ _ _ (sym c.legible.ensures ∙ c.if-not-legible.false) c.mode_of.ensures c.read_state-s.ensures c.run_by-r.ensures c.leave_run.ensures.0 c.leave_run.ensures.1
