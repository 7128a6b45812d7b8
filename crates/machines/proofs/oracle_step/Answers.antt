use Rattle.machines.proofs.Leaving.{step-refused, step_left}
use mathlib.Core.Path.{sym, ◌∙◌}
use Rattle.machines.proofs.oracle_step.Goals as goal

pub returns-then-not-legible : goal.returns-then-not-legible
returns-then-not-legible c = step-refused _ _ _ _ _ _ _ (sym c.legible.ensures ∙ c.if-not-legible.true) c.refused.ensures c.write_triple.ensures

pub returns : goal.returns
returns c = step_left _ _ _ _ _ _ _ _ _ _ (sym c.legible.ensures ∙ c.if-not-legible.false) c.mode_of.ensures c.read_state-s.ensures c.step-r.ensures c.leave_step.ensures.0 c.leave_step.ensures.1
