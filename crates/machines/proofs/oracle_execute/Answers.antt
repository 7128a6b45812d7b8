use Rattle.machines.proofs.Leaving.{execute-refused, execute-left}
use mathlib.Core.Path.{sym, ◌∙◌}
use Rattle.machines.proofs.oracle_execute.Goals as goal

pub returns-then-not-legible : goal.returns-then-not-legible
returns-then-not-legible c = execute-refused _ _ _ _ _ _ _ _ _ _ (sym c.legible.ensures ∙ c.if-not-legible.true) c.refused.ensures c.write_triple.ensures c.first_of.ensures c.write_triple-then-not-legible.ensures

pub returns : goal.returns
returns c = execute-left _ _ _ _ _ _ _ _ _ _ _ _ _ _ (sym c.legible.ensures ∙ c.if-not-legible.false) c.mode_of.ensures c.read_state.ensures c.given-i.ensures c.execute-r.ensures c.leave_step.ensures.0 c.leave_step.ensures.1 c.first_of-2.ensures c.write_triple-2.ensures
