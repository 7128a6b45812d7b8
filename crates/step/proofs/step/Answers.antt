use Rattle.step.proofs.Steps.{step-malformed, step-taken}
use Rattle.step.proofs.Legs.{step-is-leg}
use mathlib.Core.Path.{sym, ◌∙◌}
use Rattle.step.proofs.step.Goals as goal

pub returns-then-not-takes : goal.returns-then-not-takes
returns-then-not-takes c = step-malformed _ _ _ _ (sym c.takes.ensures ∙ c.if-not-takes.true)

pub returns : goal.returns
returns c = rw c.list-count.ensures (step-is-leg _ _ _ _ _ (rw c.room_at.ensures at c.advance-g.ensures)) ∙ step-taken _ _ _ _ (sym c.takes.ensures ∙ c.if-not-takes.false)
