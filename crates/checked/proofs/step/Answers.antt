use Rattle.std.proofs.Common.{sym, ◌∙◌}
use Rattle.step.proofs.Steps.{step-malformed, step-taken}
use Rattle.step.proofs.Legs.{step-is-leg}
use Rattle.checks.proofs.Listed.{room-is}
use Rattle.checked.proofs.Turning.{entry}
use Rattle.checked.proofs.step.Goals as goal

pub returns-then-not-takes : goal.returns-then-not-takes
returns-then-not-takes c = step-malformed _ _ _ _ (rw (← entry c.args.choices c.args.s c.args.count c.args.list.now) (sym c.takes.ensures ∙ c.if-not-takes.true))

pub returns : goal.returns
returns c =
    rw c.note-count.ensures (step-is-leg _ _ _ _ _ (rw (c.room_at.ensures, ← room-is c.args.count c.args.list.now) at c.advance-g.ensures))
    ∙ step-taken _ _ _ _ (rw (← entry c.args.choices c.args.s c.args.count c.args.list.now) (sym c.takes.ensures ∙ c.if-not-takes.false))
