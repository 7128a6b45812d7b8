use mathlib.Core.Path.{sym, ◌∙◌}
use Rattle.deferred.proofs.Forms.{two-add, two_none}
use Rattle.deferred.proofs.plan_of_registers.Goals as goal

pub returns-then-same : goal.returns-then-same
returns-then-same c = c.add.ensures ∙ two-add _ c.args.p _ (sym c.same.ensures ∙ c.if-same.true)

pub returns : goal.returns
returns c = rw c.unplanned.ensures (two_none _ c.args.p _ (sym c.same.ensures ∙ c.if-same.false) (sym c.same-2.ensures ∙ c.if-same-2.false))
