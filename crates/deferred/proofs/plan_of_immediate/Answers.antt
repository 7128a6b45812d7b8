use mathlib.Core.Path.{sym, ◌∙◌}
use Rattle.deferred.proofs.Forms.{one-addi, one_none}
use Rattle.deferred.proofs.plan_of_immediate.Goals as goal

pub returns-then-same : goal.returns-then-same
returns-then-same c = c.add_immediate.ensures ∙ one-addi _ c.args.p _ (sym c.same.ensures ∙ c.if-same.true)

pub returns : goal.returns
returns c = rw c.unplanned.ensures (one_none _ c.args.p _ (sym c.same.ensures ∙ c.if-same.false))
