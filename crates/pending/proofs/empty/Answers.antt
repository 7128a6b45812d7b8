use Rattle.pending.proofs.Lists.{empty-malformed, empty-done}
use mathlib.Core.Path.{sym, ◌∙◌}
use Rattle.pending.proofs.empty.Goals as goal

pub returns-then-not-lists_fit : goal.returns-then-not-lists_fit
returns-then-not-lists_fit c = let t = empty-malformed _ (sym c.lists_fit.ensures ∙ c.if-not-lists_fit.true) in (t.0, rw (← t.1))

pub returns : goal.returns
returns c = let t = empty-done _ (sym c.lists_fit.ensures ∙ c.if-not-lists_fit.false) in (t.0, rw (← t.1))
