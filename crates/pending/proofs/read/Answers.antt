use Rattle.pending.proofs.Lists.{entry-malformed, entry-beyond, entry-there}
use native.Mathlib.Omega.{arith}
use mathlib.Core.Path.{sym, ◌∙◌}
use Rattle.pending.proofs.read.Goals as goal

pub returns-then-count-at : goal.returns-then-count-at
returns-then-count-at c = entry-beyond _ _ (sym c.lists_fit.ensures ∙ c.if-lists_fit.true) (omega arith)

pub returns-then-lists_fit : goal.returns-then-lists_fit
returns-then-lists_fit c = entry-there _ _ (sym c.lists_fit.ensures ∙ c.if-lists_fit.true) (omega arith)

pub returns : goal.returns
returns c = entry-malformed _ _ (sym c.lists_fit.ensures ∙ c.if-lists_fit.false)
