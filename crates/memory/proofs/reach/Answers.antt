use Rattle.memory.proofs.Accesses.{is-mis, is-beyond, is-served}
use mathlib.Core.Path.{sym, ◌∙◌}
use Rattle.memory.proofs.reach.Goals as goal

pub returns-then-not-aligned : goal.returns-then-not-aligned
returns-then-not-aligned c = is-mis _ _ _ (sym c.aligned.ensures ∙ c.if-not-aligned.true)

pub returns-then-not-within : goal.returns-then-not-within
returns-then-not-within c = is-beyond _ _ _ (sym c.aligned.ensures ∙ c.if-not-aligned.false) (sym c.within.ensures ∙ c.if-not-within.true)

pub returns : goal.returns
returns c = is-served _ _ _ (sym c.aligned.ensures ∙ c.if-not-aligned.false) (sym c.within.ensures ∙ c.if-not-within.false)
