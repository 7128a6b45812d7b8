use mathlib.Core.Path.{sym, ◌∙◌}
use Rattle.lent.specs.Inner.{readied}
use Rattle.lent.proofs.exported.prepare.Goals as goal

pub returns-then-not-lent_taken : goal.returns-then-not-lent_taken
unfolding readied
returns-then-not-lent_taken c = rw (sym c.lent_taken.ensures ∙ c.if-not-lent_taken.true, c.together.ensures)

pub returns : goal.returns
unfolding readied
returns c = rw (sym c.lent_taken.ensures ∙ c.if-not-lent_taken.false, c.state_of_lent-state.ensures, c.mode_of-mode.ensures)
