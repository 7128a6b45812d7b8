use Rattle.exports.specs.Limbs.{normalizing}
use mathlib.Core.Path.{sym, ◌∙◌}
use Rattle.exports.proofs.limbs.oracle_normalize.Goals as goal

pub returns-then-not-well_laid : goal.returns-then-not-well_laid
unfolding normalizing
returns-then-not-well_laid c = rw (sym c.well_laid.ensures ∙ c.if-not-well_laid.true, c.give.ensures.0, c.give.ensures.1, c.give.ensures.2)

pub returns : goal.returns
unfolding normalizing
returns c = rw (sym c.well_laid.ensures ∙ c.if-not-well_laid.false, c.give-2.ensures.0, c.give-2.ensures.1, c.give-2.ensures.2, c.write_state.ensures, c.normalized_by-n.ensures, c.read_state.ensures)
