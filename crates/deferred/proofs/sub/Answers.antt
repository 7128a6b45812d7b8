use Rattle.state.specs.Held.{low_of, high_of}
use Rattle.deferred.specs.Limbs.{limbs}
use mathlib.Core.Path.{◌∙◌}
use Rattle.deferred.proofs.sub.Goals as goal

pub returns : goal.returns
unfolding limbs low_of high_of
returns c = c.difference.ensures _ _ _ ∙ rw (c.operand_at.ensures.0, c.operand_at-2.ensures.0)
