use Rattle.deferred.proofs.Waiting.{sum-of-limbs}
use Rattle.deferred.specs.Limbs.{limbed}
use mathlib.Core.Bool.{true}
use mathlib.Core.Path.{ap, ◌∙◌}
use Rattle.deferred.proofs.add.Goals as goal

pub returns : goal.returns
returns c = c.sum.ensures _ _ _ ∙ ap (limbed true) (rw (c.operand_at.ensures.0, c.operand_at-2.ensures.0) (sum-of-limbs _ _ _ _ _ _))
