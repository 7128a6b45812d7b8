use Rattle.deferred.proofs.Waiting.{sum-of-limbs}
use Rattle.state.proofs.Files.{normalise-none}
use Rattle.deferred.specs.Limbs.{limbed}
use mathlib.Core.Bool.{true}
use mathlib.Core.Path.{refl, ap, ◌∙◌}
use Rattle.deferred.proofs.add_immediate.Goals as goal

pub returns : goal.returns
returns c = c.sum.ensures _ _ _ ∙ ap (limbed true) (rw (c.operand_at.ensures.0, c.constant.ensures.0, normalise-none 0 _ refl) (sum-of-limbs _ _ _ _ _ _))
