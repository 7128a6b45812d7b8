use Rattle.state.specs.Held.{value_of}
use mathlib.Core.Path.{refl}
use Rattle.deferred.proofs.sums.value.Goals as goal

pub returns : goal.returns
unfolding value_of
returns c = refl
