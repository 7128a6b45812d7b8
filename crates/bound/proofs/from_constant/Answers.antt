use mathlib.Core.Path.{refl}
use Rattle.bound.specs.Bits.{bits_of}
use Rattle.bound.proofs.from_constant.Goals as goal

pub returns : goal.returns
unfolding bits_of
returns c = refl
