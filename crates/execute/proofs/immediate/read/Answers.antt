use Rattle.effect.specs.Effects.{seen}
use Rattle.execute.proofs.immediate.read.Goals as goal

pub returns : goal.returns
unfolding seen
returns c = rw (c.value_at.ensures, c.bound_at.ensures)
