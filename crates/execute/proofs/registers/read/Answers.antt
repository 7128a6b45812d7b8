use Rattle.effect.specs.Effects.{seen}
use Rattle.execute.proofs.registers.read.Goals as goal

pub returns : goal.returns
unfolding seen
returns c = rw (c.value_at.ensures, c.value_at-2.ensures, c.bound_at.ensures, c.bound_at-2.ensures, c.bound_at-3.ensures)
