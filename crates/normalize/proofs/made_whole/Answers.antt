use Rattle.normalize.proofs.Cases.{whole-written}
use Rattle.normalize.proofs.made_whole.Goals as goal

pub returns : goal.returns
returns c = let a = c.args in rw c.together.ensures (whole-written a.s a.reg a.v _ (rw (← c.bound_at-bound.ensures) c.write.ensures))
