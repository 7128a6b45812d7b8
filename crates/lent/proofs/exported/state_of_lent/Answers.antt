use native.Mathlib.Omega.{arith}
use mathlib.Core.Path.{refl, sym, ◌∙◌}
use mathlib.Core.Bool.{false}
use lib.ListN.{get_or, replicate}
use lib.Dec.{eqb}
use Rattle.lent.specs.Lent.{state_of_lent}
use Rattle.layout.proofs.Rows.{table_more, filled}
use Rattle.lent.proofs.exported.state_of_lent.Goals as goal

pub loop-i-preserved : goal.loop-i-preserved
loop-i-preserved c = sym (table_more c.loop-i.accumulated 16 c.loop-i.i (λ k. eqb (get_or c.args.r.kinds k 0) 1) (omega arith) refl) ∙ c.loop-i.invariant

pub returns : goal.returns
unfolding state_of_lent
returns c = rw (c.together.ensures, filled 16 c.loop-i.accumulated (replicate 16 false) c.loop-i.i (λ k. eqb (get_or c.args.r.kinds k 0) 1) (omega arith) refl c.loop-i.invariant)
