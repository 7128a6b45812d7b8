use native.Mathlib.Omega.{arith}
use mathlib.Core.Path.{refl, sym, ◌∙◌}
use mathlib.Core.Bool.{false}
use lib.ListN.{get_or, replicate}
use Rattle.lent.specs.Lent.{lent_of}
use Rattle.memory.specs.Bytes.{bit}
use Rattle.layout.proofs.Rows.{table_more, filled}
use Rattle.lent.proofs.exported.lent_of.Goals as goal

pub loop-i-preserved : goal.loop-i-preserved
loop-i-preserved c = sym (table_more c.loop-i.kinds 16 c.loop-i.i (λ k. bit (get_or c.args.s.registers.accumulated k false)) (omega arith) c.bit.ensures) ∙ c.loop-i.invariant

pub returns : goal.returns
unfolding lent_of
returns c = rw (c.bit-2.ensures, filled 16 c.loop-i.kinds (replicate 16 0) c.loop-i.i (λ k. bit (get_or c.args.s.registers.accumulated k false)) (omega arith) refl c.loop-i.invariant)
