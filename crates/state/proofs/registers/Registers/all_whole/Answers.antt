use Rattle.state.proofs.Below.{all_none, all_more, all-stop}
use Rattle.state.specs.Formed.{all_whole}
use mathlib.Core.Bool.{not}
use mathlib.Core.Path.{◌≡◌, sym, ap}
use native.Mathlib.Omega.{arith}
use Rattle.state.proofs.registers.Registers.all_whole.Goals as goal

pub loop-waits-init : goal.loop-waits-init
loop-waits-init c = all_none _

pub returns-then-waits : goal.returns-then-waits
unfolding all_whole
returns-then-waits c = sym (all-stop _ 16 _ c.loop-waits-test.true (ap not c.if-waits.true))

pub loop-waits-preserved : goal.loop-waits-preserved
loop-waits-preserved c = all_more _ _ c.loop-waits.invariant (ap not c.if-waits.false)

pub returns : goal.returns
unfolding all_whole
returns c = let e : c.loop-waits.waits-index ≡ 16 = omega arith in
    sym (rw e at c.loop-waits.invariant)
