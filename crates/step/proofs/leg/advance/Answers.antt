use mathlib.Core.Path.{sym, ◌∙◌}
use native.Mathlib.Omega.{arith}
use Rattle.step.proofs.Legs.{passes_on, ends, runs-dry}
use Rattle.step.proofs.leg.advance.Goals as goal

pub returns-then-not-passes : goal.returns-then-not-passes
returns-then-not-passes c = rw (c.together.ensures, c.counted.ensures.0) (sym (sym c.loop-n.invariant.1 ∙ ends _ _ _ c.args.fuel c.loop-n.n _ _ _ _ c.loop-n-test.true c.step_in-a.ensures (sym c.passes.ensures ∙ c.if-not-passes.true)))

pub loop-n-preserved : goal.loop-n-preserved
loop-n-preserved c = (c.m-1.given ∙ c.loop-n.invariant.0, sym (passes_on _ _ _ c.args.fuel c.loop-n.n _ _ _ _ c.loop-n-test.true c.step_in-a.ensures (sym c.passes.ensures ∙ c.if-not-passes.false)) ∙ c.loop-n.invariant.1)

pub returns : goal.returns
returns c = rw c.together-2.ensures (sym (sym c.loop-n.invariant.1 ∙ runs-dry _ _ _ c.args.fuel _ c.loop-n.n (omega arith)))
