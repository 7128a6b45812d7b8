use Rattle.std.proofs.Common.{sym, ◌∙◌, refl, arith, eq-eqb, ne_eqb}
use Rattle.labels.specs.Bytes.{is_space}
use Rattle.labels.proofs.Spans.{head-drop}
use Rattle.labels.proofs.Steps.{stops, goes_on, stops_at_end, passed_over}
use Rattle.labels.proofs.text.skip.Goals as goal

pub returns-then-s-n-ne32 : goal.returns-then-s-n-ne32
returns-then-s-n-ne32 c =
    passed_over is_space _ _ _ (stops is_space _ _ _ c.loop-n.invariant (ne_eqb _ _ (λ z. c.if-s-n-ne32.true (sym (head-drop c.args.s.now c.loop-n.n) ∙ z))))

pub loop-n-preserved : goal.loop-n-preserved
loop-n-preserved c = goes_on is_space _ _ _ c.loop-n.invariant refl (eq-eqb _ _ (head-drop c.args.s.now c.loop-n.n ∙ c.if-s-n-ne32.false))

pub returns : goal.returns
returns c =
    let ends = stops_at_end is_space c.args.s.now c.args.at c.loop-n.n refl c.loop-n.invariant c.loop-n-test.false in
    grind arith
