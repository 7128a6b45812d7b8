use Rattle.programs.proofs.Lines.{span_last, span-ended}
use native.Mathlib.Omega.{arith}
use Rattle.programs.proofs.spans.span_at.Goals as goal

pub returns-then-s-n : goal.returns-then-s-n
returns-then-s-n c =
    let args = c.args in
    let w = c.line_feed-n.ensures.within (omega arith) in
    let o = c.line_feed-n.ensures.on in
    record
    { lines = span_last args.s.now args.at c.line_feed-n.result c.requires c.line_feed-n.ensures c.if-s-n.true; from = o; stops = omega arith; on = omega arith; within = w }

pub returns : goal.returns
returns c =
    let args = c.args in
    let o = c.line_feed-n.ensures.on in
    let b = c.before_end.ensures in
    record
    { lines = span-ended args.s.now args.at c.line_feed-n.result c.before_end.result c.requires c.line_feed-n.ensures c.if-s-n.false b.0; from = b.1; stops = omega arith; on = omega arith; within = omega arith }
