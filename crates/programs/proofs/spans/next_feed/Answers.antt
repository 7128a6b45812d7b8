use Rattle.programs.proofs.Lines.{feed-end, feed-here, feed-on}
use Rattle.std.proofs.Common.{◌≡◌, length, arith}
use Rattle.programs.proofs.spans.next_feed.Goals as goal

pub returns-then-s-n-eq10 : goal.returns-then-s-n-eq10
returns-then-s-n-eq10 c =
    let args = c.args in
    let loop = c.loop-n in feed-here args.s.now args.at loop.n loop.invariant c.if-s-n-eq10.true

pub loop-n-preserved : goal.loop-n-preserved
loop-n-preserved c =
    let args = c.args in
    let loop = c.loop-n in
    feed-on args.s.now args.at loop.n loop.invariant c.loop-n-test.true c.if-s-n-eq10.false

pub returns : goal.returns
returns c =
    let args = c.args in
    let loop = c.loop-n in
    let end : loop.n ≡ length args.s.now = omega arith in
    rw (← end) (feed-end args.s.now args.at loop.n loop.invariant c.loop-n-test.false)
