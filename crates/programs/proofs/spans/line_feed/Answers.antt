use mathlib.Core.Path.{sym, ◌∙◌}
use native.Mathlib.Omega.{arith}
use Rattle.programs.proofs.Lines.{feed-far}
use Rattle.programs.proofs.spans.line_feed.Goals as goal

pub loop-n-preserved : goal.loop-n-preserved
loop-n-preserved c =
    let loop = c.loop-n in
    let args = c.args in
    let i = loop.invariant in (
      omega (arith, i.0),
      feed-far args.s.now args.at loop.n i.1 8 (omega (arith, i.0))
          (sym c.eight_are_text.ensures ∙ c.if-eight_are_text.true),
    )
