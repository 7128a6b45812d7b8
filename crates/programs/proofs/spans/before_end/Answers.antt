use Rattle.programs.proofs.Lines.{end_none, end-cr, end-plain}
use native.Mathlib.Omega.{arith}
use mathlib.Core.Path.{sym, ◌∙◌}
use Rattle.programs.proofs.spans.before_end.Goals as goal

pub returns-then-n-at : goal.returns-then-n-at
returns-then-n-at c =
    let args = c.args in (
      end_none args.s.now args.at args.n c.requires.0 c.requires.1 c.if-n-at.true,
      c.requires.0,
      omega arith,
    )

pub returns-then-c-eq13 : goal.returns-then-c-eq13
returns-then-c-eq13 c =
    let args = c.args in (
      end-cr args.s.now args.at args.n c.requires.0 c.requires.1
          c.if-n-at.false (sym c.byte-c.ensures ∙ c.if-c-eq13.true),
      omega arith,
      omega arith,
    )

pub returns : goal.returns
returns c =
    let args = c.args in (
      end-plain args.s.now args.at args.n c.requires.0 c.requires.1
          c.if-n-at.false (λ z. c.if-c-eq13.false (c.byte-c.ensures ∙ z)),
      c.requires.0,
      omega arith,
    )
