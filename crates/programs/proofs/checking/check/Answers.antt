use Rattle.programs.proofs.Checks.{check-end, check-line, step-more}
use Rattle.programs.proofs.Turns.{line_next}
use Rattle.std.proofs.Common.{◌≡◌, ◌+◌, Err, length, arith, ap, sym, ◌∙◌}
use Rattle.programs.proofs.checking.check.Goals as goal

pub returns-in_err-own : goal.returns-in_err-own
returns-in_err-own c =
    let a = c.args in
    let l = c.loop-line in
    let it = l.line-iterator in
    let f = c.in_err-own.field-0.0 in
    let n = line_next it c.next.new.self c.in-Some.line a.text.now l.invariant.2 c.in-Some.ensures.steps in
    let e = rw n.number at (sym c.one_line.ensures ∙ c.in_err-own.was) in
    let is : c.from_residual.result ≡ Err f = grind arith in
    rw is (sym (l.invariant.4 ∙ check-line a.text.now a.table.now a.second (it.before + 1) l.own _ _ _ _ n.lines e))

pub loop-line-preserved : goal.loop-line-preserved
loop-line-preserved c =
    let a = c.args in
    let l = c.loop-line in
    let it = l.line-iterator in
    let n = line_next it c.next.new.self c.in-Some.line a.text.now l.invariant.2 c.in-Some.ensures.steps in
    let e = rw n.number at (sym c.one_line.ensures ∙ c.in_ok-own.was) in
    let m = step-more a.text.now a.table.now _ _ _ l.own c.in_ok-own.own e in (
      (omega (arith, n.before, n.on, l.invariant.0.0), omega (arith, n.within, ap length n.same)),
      tt,
      n.same,
      omega (arith, n.on, l.invariant.3, m),
      rw n.before (l.invariant.4 ∙ check-line a.text.now a.table.now a.second (it.before + 1) l.own _ _ _ _ n.lines e),
    )

pub returns : goal.returns
returns c =
    let a = c.args in
    let l = c.loop-line in
    let it = l.line-iterator in
    let end = c.in-None.ensures.steps.1.0 in
    sym (l.invariant.4 ∙ check-end a.text.now a.table.now a.second (it.before + 1) l.own a.text.now it.at (omega (arith, end, ap length l.invariant.2)))
