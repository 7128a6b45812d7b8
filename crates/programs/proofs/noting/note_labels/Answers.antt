use Rattle.programs.proofs.Meets.{kept-go, kept-short}
use Rattle.programs.proofs.Notes.{noting-none, noting-all}
use Rattle.programs.proofs.Turns.{line_next}
use Rattle.programs.specs.Code.{Spans}
use Rattle.std.proofs.Common.{◌≡◌, Err, length, arith, refl, ap}
use Rattle.programs.proofs.noting.note_labels.Goals as goal

pub loop-line-init : goal.loop-line-init
loop-line-init c =
    let new = c.text_lines-line-items.ensures in
    rw (c.into_iter-line-iterator.ensures.into_iter_gives, new.1, new.2, new.0)
    ((omega arith, omega arith), tt, refl, omega arith, noting-none c.args.text.now c.args.table.now c.requires)

pub returns-in_err-t : goal.returns-in_err-t
returns-in_err-t c =
    let text = c.args.text.now in
    let l = c.loop-line in
    let it = l.line-iterator in
    let steps = c.in-Some.ensures.steps in
    let f = c.in_err-t.field-0.0 in
    let spans : Spans text it.at steps.1.3.0 = rw l.invariant.2 at steps.1.3.1 in
    let e = rw (c.in_err-t.was, steps.1.3.2, steps.1.0, steps.1.1, l.invariant.2) at c.note_line.ensures in
    let k = kept-short text l.table it.at it.before l.t l.invariant.4 steps.1.3.0 spans f _ e in
    let is : c.from_residual.result ≡ Err f = grind arith in
    (rw is k.0, omega (arith, k.1))

pub loop-line-preserved : goal.loop-line-preserved
loop-line-preserved c =
    let text = c.args.text.now in
    let l = c.loop-line in
    let it = l.line-iterator in
    let steps = c.in-Some.ensures.steps in
    let n = line_next it c.next.new.self c.in-Some.line text l.invariant.2 steps in
    let spans : Spans text it.at steps.1.3.0 = rw l.invariant.2 at steps.1.3.1 in
    let e = rw (c.in_ok-t.was, steps.1.3.2, steps.1.0, steps.1.1, l.invariant.2) at c.note_line.ensures in
    let k = kept-go text l.table it.at it.before l.t l.invariant.4 steps.1.3.0 spans _ _ e in (
      (omega (arith, n.before, n.on, l.invariant.0.0), omega (arith, n.within, ap length n.same)),
      tt,
      n.same,
      omega (arith, n.on, l.invariant.3, k.0.1),
      rw (n.before, steps.1.3.3) k.0.0,
    )

pub returns : goal.returns
returns c =
    let l = c.loop-line in
    let it = l.line-iterator in
    let end = c.in-None.ensures.steps.1.0 in
    (noting-all c.args.text.now l.table it.at it.before l.t.own l.t.count l.t.second l.invariant.4 (omega (arith, end, ap length l.invariant.2)), omega arith)
