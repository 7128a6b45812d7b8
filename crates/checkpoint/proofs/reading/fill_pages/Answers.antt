use Rattle.checkpoint.proofs.Steps.{fill_end, fill_passed, fill_zero, fill_held, part-long}
use Rattle.checkpoint.specs.Image.{PAGE_BYTES}
use Rattle.std.proofs.Common.{arith, sym, ◌∙◌}
use Rattle.std.proofs.lemmas.List.{take_rest}
use Rattle.checkpoint.proofs.reading.fill_pages.Goals as goal

pub loop-p-preserved-in_default : goal.loop-p-preserved-in_default
loop-p-preserved-in_default c =
    let l = c.loop-p in
    sym (fill_passed l.rest.now c.args.pages l.p (omega arith) c.in_default.ensures) ∙ l.invariant

pub all_zero-requires : goal.all_zero-requires
all_zero-requires c = rw c.in-Some.ensures.2 (omega (arith, part-long c.loop-p.rest.now 8 PAGE_BYTES c.in-Some.ensures.1))

pub returns-then-all_zero : goal.returns-then-all_zero
returns-then-all_zero c =
    let l = c.loop-p in
    let page = c.in-Some.ensures in
    let zero = rw page.2 at (sym c.all_zero.ensures ∙ c.if-all_zero.true) in
    sym (fill_zero l.rest.now c.args.pages l.p (omega arith) page.0 zero) ∙ l.invariant

pub loop-p-preserved : goal.loop-p-preserved
loop-p-preserved c =
    let l = c.loop-p in
    let page = c.in-Some.ensures in
    let some = rw page.2 at (sym c.all_zero.ensures ∙ c.if-all_zero.false) in
    rw (take_rest l.rest.now 4104) (sym (fill_held l.rest.now c.args.pages l.p (omega arith) page.0 some) ∙ l.invariant)

pub returns : goal.returns
returns c =
    let l = c.loop-p in
    c.is_empty.ensures ∙ fill_end l.rest.now c.args.pages l.p (omega arith) ∙ l.invariant
