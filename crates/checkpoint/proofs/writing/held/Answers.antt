use Rattle.checkpoint.proofs.Fits.{fits_even, fits_few}
use Rattle.checkpoint.proofs.Steps.{held_more, held-end}
use Rattle.checkpoint.proofs.Pages.{held-le}
use Rattle.checkpoint.specs.Image.{pages_of}
use Rattle.std.specs.Slice.Iter.{chunks_exact_rest}
use Rattle.std.proofs.Common.{rules, arith, ◌≡◌, length, sym, ◌∙◌}
use Rattle.checkpoint.proofs.writing.held.Goals as goal

pub loop-page-init : goal.loop-page-init
loop-page-init c =
    let m = c.args.memory.now in
    let all : chunks_exact_rest c.into_iter-page-iterator.result ≡ m = search rules in
    (search rules, tt, search rules, rw all (fits_even (length m) c.requires), rw all (omega arith))

pub overflow_add-n : goal.overflow_add-n
overflow_add-n c =
    let m = c.args.memory.now in
    omega (arith, c.loop-page.invariant.4, held-le (pages_of m) m, fits_few (length m) c.requires)

pub loop-page-preserved : goal.loop-page-preserved
loop-page-preserved c =
    let steps = c.in-Some.ensures.steps in
    let inv = c.loop-page.invariant in
    let more = held_more _ _ _ steps.1.0 (steps.1.1 ∙ inv.2) inv.3 in
    let some = sym c.all_zero.ensures ∙ c.if-all_zero.false in
    (search rules, tt, search rules, more.0, omega (arith, inv.4, rw some at more.1))

pub loop-page-preserved-then-all_zero : goal.loop-page-preserved-then-all_zero
loop-page-preserved-then-all_zero c =
    let steps = c.in-Some.ensures.steps in
    let inv = c.loop-page.invariant in
    let more = held_more _ _ _ steps.1.0 (steps.1.1 ∙ inv.2) inv.3 in
    let none = sym c.all_zero.ensures ∙ c.if-all_zero.true in
    (search rules, tt, search rules, more.0, omega (arith, inv.4, rw none at more.1))

pub returns : goal.returns
returns c =
    let inv = c.loop-page.invariant in
    omega (arith, inv.4, held-end (chunks_exact_rest c.loop-page.page-iterator) (omega (arith, c.in-None.ensures.steps.1.0, inv.2)))
