use Rattle.std.proofs.Common.{rules, arith, sym, ◌∙◌}
use Rattle.std.specs.Slice.Iter.{chunks_exact_rest}
use native.Mathlib.Nat.{sub-zero}
use Rattle.printing.specs.Print.{print_of}
use Rattle.printing.proofs.Rooms.{room-more, room-none}
use Rattle.printing.proofs.Words.{words-none}
use Rattle.printing.proofs.measure.measure.Goals as goal

pub loop-word-preserved : goal.loop-word-preserved
loop-word-preserved c =
    let l = c.loop-word in
    let steps = c.in-Some.ensures.steps in
    let is = sym c.parts_in.ensures.value ∙ c.in-Ok.is in
    let more = room-more _ _ _ steps.1.0 (steps.1.1 ∙ l.invariant.2) _ is l.left in
    (search rules, tt, search rules, rw (c.saturating_sub-left.ensures, c.line_length.ensures) (sym more ∙ l.invariant.3))

pub returns-in-Err : goal.returns-in-Err
returns-in-Err c =
    let l = c.loop-word in
    let steps = c.in-Some.ensures.steps in
    let is = sym c.parts_in.ensures.value ∙ c.in-Err.is in
    sym (room-none _ _ _ steps.1.0 (steps.1.1 ∙ l.invariant.2) _ is l.left) ∙ l.invariant.3

pub returns : goal.returns
unfolding print_of
returns c =
    let l = c.loop-word in
    rw (words-none (chunks_exact_rest l.word-iterator) (omega (arith, c.in-None.ensures.steps.1.0, l.invariant.2)), sub-zero) at l.invariant.3
