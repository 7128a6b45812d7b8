use Rattle.std.proofs.Common.{rules, arith, ◌≡◌, sym, ◌∙◌, length-append}
use Rattle.std.specs.Slice.Iter.{chunks_exact_rest}
use Rattle.printing.specs.Passes.{printed_lines}
use Rattle.printing.proofs.Pieces.{both, no_byte}
use Rattle.printing.proofs.Registers.{taken-registers}
use Rattle.printing.proofs.Rooms.{lines_more, lines_none}
use Rattle.printing.proofs.Words.{words-none}
use Rattle.printing.proofs.writing.put_lines.Goals as goal

pub loop-word-init : goal.loop-word-init
loop-word-init c =
    let all : chunks_exact_rest c.into_iter-word-iterator.result ≡ c.args.words.now = search rules in
    (search rules, tt, search rules, rw all (omega arith), rw all (λ new stop put. put))

pub put_line-end-requires-clause-short_registers : goal.put_line-end-requires-clause-short_registers
put_line-end-requires-clause-short_registers c =
    let is = sym c.parts_in.ensures.value ∙ c.in-Ok.is in
    taken-registers _ _ c.parts_in.ensures.word_bound is

pub put_line-end-requires-clause-p_in_bounds : goal.put_line-end-requires-clause-p_in_bounds
put_line-end-requires-clause-p_in_bounds c =
    let l = c.loop-word in
    let steps = c.in-Some.ensures.steps in
    let is = sym c.parts_in.ensures.value ∙ c.in-Ok.is in
    let room = rw (lines_more _ _ _ steps.1.0 (steps.1.1 ∙ l.invariant.2) _ is, length-append) at l.invariant.3 in omega arith

pub loop-word-preserved : goal.loop-word-preserved
loop-word-preserved c =
    let l = c.loop-word in
    let steps = c.in-Some.ensures.steps in
    let is = sym c.parts_in.ensures.value ∙ c.in-Ok.is in
    let put = c.put_line-end.ensures in
    let more = lines_more _ _ _ steps.1.0 (steps.1.1 ∙ l.invariant.2) _ is in
    let room = rw (more, length-append) at l.invariant.3 in
    (search rules, tt, search rules, omega arith, λ new stop rest. l.invariant.4 new stop (rw more (both put rest)))

pub returns-in-Err : goal.returns-in-Err
returns-in-Err c =
    let l = c.loop-word in
    let steps = c.in-Some.ensures.steps in
    let is = sym c.parts_in.ensures.value ∙ c.in-Err.is in
    l.invariant.4 l.text l.end (rw (lines_none _ _ _ steps.1.0 (steps.1.1 ∙ l.invariant.2) _ is) (no_byte l.text l.end))

pub returns : goal.returns
unfolding printed_lines
returns c =
    let l = c.loop-word in
    l.invariant.4 l.text l.end (rw (words-none (chunks_exact_rest l.word-iterator) (omega (arith, c.in-None.ensures.steps.1.0, l.invariant.2))) (no_byte l.text l.end))
