use Rattle.checkpoint.proofs.Chunks.{zeros-more, length-parts}
use Rattle.std.proofs.Common.{rules, arith, ◌≡◌, [], sym, ◌∙◌}
use Rattle.std.specs.Slice.Iter.{chunks_exact_rest}
use Rattle.std.proofs.lemmas.List.{nil_from_length}
use Rattle.checkpoint.specs.Image.{all_zero}
use Rattle.checkpoint.proofs.zeros.all_zero.Goals as goal

pub returns-then-not-chunk_zero : goal.returns-then-not-chunk_zero
returns-then-not-chunk_zero c =
    let steps = c.in-Some.ensures.steps in
    sym (zeros-more _ _ _ steps.1.0 (sym c.chunk_zero.ensures ∙ c.if-not-chunk_zero.true)) ∙ c.loop-chunk.invariant.4

pub loop-chunk-preserved : goal.loop-chunk-preserved
loop-chunk-preserved c =
    let steps = c.in-Some.ensures.steps in
    let inv = c.loop-chunk.invariant in
    let size = steps.1.1 in (
      search rules,
      tt,
      search rules,
      omega (arith, inv.2, inv.3, length-parts (chunks_exact_rest c.loop-chunk.chunk-iterator) c.in-Some.chunk.now (chunks_exact_rest c.next.new.self) steps.1.0),
      sym (zeros-more _ _ _ steps.1.0 (sym c.chunk_zero.ensures ∙ c.if-not-chunk_zero.false)) ∙ inv.4,
    )

pub returns : goal.returns
unfolding all_zero
returns c =
    let inv = c.loop-chunk.invariant in
    let short = c.in-None.ensures.steps.1.0 in
    let none : chunks_exact_rest c.loop-chunk.chunk-iterator ≡ [] = nil_from_length _ (omega (arith, short, inv.2, inv.3)) in
    rw none at inv.4
