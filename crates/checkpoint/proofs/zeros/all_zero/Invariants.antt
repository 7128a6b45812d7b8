use Rattle.std.proofs.Common.{◌≡◌, ◌%◌, length}
use Rattle.std.specs.Slice.Iter.{chunks_exact_rest, chunks_exact_size}
use Rattle.checkpoint.specs.Image.{all_zero}
use Rattle.checkpoint.proofs.zeros.all_zero.Given as goal

abbrev pub invariant-loop-chunk : goal.invariant-loop-chunk
invariant-loop-chunk l =
    (goal.iterator-loop-chunk).can_next l.chunk-iterator
    × (goal.iterator-loop-chunk).is_finite l.chunk-iterator
    × (chunks_exact_size l.chunk-iterator ≡ 64)
    × (length (chunks_exact_rest l.chunk-iterator) % 64 ≡ 0)
    × (all_zero (chunks_exact_rest l.chunk-iterator) ≡ all_zero l.bytes)
