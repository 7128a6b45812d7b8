use Rattle.std.proofs.Common.{◌≡◌}
use Rattle.std.specs.Slice.Iter.{chunks_exact_rest, chunks_exact_size}
use Rattle.printing.specs.Print.{print_of}
use Rattle.printing.specs.Passes.{all_words, room_after}
use Rattle.printing.proofs.measure.measure.Given as goal

abbrev pub invariant-loop-word : goal.invariant-loop-word
invariant-loop-word l =
    let rest = chunks_exact_rest l.word-iterator in
    (goal.iterator-loop-word).can_next l.word-iterator
    × (goal.iterator-loop-word).is_finite l.word-iterator
    × (chunks_exact_size l.word-iterator ≡ 4)
    × (room_after (print_of (all_words rest)) l.left ≡ room_after (print_of (all_words l.words)) l.room)
