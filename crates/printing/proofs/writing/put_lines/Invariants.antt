use Rattle.std.proofs.Common.{◌≡◌, ◌+◌, ◌≤◌, length, ℕ, List}
use Rattle.std.specs.Slice.Iter.{chunks_exact_rest, chunks_exact_size}
use Rattle.printing.specs.Passes.{all_words, printed_lines, Put}
use Rattle.printing.proofs.writing.put_lines.Given as goal

abbrev pub invariant-loop-word : goal.invariant-loop-word
invariant-loop-word l =
    let lines = printed_lines (all_words (chunks_exact_rest l.word-iterator)) in
    (goal.iterator-loop-word).can_next l.word-iterator
    × (goal.iterator-loop-word).is_finite l.word-iterator
    × (chunks_exact_size l.word-iterator ≡ 4)
    × (l.end + length lines ≤ length l.initial.text)
    × ((new : List ℕ) (stop : ℕ) → Put l.text new l.end stop lines → Put l.initial.text new 0 stop (printed_lines (all_words l.words)))
