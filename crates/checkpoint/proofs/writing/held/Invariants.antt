use Rattle.std.proofs.Common.{◌≡◌, ◌+◌, ◌%◌, length}
use Rattle.std.specs.Slice.Iter.{chunks_exact_rest, chunks_exact_size}
use Rattle.checkpoint.specs.Image.{PAGE_BYTES, pages_of}
use Rattle.checkpoint.specs.Pages.{held}
use Rattle.checkpoint.proofs.writing.held.Given as goal

abbrev pub invariant-loop-page : goal.invariant-loop-page
invariant-loop-page l =
    let rest = chunks_exact_rest l.page-iterator in
    (goal.iterator-loop-page).can_next l.page-iterator
    × (goal.iterator-loop-page).is_finite l.page-iterator
    × (chunks_exact_size l.page-iterator ≡ PAGE_BYTES)
    × (length rest % PAGE_BYTES ≡ 0)
    × (l.n + held (pages_of rest) rest ≡ held (pages_of l.memory) l.memory)
