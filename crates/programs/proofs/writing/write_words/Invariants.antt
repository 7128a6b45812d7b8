use Rattle.std.proofs.Common.{◌≡◌, ◌+◌, ◌*◌, ◌≤◌, length, drop}
use lib.Seq.{sets}
use Rattle.programs.specs.Code.{words_from}
use Rattle.programs.specs.Promise.{bytes_of_words}
use Rattle.programs.specs.Programs.{lines_of}
use Rattle.programs.proofs.writing.write_words.Given as goal

abbrev pub invariant-loop-line : goal.invariant-loop-line
invariant-loop-line l =
    let it = l.line-iterator in
    let rest = words_from l.text l.table (lines_of (drop it.at l.text)) l.own in
    (goal.iterator-loop-line).can_next it
    × (goal.iterator-loop-line).is_finite it
    × (it.text.now ≡ l.text)
    × (l.own ≤ it.at)
    × (l.to + 4 * length rest ≤ length l.initial.words)
    × (sets l.words l.to (bytes_of_words rest) ≡ sets l.initial.words 0 (bytes_of_words (words_from l.text l.table (lines_of l.text) 0)))
