use Rattle.std.proofs.Common.{◌≡◌, ◌≤◌}
use Rattle.programs.proofs.Notes.{Noting}
use Rattle.programs.proofs.noting.note_labels.Given as goal

abbrev pub invariant-loop-line : goal.invariant-loop-line
invariant-loop-line l =
    let it = l.line-iterator in
    (goal.iterator-loop-line).can_next it
    × (goal.iterator-loop-line).is_finite it
    × (it.text.now ≡ l.text)
    × (l.t.own ≤ it.at)
    × Noting l.text l.table it.at it.before l.t.own l.t.count l.t.second
