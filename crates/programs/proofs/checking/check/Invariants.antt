use Rattle.std.proofs.Common.{◌≡◌, ◌+◌, ◌≤◌, drop}
use Rattle.programs.specs.Code.{check_from}
use Rattle.programs.specs.Programs.{lines_of}
use Rattle.programs.proofs.checking.check.Given as goal

abbrev pub invariant-loop-line : goal.invariant-loop-line
invariant-loop-line l =
    let it = l.line-iterator in
    (goal.iterator-loop-line).can_next it
    × (goal.iterator-loop-line).is_finite it
    × (it.text.now ≡ l.text)
    × (l.own ≤ it.at)
    × (check_from l.text l.table l.second (lines_of l.text) 1 0 ≡ check_from l.text l.table l.second (lines_of (drop it.at l.text)) (it.before + 1) l.own)
