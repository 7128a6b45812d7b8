use Rattle.std.proofs.Common.{◌≡◌, drop}
use Rattle.std.proofs.lemmas.List.Edits.{sets}
use Rattle.checkpoint.proofs.copying.copy.Given as goal

-- What is still to be copied makes all of it.
abbrev pub invariant-loop-i : goal.invariant-loop-i
invariant-loop-i l = sets l.into l.i (drop l.i l.from) ≡ l.from
