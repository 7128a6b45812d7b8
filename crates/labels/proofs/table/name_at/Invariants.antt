use Rattle.labels.proofs.Steps.{NameRead}
use Rattle.labels.proofs.table.name_at.Given as goal

abbrev pub invariant-loop-after : goal.invariant-loop-after
invariant-loop-after l = NameRead l.s l.at l.key l.after
