use Rattle.labels.proofs.Steps.{Going}
use Rattle.labels.specs.Bytes.{is_space}
use Rattle.labels.proofs.text.skip.Given as goal

abbrev pub invariant-loop-n : goal.invariant-loop-n
invariant-loop-n l = Going is_space l.s l.at l.n
