use Rattle.programs.specs.Code.{is_text}
use Rattle.labels.proofs.Steps.{Going}
use Rattle.programs.proofs.spans.next_feed.Given as goal

abbrev pub invariant-loop-n : goal.invariant-loop-n
invariant-loop-n l = Going is_text l.s l.at l.n
