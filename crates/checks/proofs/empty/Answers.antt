use Rattle.std.proofs.Common.{arith}
use Rattle.checks.proofs.Listed.{refused-to-empty, empties}
use Rattle.checks.proofs.empty.Goals as goal

pub returns-then-list-count : goal.returns-then-list-count
returns-then-list-count c = refused-to-empty _ _ (omega arith)

pub returns : goal.returns
returns c = empties _ _ (omega arith)
