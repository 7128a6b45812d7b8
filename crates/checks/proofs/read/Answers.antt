use Rattle.std.proofs.Common.{arith}
use Rattle.checks.proofs.Listed.{refused-to-read, no-entry, entry-is}
use Rattle.checks.proofs.read.Goals as goal

pub returns-then-count-at : goal.returns-then-count-at
returns-then-count-at c = no-entry _ _ _ (omega arith) (omega arith)

pub returns-then-count-list : goal.returns-then-count-list
returns-then-count-list c = entry-is _ _ _ (omega arith) (omega arith)

pub returns : goal.returns
returns c = refused-to-read _ _ _ (omega arith)
