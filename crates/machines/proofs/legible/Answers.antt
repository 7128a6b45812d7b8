use Rattle.machines.specs.Machine.{legible}
use borrow.Author.Tests.{le-leb, lt-leb}
use native.Mathlib.Omega.{arith}
use Rattle.machines.proofs.legible.Goals as goal

pub returns-then-mode-gt1 : goal.returns-then-mode-gt1
unfolding legible
returns-then-mode-gt1 c = rw (lt-leb c.args.mode 1 (omega arith))

pub returns : goal.returns
unfolding legible
returns c = rw (le-leb c.args.mode 1 (omega arith)) c.well_laid.ensures
