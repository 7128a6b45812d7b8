use Rattle.pending.proofs.Lists.{no_place, a-place}
use native.Mathlib.Omega.{arith}
use Rattle.pending.proofs.note.Goals as goal

pub returns-then-values-count : goal.returns-then-values-count
returns-then-values-count c = no_place _ _ _ _ (omega arith)

pub returns : goal.returns
returns c = rw (c.put.ensures, c.put-2.ensures, c.put-3.ensures) (a-place _ _ _ _ (omega arith))
