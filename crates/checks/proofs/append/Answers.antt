use native.Mathlib.Omega.{arith}
use Rattle.checks.proofs.Appended.{none-fits, one_more, none-lent, is-full}
use Rattle.checks.proofs.append.Goals as goal

pub returns-then-room-count : goal.returns-then-room-count
returns-then-room-count c = none-fits _ _ _ (omega arith)

pub returns-then-count-room : goal.returns-then-count-room
returns-then-count-room c = one_more _ _ _ (omega arith)

pub returns-then-room-eq0 : goal.returns-then-room-eq0
returns-then-room-eq0 c = none-lent _ _ _ (omega arith) (omega arith)

pub returns : goal.returns
returns c = is-full _ _ _ (omega arith) (omega arith) (omega arith)
