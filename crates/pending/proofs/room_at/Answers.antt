use Rattle.pending.proofs.Lists.{no-list, room-left}
use mathlib.Core.Path.{refl}
use native.Mathlib.Omega.{arith}
use Rattle.pending.proofs.room_at.Goals as goal

pub returns-then-len-eq0 : goal.returns-then-len-eq0
returns-then-len-eq0 c = no-list _ _ (omega arith)

pub returns-then-len-count : goal.returns-then-len-count
returns-then-len-count c = room-left _ _ 0 (omega arith) (omega arith)

pub returns : goal.returns
returns c = room-left _ _ _ (omega arith) refl
