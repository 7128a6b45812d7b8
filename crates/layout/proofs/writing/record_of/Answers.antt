use Prim.Native.Nat.{◌+◌, ◌*◌}
use lib.Dec.{lit<}
use native.Mathlib.Omega.{arith}
use mathlib.Core.Path.{refl}
use mathlib.Core.List.{append_assoc}
use Rattle.state.specs.Held.{held_of}
use Rattle.layout.proofs.Stored.{head-is}
use Rattle.layout.specs.Layout.{kind_of, first_of, second_of, record_bytes}
use Rattle.layout.proofs.writing.record_of.Goals as goal

pub returns-then-waits : goal.returns-then-waits
unfolding record_bytes kind_of first_of second_of held_of
returns-then-waits c = let n = c.args.bound in rw (c.if-waits.true, head-is (256 * n + 1) 1 n refl (lit< tt) (omega arith), append_assoc, append_assoc)

pub returns : goal.returns
unfolding record_bytes kind_of first_of second_of held_of
returns c = let n = c.args.bound in rw (c.if-waits.false, head-is (256 * n) 0 n (omega arith) (lit< tt) (omega arith), append_assoc, append_assoc)
