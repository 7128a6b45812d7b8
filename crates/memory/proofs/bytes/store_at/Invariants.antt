use Prim.Native.Nat.{◌+◌, ◌-◌}
use mathlib.Core.Path.{◌≡◌}
use lib.ListN.{length}
use lib.Seq.{sets}
use Rattle.memory.specs.Bytes.{bytes}
use Rattle.memory.proofs.bytes.store_at.Given as goal

abbrev pub invariant-loop-i : goal.invariant-loop-i
invariant-loop-i l = (length l.m ≡ length l.initial.m) × (sets l.m (l.at + l.i) (bytes (l.n - l.i) l.v) ≡ sets l.initial.m l.at (bytes l.n l.value))
