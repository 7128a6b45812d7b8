use Prim.Native.Nat.{◌<◌, ◌+◌, ◌-◌, ◌^◌}
use mathlib.Core.Path.{◌≡◌}
use lib.ListN.{take, drop}
use Rattle.memory.specs.Bytes.{number_of_bytes}
use Rattle.memory.proofs.bytes.word_at.Given as goal

abbrev pub invariant-loop-i : goal.invariant-loop-i
invariant-loop-i l = (l.v ≡ number_of_bytes (take (l.n - l.i) (drop (l.at + l.i) l.m))) × (l.v < 256 ^ (l.n - l.i))
