use Prim.Native.Nat.{◌-◌}
use lib.Seq.{sets}
use lib.ListN.{length}
use mathlib.Core.Path.{◌≡◌}
use Rattle.layout.specs.Layout.{HEADER_BYTES, record_at, records}
use Rattle.layout.proofs.writing.put_records.Given as goal

abbrev pub invariant-loop-i : goal.invariant-loop-i
invariant-loop-i l =
    (length l.bytes ≡ length l.initial.bytes)
    × (sets l.bytes (record_at l.i) (records (16 - l.i) l.i l.registers) ≡ sets l.initial.bytes HEADER_BYTES (records 16 0 l.registers))
