use Rattle.std.proofs.Common.{◌≡◌, ◌+◌, ◌-◌, ◌*◌}
use lib.Seq.{sets}
use Rattle.checkpoint.specs.Pages.{BODY_BYTES, entries}
use Rattle.checkpoint.proofs.table.put_entries.Given as goal

abbrev pub invariant-loop-i : goal.invariant-loop-i
invariant-loop-i l = sets l.into (16 + 12 * l.i) (entries (l.n - l.i) (l.offset + BODY_BYTES * l.i)) ≡ sets l.initial.into 16 (entries l.n l.offset)
