use Rattle.std.proofs.Common.{◌≡◌, ◌-◌, ◌*◌}
use lib.Seq.{sets}
use Rattle.checkpoint.specs.Image.{PAGE_BYTES, pages_of}
use Rattle.checkpoint.specs.Tests.{memory_from}
use Rattle.checkpoint.proofs.reading.put_pages.Given as goal

abbrev pub invariant-loop-p : goal.invariant-loop-p
invariant-loop-p l =
    let pages = pages_of l.initial.memory in
    sets l.memory (PAGE_BYTES * l.p) (memory_from (pages - l.p) (PAGE_BYTES * l.p) l.rest) ≡ sets l.initial.memory 0 (memory_from pages 0 l.bodies)
