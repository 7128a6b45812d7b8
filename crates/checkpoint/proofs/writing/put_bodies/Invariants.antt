use Rattle.std.proofs.Common.{◌≡◌, ◌+◌, ◌-◌, ◌*◌, length, drop}
use lib.Seq.{sets}
use Rattle.checkpoint.specs.Image.{PAGE_BYTES, pages_of}
use Rattle.checkpoint.specs.Pages.{bodies}
use Rattle.checkpoint.proofs.writing.put_bodies.Given as goal

abbrev pub invariant-loop-p : goal.invariant-loop-p
invariant-loop-p l =
    let pages = pages_of l.memory in
    let rest = bodies (pages - l.p) (PAGE_BYTES * l.p) (drop (PAGE_BYTES * l.p) l.memory) in
    let all = bodies pages 0 l.memory in
    (l.place + length rest ≡ l.start + length all) × (sets l.image l.place rest ≡ sets l.initial.image l.start all)
