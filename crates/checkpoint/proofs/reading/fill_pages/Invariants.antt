use Rattle.std.proofs.Common.{◌≡◌, ◌-◌, ◌*◌}
use Rattle.checkpoint.specs.Image.{PAGE_BYTES}
use Rattle.checkpoint.specs.Tests.{fill_pages}
use Rattle.checkpoint.proofs.reading.fill_pages.Given as goal

abbrev pub invariant-loop-p : goal.invariant-loop-p
invariant-loop-p l = fill_pages (l.pages - l.p) (PAGE_BYTES * l.p) l.rest ≡ fill_pages l.pages 0 l.bodies
