use Rattle.checkpoint.proofs.Fits.{fits_whole}
use Rattle.checkpoint.proofs.Steps.{put_mid-sets, part-long, blank-is, memory-end, memory_passed, memory_held}
use Rattle.checkpoint.proofs.Pages.{memory-long}
use Rattle.checkpoint.specs.Image.{PAGE_BYTES, pages_of}
use Rattle.checkpoint.specs.Tests.{blank}
use Rattle.layout.proofs.Rows.{sets-all}
use borrow.Rule.Slice.PartMut.{put_mid}
use lib.Seq.{sets}
use Rattle.std.proofs.Common.{rules, arith, ℕ, ◌≡◌, ◌+◌, ◌-◌, ◌*◌, ◌≤◌, length, take, drop, ◌∙◌}
use Rattle.std.proofs.lemmas.List.{take_rest}
use Rattle.checkpoint.proofs.reading.put_pages.Goals as goal

pub loop-p-preserved-in_default : goal.loop-p-preserved-in_default
loop-p-preserved-in_default c =
    let a = c.args in
    let l = c.loop-p in
    let at : ℕ = PAGE_BYTES * l.p in
    let whole = fits_whole (length a.memory.now) c.requires in
    let width : at + PAGE_BYTES - at ≡ PAGE_BYTES = omega arith in
    let room : at + PAGE_BYTES ≤ length l.memory = omega arith in
    let size : length (take (at + PAGE_BYTES - at) (drop at l.memory)) ≡ PAGE_BYTES = rw width (part-long l.memory at PAGE_BYTES room) in
    let zeros : c.fill.new.self ≡ blank PAGE_BYTES = c.fill.ensures.after (λ y q. search rules) ∙ blank-is _ _ size in
    let wrote : put_mid at (at + PAGE_BYTES - at) l.memory c.fill.new.self ≡ sets l.memory at (blank PAGE_BYTES) =
    rw width (put_mid-sets l.memory c.fill.new.self at PAGE_BYTES room (omega arith) ∙ rw zeros)
    in
    rw wrote (memory_passed l.rest.now (pages_of a.memory.now) l.p (omega arith) l.memory c.in_default.ensures ∙ l.invariant)

pub copy-requires : goal.copy-requires
copy-requires c =
    let a = c.args in
    let l = c.loop-p in
    let at : ℕ = PAGE_BYTES * l.p in
    let page = c.in-Some.ensures in
    let whole = fits_whole (length a.memory.now) c.requires in
    let width : at + PAGE_BYTES - at ≡ PAGE_BYTES = omega arith in
    rw (width, page.2) (omega (arith, part-long l.memory at PAGE_BYTES (omega arith), part-long l.rest.now 8 PAGE_BYTES page.1))

pub loop-p-preserved : goal.loop-p-preserved
loop-p-preserved c =
    let a = c.args in
    let l = c.loop-p in
    let at : ℕ = PAGE_BYTES * l.p in
    let page = c.in-Some.ensures in
    let whole = fits_whole (length a.memory.now) c.requires in
    let width : at + PAGE_BYTES - at ≡ PAGE_BYTES = omega arith in
    let room : at + PAGE_BYTES ≤ length l.memory = omega arith in
    let long = part-long l.rest.now 8 PAGE_BYTES page.1 in
    let copied : c.copy.new.into ≡ take PAGE_BYTES (drop 8 l.rest.now) = c.copy.ensures ∙ page.2 in
    let wrote : put_mid at (at + PAGE_BYTES - at) l.memory c.copy.new.into ≡ sets l.memory at (take PAGE_BYTES (drop 8 l.rest.now)) =
    rw (width, copied) (put_mid-sets l.memory (take PAGE_BYTES (drop 8 l.rest.now)) at PAGE_BYTES room long)
    in
    rw (wrote, take_rest l.rest.now 4104) (memory_held l.rest.now (pages_of a.memory.now) l.p (omega arith) l.memory page.0 long ∙ l.invariant)

pub returns : goal.returns
returns c =
    let a = c.args in
    let l = c.loop-p in
    let whole = fits_whole (length a.memory.now) c.requires in
    (rw (memory-end l.rest.now (pages_of a.memory.now) l.p (omega arith)) at l.invariant)
    ∙ sets-all _ _ (omega (arith, memory-long (pages_of a.memory.now) 0 a.bodies.now))
