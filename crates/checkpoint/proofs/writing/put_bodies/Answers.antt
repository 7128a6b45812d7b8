use Rattle.checkpoint.proofs.Steps.{bodies-size, bodies-stored, bodies-end}
use Rattle.checkpoint.specs.Image.{PAGE_BYTES, pages_of}
use Rattle.std.proofs.Common.{arith, ◌≡◌, ◌+◌, ◌-◌, ◌*◌, ◌∙◌}
use Rattle.checkpoint.proofs.writing.put_bodies.Goals as goal

pub put_body-place-requires-clause-page_in_bounds : goal.put_body-place-requires-clause-page_in_bounds
put_body-place-requires-clause-page_in_bounds c =
    let m = c.args.memory.now in
    let l = c.loop-p in
    let width : PAGE_BYTES * l.p + PAGE_BYTES - PAGE_BYTES * l.p ≡ PAGE_BYTES = omega arith in
    rw width (omega (arith, bodies-size m (pages_of m) l.p (omega arith), l.invariant.0))

pub loop-p-preserved : goal.loop-p-preserved
loop-p-preserved c =
    let m = c.args.memory.now in
    let l = c.loop-p in
    let width : PAGE_BYTES * l.p + PAGE_BYTES - PAGE_BYTES * l.p ≡ PAGE_BYTES = omega arith in
    let put = rw width at c.put_body-place.ensures in
    let stored = bodies-stored m (pages_of m) l.p l.image l.place c.put_body-place.result (omega arith) put.0 in
    (omega (arith, bodies-size m (pages_of m) l.p (omega arith), l.invariant.0, put.0), rw put.1 (stored ∙ l.invariant.1))

pub returns : goal.returns
returns c =
    let m = c.args.memory.now in
    let l = c.loop-p in
    rw (bodies-end m (pages_of m) l.p (omega arith)) at l.invariant.1
