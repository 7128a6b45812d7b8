use mathlib.Core.Path.{sym, ◌∙◌}
use native.Mathlib.Omega.{arith}
use Rattle.checkpoint.proofs.Calls.{writable-state, held-few, size_is}
use Rattle.checkpoint.proofs.Calls.{writing-misused, writing-small, writing-stored}
use Rattle.checkpoint.proofs.zkir_checkpoint_write.Goals as goal

pub returns-then-not-writable : goal.returns-then-not-writable
returns-then-not-writable c =
    let a = c.args in
    rw c.refused.ensures (writing-misused a.state.now a.memory.now a.image.now (sym c.writable.ensures ∙ c.if-not-writable.true))

pub overflow_mul-size : goal.overflow_mul-size
overflow_mul-size c =
    let a = c.args in
    omega (arith, c.held-n.ensures, held-few a.state.now a.memory.now (sym c.writable.ensures ∙ c.if-not-writable.false))

pub overflow_add-size : goal.overflow_add-size
overflow_add-size c =
    let a = c.args in
    omega (arith, c.held-n.ensures, held-few a.state.now a.memory.now (sym c.writable.ensures ∙ c.if-not-writable.false))

pub returns-then-image-size : goal.returns-then-image-size
returns-then-image-size c =
    let a = c.args in
    let e = sym c.writable.ensures ∙ c.if-not-writable.false in
    let size = size_is a.state.now a.memory.now e in
    rw c.refused-then-image-size.ensures
    (writing-small a.state.now a.memory.now a.image.now e (omega (arith, c.if-image-size.true, c.held-n.ensures, size)))

pub put_image-requires-clause-state_len : goal.put_image-requires-clause-state_len
put_image-requires-clause-state_len c =
    let a = c.args in
    let e = sym c.writable.ensures ∙ c.if-not-writable.false in
    writable-state a.state.now a.memory.now e

pub returns : goal.returns
returns c =
    let a = c.args in
    let e = sym c.writable.ensures ∙ c.if-not-writable.false in
    let held = c.held-n.ensures in
    let room = c.if-image-size.false in
    let size = size_is a.state.now a.memory.now e in
    rw c.done.ensures
    (writing-stored a.state.now a.memory.now a.image.now e _ _ (omega (arith, held, size)) room c.put_image.ensures)
