use mathlib.Core.Path.{sym, ◌∙◌}
use lib.ListN.{length}
use Rattle.checkpoint.specs.Calls.{misused, broken, restored}
use Rattle.checkpoint.proofs.Fits.{fits_few}
use Rattle.checkpoint.proofs.Calls.{readable-memory, no-image, an-image, enough}
use Rattle.checkpoint.proofs.zkir_checkpoint_read.Goals as goal

pub returns-then-not-readable : goal.returns-then-not-readable
returns-then-not-readable c = rw c.refused.ensures (misused (sym c.readable.ensures ∙ c.if-not-readable.true))

pub passes-requires : goal.passes-requires
passes-requires c =
    let a = c.args in
    fits_few (length a.memory.now) (readable-memory a.state.now a.memory.now (sym c.readable.ensures ∙ c.if-not-readable.false))

pub returns-then-not-passes : goal.returns-then-not-passes
returns-then-not-passes c =
    let a = c.args in
    let e = sym c.readable.ensures ∙ c.if-not-readable.false in
    let f = readable-memory a.state.now a.memory.now e in
    rw c.refused-then-not-passes.ensures (broken e (no-image a.image.now a.memory.now f (sym c.passes.ensures ∙ c.if-not-passes.true)))

pub restore-requires-clause-in_bounds : goal.restore-requires-clause-in_bounds
restore-requires-clause-in_bounds c =
    let a = c.args in
    let e = sym c.readable.ensures ∙ c.if-not-readable.false in
    let f = readable-memory a.state.now a.memory.now e in
    enough a.image.now a.memory.now f (sym c.passes.ensures ∙ c.if-not-passes.false)

pub returns : goal.returns
returns c =
    let a = c.args in
    let e = sym c.readable.ensures ∙ c.if-not-readable.false in
    let f = readable-memory a.state.now a.memory.now e in
    let bytes = c.type_inv.image in
    let t = sym c.passes.ensures ∙ c.if-not-passes.false in
    rw (c.done.ensures, c.restore.ensures.0, c.restore.ensures.1)
    (restored e (an-image a.image.now a.memory.now f (λ k. (bytes k).fits) t))
