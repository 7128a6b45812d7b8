use Rattle.checkpoint.proofs.Steps.{body-none, body-size, body-stored, put_mid-sets}
use Rattle.checkpoint.specs.Image.{PAGE_BYTES}
use Rattle.std.proofs.Common.{arith, ◌≡◌, ◌+◌, ◌-◌, refl, sym, ◌∙◌}
use Rattle.checkpoint.proofs.writing.put_body.Goals as goal

pub returns-then-all_zero : goal.returns-then-all_zero
returns-then-all_zero c =
    let a = c.args in
    rw (body-none a.at a.page.now (sym c.all_zero.ensures ∙ c.if-all_zero.true)) (omega arith, refl)

pub slice_bounds-copy-end : goal.slice_bounds-copy-end
slice_bounds-copy-end c =
    let a = c.args in
    omega (arith, body-size a.at a.page.now c.requires.page_len (sym c.all_zero.ensures ∙ c.if-all_zero.false))

pub returns : goal.returns
returns c =
    let a = c.args in
    let full = sym c.all_zero.ensures ∙ c.if-all_zero.false in
    let size = body-size a.at a.page.now c.requires.page_len full in
    let width : a.place + 4104 - (a.place + 8) ≡ PAGE_BYTES = omega arith in (
      omega arith,
      rw (width, c.copy.ensures, put_mid-sets c.put_number.new.m a.page.now (a.place + 8) PAGE_BYTES (omega arith) c.requires.page_len, c.put_number.ensures)
          (body-stored a.at a.page.now _ a.place full),
    )
