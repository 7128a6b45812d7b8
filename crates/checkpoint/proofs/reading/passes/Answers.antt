use Rattle.checkpoint.specs.Tests.{pages_in, state_at, passes}
use Rattle.checkpoint.specs.Pages.{table_bytes}
use Rattle.layout.specs.Layout.{STATE_BYTES, admissible}
use Rattle.std.proofs.Common.{arith, ◌≡◌, true, ◌+◌, ◌-◌, sym, ◌∙◌}
use Rattle.std.proofs.lemmas.List.{take_rest}
use borrow.Author.Tests.{le-leb, eq-eqb}
use Rattle.checkpoint.proofs.reading.passes.Goals as goal

pub returns : goal.returns
unfolding passes
returns c =
    let image = c.args.image.now in
    let start = table_bytes (pages_in image) in
    let width : start + STATE_BYTES - start ≡ STATE_BYTES = omega arith in
    let table = sym c.table_is.ensures ∙ c.if-not-table_is.false in
    let state : admissible (state_at image) ≡ true = rw width at (sym c.is_admissible.ensures ∙ c.if-not-is_admissible.false) in
    rw (le-leb _ _ c.if-image-lt-LEAST.false, eq-eqb _ _ c.if-left-ne0.false, le-leb _ _ c.if-pages-n.false, table, state)
    (rw (take_rest image (start + STATE_BYTES)) at c.fill_pages.ensures)
