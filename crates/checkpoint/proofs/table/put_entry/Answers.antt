use Rattle.checkpoint.specs.Pages.{table_entry}
use Rattle.layout.proofs.Numbers.{stored_next}
use native.Mathlib.Omega.{arith}
use mathlib.Core.Path.{refl, ◌∙◌}
use Prim.Native.Nat.{◌+◌}
use Rattle.checkpoint.proofs.table.put_entry.Goals as goal

pub returns : goal.returns
unfolding table_entry
returns c =
    let a = c.args in
    let first = c.put_number.ensures in
    let second = c.put_number-2.ensures in
    rw (c.put_number-3.ensures, second, first)
    (stored_next 4 _ _ (a.at + 4) (a.at + 8) _ (omega arith) ∙ stored_next 4 _ _ a.at (a.at + 4) _ refl)
