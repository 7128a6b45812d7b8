use Prim.Native.Nat.{◌+◌}
use native.Mathlib.Omega.{arith}
use Rattle.layout.proofs.Numbers.{stored_next}
use mathlib.Core.Path.{refl, ◌∙◌}
use Rattle.layout.proofs.writing.put_three.Goals as goal

pub returns : goal.returns
returns c =
    let at = c.args.at in
    rw (c.put_number-3.ensures, c.put_number-2.ensures, c.put_number.ensures)
    (stored_next 8 _ _ (at + 8) (at + 16) _ (omega arith) ∙ stored_next 8 _ _ at (at + 8) _ refl)
