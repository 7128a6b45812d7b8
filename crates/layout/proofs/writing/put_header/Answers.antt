use Rattle.layout.proofs.Numbers.{stored_next}
use mathlib.Core.Path.{refl}
use Rattle.layout.proofs.writing.put_header.Goals as goal

pub returns : goal.returns
returns c = rw (c.put_number-2.ensures, c.put_number.ensures) (stored_next 8 _ _ 0 8 _ refl)
