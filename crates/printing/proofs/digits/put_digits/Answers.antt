use Rattle.printing.proofs.Decimals.{digits-places}
use Rattle.printing.proofs.digits.put_digits.Goals as goal

pub returns : goal.returns
returns c = rw (c.count_digits.ensures.0, digits-places 20 c.args.n) at c.put_places.ensures
