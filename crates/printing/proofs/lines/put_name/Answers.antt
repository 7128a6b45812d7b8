use Rattle.printing.proofs.Names.{name-letters}
use Rattle.printing.proofs.lines.put_name.Goals as goal

pub returns : goal.returns
returns c = rw (c.letters.ensures.0, c.name_of.ensures, name-letters c.args.op) at c.put_places.ensures
