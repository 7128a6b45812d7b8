use Rattle.memory.proofs.Numbers.{read-four}
use Rattle.memory.proofs.bytes.four_at.Goals as goal

pub returns : goal.returns
returns c = rw (c.wide-4.ensures.0, c.wide-3.ensures.0, c.wide-2.ensures.0, c.wide.ensures.0) (read-four _ _ c.requires)
