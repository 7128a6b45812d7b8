use Rattle.words.specs.Words.{take_in, found_apart}
use Rattle.words.proofs.decoder.take.Goals as goal

pub returns-in-Some : goal.returns-in-Some
unfolding take_in found_apart
returns-in-Some c = rw (← c.low.ensures, ← c.opcode_of.ensures, c.in-Some.is) c.apart.ensures

pub returns-in-None : goal.returns-in-None
unfolding take_in found_apart
returns-in-None c = rw (← c.low.ensures, ← c.opcode_of.ensures, c.in-None.is)
