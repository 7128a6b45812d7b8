use Rattle.exports.specs.Coding.{given_of}
use Rattle.exports.proofs.coding.given.Goals as goal

pub returns-in-Some : goal.returns-in-Some
unfolding given_of
returns-in-Some c = rw (c.instruction_of.ensures, ← c.opcode_of.ensures, c.in-Some.is)

pub returns-in-None : goal.returns-in-None
unfolding given_of
returns-in-None c = rw (← c.opcode_of.ensures, c.in-None.is)
