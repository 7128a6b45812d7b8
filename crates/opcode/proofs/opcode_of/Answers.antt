use Rattle.opcode.proofs.Numberings.{no-opcode}
use Rattle.opcode.proofs.opcode_of.Goals as goal

pub returns-else-n : goal.returns-else-n
returns-else-n c = no-opcode _ c.if-n.false
