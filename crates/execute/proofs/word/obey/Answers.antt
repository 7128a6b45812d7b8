use Rattle.execute.proofs.Forms.{obeyed-found, obeyed-unknown}
use Rattle.execute.proofs.word.obey.Goals as goal

pub returns-in-Some : goal.returns-in-Some
returns-in-Some c = obeyed-found _ _ _ _ _ _ _ c.opcode_at.ensures c.in-Some.is c.by_form.ensures

pub returns-in-None : goal.returns-in-None
returns-in-None c = rw c.refuse.ensures (obeyed-unknown _ _ _ _ _ c.opcode_at.ensures c.in-None.is)
