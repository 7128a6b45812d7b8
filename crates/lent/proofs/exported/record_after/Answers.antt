use Rattle.lent.specs.Lent.{record_after}
use Rattle.lent.proofs.exported.record_after.Goals as goal

pub returns-in-On : goal.returns-in-On
unfolding record_after
returns-in-On c = rw (c.in-On.is, c.lent_of.ensures)

pub returns-in-Ebreak : goal.returns-in-Ebreak
unfolding record_after
returns-in-Ebreak c = rw (c.in-Ebreak.is, c.lent_of-in-Ebreak.ensures)

pub returns-in-Ecall : goal.returns-in-Ecall
unfolding record_after
returns-in-Ecall c = rw (c.in-Ecall.is, c.lent_of-in-Ecall.ensures)

pub returns-in-Refused : goal.returns-in-Refused
unfolding record_after
returns-in-Refused c = rw c.in-Refused.is
