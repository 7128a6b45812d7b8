use Rattle.run.specs.Run.{stop_of}
use Rattle.run.proofs.legs.stop_of.Goals as goal

pub returns-in-On : goal.returns-in-On
unfolding stop_of
returns-in-On c = rw c.in-On.is

pub returns-in-Ebreak : goal.returns-in-Ebreak
unfolding stop_of
returns-in-Ebreak c = rw c.in-Ebreak.is

pub returns-in-Ecall : goal.returns-in-Ecall
unfolding stop_of
returns-in-Ecall c = rw c.in-Ecall.is

pub returns-in-Refused : goal.returns-in-Refused
unfolding stop_of
returns-in-Refused c = rw c.in-Refused.is
