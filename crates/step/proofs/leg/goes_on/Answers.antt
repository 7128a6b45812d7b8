use Rattle.step.specs.Step.{goes_on}
use Rattle.step.proofs.leg.goes_on.Goals as goal

pub returns-in-On : goal.returns-in-On
unfolding goes_on
returns-in-On c = rw c.in-On.is

pub returns-in-Ebreak : goal.returns-in-Ebreak
unfolding goes_on
returns-in-Ebreak c = rw c.in-Ebreak.is

pub returns-in-Ecall : goal.returns-in-Ecall
unfolding goes_on
returns-in-Ecall c = rw c.in-Ecall.is

pub returns-in-Refused : goal.returns-in-Refused
unfolding goes_on
returns-in-Refused c = rw c.in-Refused.is
