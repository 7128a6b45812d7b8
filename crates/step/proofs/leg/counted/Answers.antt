use Rattle.step.specs.Step.{counted}
use native.Mathlib.Omega.{arith}
use Rattle.step.proofs.leg.counted.Goals as goal

pub returns-in-On : goal.returns-in-On
unfolding counted
returns-in-On c = (rw c.in-On.is, omega arith)

pub returns-in-Ebreak : goal.returns-in-Ebreak
unfolding counted
returns-in-Ebreak c = (rw c.in-Ebreak.is, omega arith)

pub returns-in-Ecall : goal.returns-in-Ecall
unfolding counted
returns-in-Ecall c = (rw c.in-Ecall.is, omega arith)

pub returns-in-Refused : goal.returns-in-Refused
unfolding counted
returns-in-Refused c = (rw c.in-Refused.is, omega arith)
