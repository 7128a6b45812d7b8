use Rattle.execute.specs.Modes.{limbs_in}
use Rattle.execute.proofs.registers.limbs.Goals as goal

pub returns-in-Deferred : goal.returns-in-Deferred
unfolding limbs_in
returns-in-Deferred c = rw c.in-Deferred.is (rw c.requires at c.limbs_of_registers.ensures)

pub returns-in-Plain : goal.returns-in-Plain
unfolding limbs_in
returns-in-Plain c = rw c.in-Plain.is
