use Rattle.effect.proofs.Arms.{of-form}
use Rattle.effect.specs.Effects.{effect}
use Rattle.effect.specs.Notes.{result_bits}
use Rattle.effect.specs.Operations.{result, register_form}
use Rattle.effect.proofs.immediate.shift.Goals as goal

pub returns-in-Slli : goal.returns-in-Slli
unfolding effect result result_bits register_form
returns-in-Slli c = rw c.in-Slli.is (of-form (λ m a b x imm v e. rw (c.writes.ensures, c.after_shl.ensures, c.shl.ensures, e)))

pub returns-in-Srli : goal.returns-in-Srli
unfolding effect result result_bits register_form
returns-in-Srli c = rw c.in-Srli.is (of-form (λ m a b x imm v e. rw (c.writes-in-Srli.ensures, c.after_srl.ensures, c.shr.ensures, e)))

pub returns-in-Srai : goal.returns-in-Srai
unfolding effect result result_bits register_form
returns-in-Srai c = rw c.in-Srai.is (of-form (λ m a b x imm v e. rw (c.writes-in-Srai.ensures, c.after_sra.ensures, c.sra.ensures, e)))
