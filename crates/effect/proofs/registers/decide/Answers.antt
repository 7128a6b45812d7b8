use mathlib.Core.Path.{◌∙◌}
use Rattle.effect.proofs.Arms.{of-form}
use Rattle.effect.specs.Effects.{effect, dividing, moving}
use Rattle.effect.specs.Notes.{result_bits}
use Rattle.effect.specs.Operations.{result, divided, moves}
use Rattle.effect.proofs.registers.decide.Goals as goal

pub returns-in-Add : goal.returns-in-Add
unfolding effect
returns-in-Add c = rw c.in-Add.is (of-form (λ a b x imm v m e. c.checks.ensures a v.pc ∙ rw (c.after_add.ensures, c.add.ensures, e)))

pub returns-in-Sub : goal.returns-in-Sub
unfolding effect
returns-in-Sub c = rw c.in-Sub.is (of-form (λ a b x imm v m e. rw (c.writes.ensures, c.after_larger.ensures, c.sub.ensures, e)))

pub returns-in-Mul : goal.returns-in-Mul
unfolding effect
returns-in-Mul c = rw c.in-Mul.is (of-form (λ a b x imm v m e. c.checks-in-Mul.ensures a v.pc ∙ rw (c.after_mul.ensures, c.mul.ensures, e)))

pub returns-in-Mulh : goal.returns-in-Mulh
unfolding effect result result_bits
returns-in-Mulh c = rw c.in-Mulh.is (of-form (λ a b x imm v m e. rw (c.writes-in-Mulh.ensures, c.after_mul-in-Mulh.ensures, c.mulh.ensures, e)))

pub returns-in-Div : goal.returns-in-Div
unfolding effect dividing divided
returns-in-Div c = rw c.in-Div.is (of-form (λ a b x imm v m e. c.divides.ensures a v.pc ∙ rw (c.div.ensures, e)))

pub returns-in-Divu : goal.returns-in-Divu
unfolding effect dividing divided
returns-in-Divu c = rw c.in-Divu.is (of-form (λ a b x imm v m e. c.divides-in-Divu.ensures a v.pc ∙ rw (c.divu.ensures, e)))

pub returns-in-Rem : goal.returns-in-Rem
unfolding effect dividing divided
returns-in-Rem c = rw c.in-Rem.is (of-form (λ a b x imm v m e. c.divides-in-Rem.ensures a v.pc ∙ rw (c.rem.ensures, e)))

pub returns-in-Remu : goal.returns-in-Remu
unfolding effect dividing divided
returns-in-Remu c = rw c.in-Remu.is (of-form (λ a b x imm v m e. c.divides-in-Remu.ensures a v.pc ∙ rw (c.remu.ensures, e)))

pub returns-in-And : goal.returns-in-And
unfolding effect result result_bits
returns-in-And c = rw c.in-And.is (of-form (λ a b x imm v m e. rw (c.writes-in-And.ensures, c.after_and.ensures, c.and.ensures, e)))

pub returns-in-Or : goal.returns-in-Or
unfolding effect result result_bits
returns-in-Or c = rw c.in-Or.is (of-form (λ a b x imm v m e. rw (c.writes-in-Or.ensures, c.after_larger-in-Or.ensures, c.or.ensures, e)))

pub returns-in-Xor : goal.returns-in-Xor
unfolding effect result result_bits
returns-in-Xor c = rw c.in-Xor.is (of-form (λ a b x imm v m e. rw (c.writes-in-Xor.ensures, c.after_larger-in-Xor.ensures, c.xor.ensures, e)))

pub returns-in-Sll : goal.returns-in-Sll
unfolding effect result result_bits
returns-in-Sll c = rw c.in-Sll.is (of-form (λ a b x imm v m e. rw (c.writes-in-Sll.ensures, c.after_shl.ensures, c.shl.ensures, e)))

pub returns-in-Srl : goal.returns-in-Srl
unfolding effect result result_bits
returns-in-Srl c = rw c.in-Srl.is (of-form (λ a b x imm v m e. rw (c.writes-in-Srl.ensures, c.after_srl.ensures, c.shr.ensures, e)))

pub returns-in-Sra : goal.returns-in-Sra
unfolding effect result result_bits
returns-in-Sra c = rw c.in-Sra.is (of-form (λ a b x imm v m e. rw (c.writes-in-Sra.ensures, c.after_sra.ensures, c.sra.ensures, e)))

pub returns-in-Slt : goal.returns-in-Slt
unfolding effect result result_bits
returns-in-Slt c = rw c.in-Slt.is (of-form (λ a b x imm v m e. rw (c.sets.ensures, c.slt.ensures, e)))

pub returns-in-Sltu : goal.returns-in-Sltu
unfolding effect result result_bits
returns-in-Sltu c = rw c.in-Sltu.is (of-form (λ a b x imm v m e. rw (c.sets-in-Sltu.ensures, c.ult.ensures, e)))

pub returns-in-Sge : goal.returns-in-Sge
unfolding effect result result_bits
returns-in-Sge c = rw c.in-Sge.is (of-form (λ a b x imm v m e. rw (c.sets-in-Sge.ensures, c.slt-in-Sge.ensures, e)))

pub returns-in-Sgeu : goal.returns-in-Sgeu
unfolding effect result result_bits
returns-in-Sgeu c = rw c.in-Sgeu.is (of-form (λ a b x imm v m e. rw (c.sets-in-Sgeu.ensures, c.ult-in-Sgeu.ensures, e)))

pub returns-in-Seq : goal.returns-in-Seq
unfolding effect result result_bits
returns-in-Seq c = rw c.in-Seq.is (of-form (λ a b x imm v m e. rw (c.sets-in-Seq.ensures, e)))

pub returns-in-Sne : goal.returns-in-Sne
unfolding effect result result_bits
returns-in-Sne c = rw c.in-Sne.is (of-form (λ a b x imm v m e. rw (c.sets-in-Sne.ensures, e)))

pub returns-in-Cmov : goal.returns-in-Cmov
unfolding effect moving moves
returns-in-Cmov c = rw c.in-Cmov.is (of-form (λ a b x imm v m e. c.moves.ensures a v.pc ∙ rw e))

pub returns-in-Cmovz : goal.returns-in-Cmovz
unfolding effect moving moves
returns-in-Cmovz c = rw c.in-Cmovz.is (of-form (λ a b x imm v m e. c.moves-in-Cmovz.ensures a v.pc ∙ rw e))

pub returns-in-Cmovnz : goal.returns-in-Cmovnz
unfolding effect moving moves
returns-in-Cmovnz c = rw c.in-Cmovnz.is (of-form (λ a b x imm v m e. c.moves-in-Cmovnz.ensures a v.pc ∙ rw e))
