use mathlib.Core.Path.{◌∙◌}
use Rattle.effect.proofs.Arms.{of-form}
use Rattle.effect.specs.Effects.{effect, loading}
use Rattle.effect.specs.Notes.{result_bits}
use Rattle.effect.specs.Operations.{result, register_form, load_size, loaded}
use Rattle.effect.proofs.immediate.decide.Goals as goal

pub returns-in-Addi : goal.returns-in-Addi
unfolding effect
returns-in-Addi c = rw c.in-Addi.is (of-form (λ a b x imm v e. rw (c.writes.ensures, c.after_add.ensures, c.from_constant.ensures, c.add.ensures, e)))

pub returns-in-Andi : goal.returns-in-Andi
unfolding effect result result_bits register_form
returns-in-Andi c = rw c.in-Andi.is (of-form (λ a b x imm v e. rw (c.writes-in-Andi.ensures, c.after_and.ensures, c.from_constant-in-Andi.ensures, c.and.ensures, e)))

pub returns-in-Ori : goal.returns-in-Ori
unfolding effect result result_bits register_form
returns-in-Ori c = rw c.in-Ori.is (of-form (λ a b x imm v e. rw (c.writes-in-Ori.ensures, c.after_larger.ensures, c.from_constant-in-Ori.ensures, c.or.ensures, e)))

pub returns-in-Xori : goal.returns-in-Xori
unfolding effect result result_bits register_form
returns-in-Xori c = rw c.in-Xori.is (of-form (λ a b x imm v e. rw (c.writes-in-Xori.ensures, c.after_larger-in-Xori.ensures, c.from_constant-in-Xori.ensures, c.xor.ensures, e)))

pub returns-in-Lb : goal.returns-in-Lb
unfolding effect loading load_size loaded
returns-in-Lb c = rw c.in-Lb.is (of-form (λ a b x imm v e. c.loaded_8.ensures a ∙ rw (c.load.ensures, c.address.ensures, e)))

pub returns-in-Lbu : goal.returns-in-Lbu
unfolding effect loading load_size loaded
returns-in-Lbu c = rw c.in-Lbu.is (of-form (λ a b x imm v e. c.loaded.ensures a ∙ rw (c.load-in-Lbu.ensures, c.address-in-Lbu.ensures, e)))

pub returns-in-Lh : goal.returns-in-Lh
unfolding effect loading load_size loaded
returns-in-Lh c = rw c.in-Lh.is (of-form (λ a b x imm v e. c.loaded_16.ensures a ∙ rw (c.load-in-Lh.ensures, c.address-in-Lh.ensures, e)))

pub returns-in-Lhu : goal.returns-in-Lhu
unfolding effect loading load_size loaded
returns-in-Lhu c = rw c.in-Lhu.is (of-form (λ a b x imm v e. c.loaded-in-Lhu.ensures a ∙ rw (c.load-in-Lhu.ensures, c.address-in-Lhu.ensures, e)))

pub returns-in-Lw : goal.returns-in-Lw
unfolding effect loading load_size loaded
returns-in-Lw c = rw c.in-Lw.is (of-form (λ a b x imm v e. c.loaded-in-Lw.ensures a ∙ rw (c.load-in-Lw.ensures, c.address-in-Lw.ensures, e)))

pub returns-in-Ld : goal.returns-in-Ld
unfolding effect loading load_size loaded
returns-in-Ld c = rw c.in-Ld.is (of-form (λ a b x imm v e. c.loaded-in-Ld.ensures a ∙ rw (c.load-in-Ld.ensures, c.address-in-Ld.ensures, e)))

pub returns-in-Jalr : goal.returns-in-Jalr
unfolding effect
returns-in-Jalr c = rw c.in-Jalr.is (of-form (λ a b x imm v e. rw (c.links.ensures, c.address-in-Jalr.ensures, e)))
