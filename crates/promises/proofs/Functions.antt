-- Each public function, in the order of crates.txt: two outcomes that its own contract allows are one. The name of a law is the function's,
-- crate·module·function, and `tools/promises` holds this list to the source.
use mathlib.Core.Path.{refl, ap}
use Rattle.encoding.proofs as encoding
use Rattle.encoding.specs.contracts as encoding_says
use Rattle.value.proofs as value
use Rattle.value.specs.contracts as value_says
use Rattle.bound.proofs as bound
use Rattle.bound.specs.contracts as bound_says
use Rattle.refusal.proofs as refusal
use Rattle.refusal.specs.contracts as refusal_says
use Rattle.memory.proofs as memory
use Rattle.memory.specs.contracts as memory_says
use Rattle.pending.proofs as pending
use Rattle.pending.specs.contracts as pending_says
use Rattle.opcode.proofs as opcode
use Rattle.opcode.specs.contracts as opcode_says
use Rattle.forms.proofs as forms
use Rattle.forms.specs.contracts as forms_says
use Rattle.instruction.proofs as instruction
use Rattle.instruction.specs.contracts as instruction_says
use Rattle.words.proofs as words
use Rattle.words.specs.contracts as words_says
use Rattle.state.proofs as state
use Rattle.state.specs.contracts as state_says
use Rattle.normalize.proofs as normalize
use Rattle.normalize.specs.contracts as normalize_says
use Rattle.layout.proofs as layout
use Rattle.layout.specs.contracts as layout_says
use Rattle.effect.proofs as effect
use Rattle.effect.specs.contracts as effect_says
use Rattle.deferred.proofs as deferred
use Rattle.deferred.specs.contracts as deferred_says
use Rattle.execute.proofs as execute
use Rattle.execute.specs.contracts as execute_says
use Rattle.given.proofs as given
use Rattle.given.specs.contracts as given_says
use Rattle.step.proofs as step
use Rattle.step.specs.contracts as step_says
use Rattle.run.proofs as run
use Rattle.run.specs.contracts as run_says
use Rattle.host.proofs as host
use Rattle.host.specs.contracts as host_says
use Rattle.singles.proofs as singles
use Rattle.singles.specs.contracts as singles_says
use Rattle.exports.proofs as exports
use Rattle.exports.specs.contracts as exports_says
use Rattle.machines.proofs as machines
use Rattle.machines.specs.contracts as machines_says
use Rattle.told.proofs as told
use Rattle.told.specs.contracts as told_says
use Rattle.names.proofs as names
use Rattle.names.specs.contracts as names_says
use Rattle.labels.proofs as labels
use Rattle.labels.specs.contracts as labels_says
use Rattle.sums.proofs as sums
use Rattle.sums.specs.contracts as sums_says
use Rattle.lines.proofs as lines
use Rattle.lines.specs.contracts as lines_says
use Rattle.printing.proofs as printing
use Rattle.printing.specs.contracts as printing_says
use Rattle.programs.proofs as programs
use Rattle.programs.specs.contracts as programs_says
use Rattle.text.proofs as text
use Rattle.text.specs.contracts as text_says
use Rattle.checkpoint.proofs as checkpoint
use Rattle.checkpoint.specs.contracts as checkpoint_says
use Rattle.checkpoint.proofs.Laws.{reads-one}
use Rattle.checkpoint.specs.Calls.{Wrote}
use Rattle.std.specs.Prelude.{Result}
use Rattle.refusal.specs.declared.Refusal.{Refusal}
use Rattle.state.specs.declared.registers.Registers.{Registers}
use Rattle.deferred.specs.Limbs.{Limbed}
use Rattle.execute.specs.World.{Stepped}
use Rattle.pending.specs.Pending.{Lists}
use Rattle.step.specs.Step.{Left}
use Rattle.run.specs.Run.{Answer}
use Rattle.step.specs.Leg.{Leg}
use Rattle.host.specs.Call.{Called}
use Rattle.exports.specs.Limbs.{LimbCall}
use Rattle.machines.specs.Machine.{GivenCall, MachineCall}
use Rattle.promises.specs.Determined.{Determined}
use Rattle.effect.specs.declared.registers.Deed.{Deed}
use Rattle.effect.specs.declared.immediate.Turn.{Turn}
use Rattle.promises.proofs.Laws.{one, two, three, ◌&◌}
use Rattle.promises.proofs.Asked.{asked}
use Rattle.promises.proofs.Tables.{one-deed, one-turn, one_shift}
use Rattle.promises.proofs.Texts.{one-read, one-said, one_left}
use Rattle.promises.proofs.Regrouped.{advance_of, executed_of, one_step_of, ran_of, gone_of}

-- ---- encoding
pub encoding·fields·extract-opcode : Determined encoding_says.fields.extract_opcode.ended encoding.fields.extract_opcode.Reads.Learnt
encoding·fields·extract-opcode κs a x y = one (λ r. r & x.1)

pub encoding·fields·extract-rd : Determined encoding_says.fields.extract_rd.ended encoding.fields.extract_rd.Reads.Learnt
encoding·fields·extract-rd κs a x y = one (λ r. r & x.1)

pub encoding·fields·extract-rs1 : Determined encoding_says.fields.extract_rs1.ended encoding.fields.extract_rs1.Reads.Learnt
encoding·fields·extract-rs1 κs a x y = one (λ r. r & x.1)

pub encoding·fields·extract-rs2 : Determined encoding_says.fields.extract_rs2.ended encoding.fields.extract_rs2.Reads.Learnt
encoding·fields·extract-rs2 κs a x y = one (λ r. r & x.1)

pub encoding·fields·extract-imm : Determined encoding_says.fields.extract_imm.ended encoding.fields.extract_imm.Reads.Learnt
encoding·fields·extract-imm κs a x y = one (λ r. r & x.1)

pub encoding·fields·extract-funct : Determined encoding_says.fields.extract_funct.ended encoding.fields.extract_funct.Reads.Learnt
encoding·fields·extract-funct κs a x y = one (λ r. r & x.1)

pub encoding·fields·extract-offset : Determined encoding_says.fields.extract_offset.ended encoding.fields.extract_offset.Reads.Learnt
encoding·fields·extract-offset κs a x y = one (λ r. r & x.1)

pub encoding·fields·extract-imm-signed : Determined encoding_says.fields.extract_imm_signed.ended encoding.fields.extract_imm_signed.Reads.Learnt
encoding·fields·extract-imm-signed κs a x y = one (λ r. r & x.1)

pub encoding·fields·extract-offset-signed : Determined encoding_says.fields.extract_offset_signed.ended encoding.fields.extract_offset_signed.Reads.Learnt
encoding·fields·extract-offset-signed κs a x y = one (λ r. r & x.1)

pub encoding·fields·extract-stype-rs1 : Determined encoding_says.fields.extract_stype_rs1.ended encoding.fields.extract_stype_rs1.Reads.Learnt
encoding·fields·extract-stype-rs1 κs a x y = one (λ r. r & x.1)

pub encoding·fields·extract-stype-rs2 : Determined encoding_says.fields.extract_stype_rs2.ended encoding.fields.extract_stype_rs2.Reads.Learnt
encoding·fields·extract-stype-rs2 κs a x y = one (λ r. r & x.1)

pub encoding·fields·extract-stype-imm : Determined encoding_says.fields.extract_stype_imm.ended encoding.fields.extract_stype_imm.Reads.Learnt
encoding·fields·extract-stype-imm κs a x y = one (λ r. r & x.1)

pub encoding·kinds·is-stype : Determined encoding_says.kinds.is_stype.ended encoding.kinds.is_stype.Reads.Learnt
encoding·kinds·is-stype κs a x y = one (λ r. r & x.1)

pub encoding·kinds·is-btype : Determined encoding_says.kinds.is_btype.ended encoding.kinds.is_btype.Reads.Learnt
encoding·kinds·is-btype κs a x y = one (λ r. r & x.1)

pub encoding·kinds·is-jtype : Determined encoding_says.kinds.is_jtype.ended encoding.kinds.is_jtype.Reads.Learnt
encoding·kinds·is-jtype κs a x y = one (λ r. r & x.1)

pub encoding·kinds·is-itype : Determined encoding_says.kinds.is_itype.ended encoding.kinds.is_itype.Reads.Learnt
encoding·kinds·is-itype κs a x y = one (λ r. r & x.1)

pub encoding·kinds·is-rtype : Determined encoding_says.kinds.is_rtype.ended encoding.kinds.is_rtype.Reads.Learnt
encoding·kinds·is-rtype κs a x y = one (λ r. r & x.1)

pub encoding·raw·encode-rtype : Determined encoding_says.raw.encode_rtype.ended encoding.raw.encode_rtype.Reads.Learnt
encoding·raw·encode-rtype κs a x y = one (λ r. r & x.1)

pub encoding·raw·encode-itype : Determined encoding_says.raw.encode_itype.ended encoding.raw.encode_itype.Reads.Learnt
encoding·raw·encode-itype κs a x y = one (λ r. r & x.1)

pub encoding·raw·encode-stype : Determined encoding_says.raw.encode_stype.ended encoding.raw.encode_stype.Reads.Learnt
encoding·raw·encode-stype κs a x y = one (λ r. r & x.1)

pub encoding·raw·encode-btype : Determined encoding_says.raw.encode_btype.ended encoding.raw.encode_btype.Reads.Learnt
encoding·raw·encode-btype κs a x y = one (λ r. r & x.1)

pub encoding·raw·encode-jtype : Determined encoding_says.raw.encode_jtype.ended encoding.raw.encode_jtype.Reads.Learnt
encoding·raw·encode-jtype κs a x y = one (λ r. r & x.1)

-- ---- value
pub value·address·plus : Determined value_says.address.plus.ended value.address.plus.Reads.Learnt
value·address·plus κs a x y = one (λ r. r & x.1)

pub value·division·div : Determined value_says.division.div.ended value.division.div.Reads.Learnt
value·division·div κs a x y = one (λ r. r & x.1)

pub value·division·rem : Determined value_says.division.rem.ended value.division.rem.Reads.Learnt
value·division·rem κs a x y = one (λ r. r & x.1)

pub value·division·divu : Determined value_says.division.divu.ended value.division.divu.Reads.Learnt
value·division·divu κs a x y = one (λ r. r & x.1)

pub value·division·remu : Determined value_says.division.remu.ended value.division.remu.Reads.Learnt
value·division·remu κs a x y = one (λ r. r & x.1)

pub value·extension·extend-8 : Determined value_says.extension.extend_8.ended value.extension.extend_8.Reads.Learnt
value·extension·extend-8 κs a x y = one (λ r. r & x.1)

pub value·extension·extend-16 : Determined value_says.extension.extend_16.ended value.extension.extend_16.Reads.Learnt
value·extension·extend-16 κs a x y = one (λ r. r & x.1)

pub value·extension·extend-17 : Determined value_says.extension.extend_17.ended value.extension.extend_17.Reads.Learnt
value·extension·extend-17 κs a x y = one (λ r. r & x.1)

pub value·extension·extend-21 : Determined value_says.extension.extend_21.ended value.extension.extend_21.Reads.Learnt
value·extension·extend-21 κs a x y = one (λ r. r & x.1)

pub value·forty·add : Determined value_says.forty.add.ended value.forty.add.Reads.Learnt
value·forty·add κs a x y = one (λ r. r & x.1)

pub value·forty·sub : Determined value_says.forty.sub.ended value.forty.sub.Reads.Learnt
value·forty·sub κs a x y = one (λ r. r & x.1)

pub value·forty·mul : Determined value_says.forty.mul.ended value.forty.mul.Reads.Learnt
value·forty·mul κs a x y = one (λ r. r & x.1)

pub value·forty·and : Determined value_says.forty.and.ended value.forty.and.Reads.Learnt
value·forty·and κs a x y = one (λ r. r & x.1)

pub value·forty·or : Determined value_says.forty.or.ended value.forty.or.Reads.Learnt
value·forty·or κs a x y = one (λ r. r & x.1)

pub value·forty·xor : Determined value_says.forty.xor.ended value.forty.xor.Reads.Learnt
value·forty·xor κs a x y = one (λ r. r & x.1)

pub value·forty·shl : Determined value_says.forty.shl.ended value.forty.shl.Reads.Learnt
value·forty·shl κs a x y = one (λ r. r & x.1)

pub value·forty·shr : Determined value_says.forty.shr.ended value.forty.shr.Reads.Learnt
value·forty·shr κs a x y = one (λ r. r & x.1)

pub value·forty·sra : Determined value_says.forty.sra.ended value.forty.sra.Reads.Learnt
value·forty·sra κs a x y = one (λ r. r & x.1)

pub value·forty·slt : Determined value_says.forty.slt.ended value.forty.slt.Reads.Learnt
value·forty·slt κs a x y = one (λ r. r & x.1)

pub value·forty·ult : Determined value_says.forty.ult.ended value.forty.ult.Reads.Learnt
value·forty·ult κs a x y = one (λ r. r & x.1)

pub value·product·mulh : Determined value_says.product.mulh.ended value.product.mulh.Reads.Learnt
value·product·mulh κs a x y = one (λ r. r & x.1)

-- ---- bound
pub bound·from-constant : Determined bound_says.from_constant.ended bound.from_constant.Reads.Learnt
bound·from-constant κs a x y = one (λ r. r & x.1)

pub bound·after-add : Determined bound_says.after_add.ended bound.after_add.Reads.Learnt
bound·after-add κs a x y = one (λ r. r & x.1)

pub bound·after-larger : Determined bound_says.after_larger.ended bound.after_larger.Reads.Learnt
bound·after-larger κs a x y = one (λ r. r & x.1)

pub bound·after-mul : Determined bound_says.after_mul.ended bound.after_mul.Reads.Learnt
bound·after-mul κs a x y = one (λ r. r & x.1)

pub bound·after-div : Determined bound_says.after_div.ended bound.after_div.Reads.Learnt
bound·after-div κs a x y = one (λ r. r & x.1)

pub bound·after-and : Determined bound_says.after_and.ended bound.after_and.Reads.Learnt
bound·after-and κs a x y = one (λ r. r & x.1)

pub bound·after-shl : Determined bound_says.after_shl.ended bound.after_shl.Reads.Learnt
bound·after-shl κs a x y = one (λ r. r & x.1)

pub bound·after-srl : Determined bound_says.after_srl.ended bound.after_srl.Reads.Learnt
bound·after-srl κs a x y = one (λ r. r & x.1)

pub bound·after-sra : Determined bound_says.after_sra.ended bound.after_sra.Reads.Learnt
bound·after-sra κs a x y = one (λ r. r & x.1)

pub bound·after-cmp : Determined bound_says.after_cmp.ended bound.after_cmp.Reads.Learnt
bound·after-cmp κs a x y = one (λ r. r & x.1)

pub bound·after-load : Determined bound_says.after_load.ended bound.after_load.Reads.Learnt
bound·after-load κs a x y = one (λ r. r & x.1)

pub bound·needs-check : Determined bound_says.needs_check.ended bound.needs_check.Reads.Learnt
bound·needs-check κs a x y = one (λ r. r & x.1)

-- ---- refusal
pub refusal·number-of : Determined refusal_says.number_of.ended refusal.number_of.Reads.Learnt
refusal·number-of κs a x y = one (λ r. r & x.1)

pub refusal·particular-of : Determined refusal_says.particular_of.ended refusal.particular_of.Reads.Learnt
refusal·particular-of κs a x y = one (λ r. r & x.1)

pub refusal·code-of : Determined refusal_says.code_of.ended refusal.code_of.Reads.Learnt
refusal·code-of κs a x y = one (λ r. r & x.1)

pub refusal·particular-at : Determined refusal_says.particular_at.ended refusal.particular_at.Reads.Learnt
refusal·particular-at κs a x y = one (λ r. r & x.1)

-- ---- memory
pub memory·bytes·bit : Determined memory_says.bytes.bit.ended memory.bytes.bit.Reads.Learnt
memory·bytes·bit κs a x y = one (λ r. r & x.1)

pub memory·bytes·number-at : Determined memory_says.bytes.number_at.ended memory.bytes.number_at.Reads.Learnt
memory·bytes·number-at κs a x y = one (λ r. r & x.1)

pub memory·bytes·put-number : Determined memory_says.bytes.put_number.ended memory.bytes.put_number.Reads.Learnt
memory·bytes·put-number κs a x y = one (λ m. tt & m & x.1.1)

pub memory·load : Determined memory_says.load.ended memory.load.Reads.Learnt
memory·load κs a x y = one (λ r. r & x.1)

pub memory·store : Determined memory_says.store.ended memory.store.Reads.Learnt
memory·store κs a x y = two (λ r m. r & m & x.1.1)

pub memory·fetch : Determined memory_says.fetch.ended memory.fetch.Reads.Learnt
memory·fetch κs a x y = one (λ r. r & x.1)

-- ---- pending
pub pending·lists-fit : Determined pending_says.lists_fit.ended pending.lists_fit.Reads.Learnt
pending·lists-fit κs a x y = one (λ r. r & x.1)

pub pending·room-at : Determined pending_says.room_at.ended pending.room_at.Reads.Learnt
pending·room-at κs a x y = one (λ r. r & x.1)

pub pending·lacks : Determined pending_says.lacks.ended pending.lacks.Reads.Learnt
pending·lacks κs a x y = one (λ r. r & x.1)

pub pending·list : Determined pending_says.list.ended pending.list.Reads.Learnt
pending·list κs a x y = one (λ (l : Lists). l.count & l.values & l.bounds & l.pcs & x.1.1.1.1)

pub pending·append : Determined pending_says.append.ended pending.append.Reads.Learnt
pending·append κs a x y = two (λ r (l : Lists). r & l.values & l.bounds & l.pcs & x.1.1.1.1)

pub pending·empty : Determined pending_says.empty.ended pending.empty.Reads.Learnt
pending·empty κs a x y = two (λ r (l : Lists). r & l.values & l.bounds & l.pcs & x.1.1.1.1)

pub pending·read : Determined pending_says.read.ended pending.read.Reads.Learnt
pending·read κs a x y = one (λ r. r & x.1)

-- ---- opcode
pub opcode·opcode-number : Determined opcode_says.opcode_number.ended opcode.opcode_number.Reads.Learnt
opcode·opcode-number κs a x y = one (λ r. r & x.1)

pub opcode·same : Determined opcode_says.same.ended opcode.same.Reads.Learnt
opcode·same κs a x y = one (λ r. r & x.1)

pub opcode·opcode-of : Determined opcode_says.opcode_of.ended opcode.opcode_of.Reads.Learnt
opcode·opcode-of κs a x y = one (λ r. r & x.1)

-- ---- forms
pub forms·unused : Determined forms_says.unused.ended forms.unused.Reads.Learnt
forms·unused κs a x y = one (λ r. r & x.1)

pub forms·immediate : Determined forms_says.immediate.ended forms.immediate.Reads.Learnt
forms·immediate κs a x y = one (λ r. r & x.1)

pub forms·imm-fits : Determined forms_says.imm_fits.ended forms.imm_fits.Reads.Learnt
forms·imm-fits κs a x y = one (λ r. r & x.1)

pub forms·form-of : Determined forms_says.form_of.ended forms.form_of.Reads.Learnt
forms·form-of κs a x y = one (λ r. r & x.1)

-- ---- instruction
pub instruction·operands·instruction-of : Determined instruction_says.operands.instruction_of.ended instruction.operands.instruction_of.Reads.Learnt
instruction·operands·instruction-of κs a x y = one (λ r. r & x.1)

pub instruction·operands·parts-of : Determined instruction_says.operands.parts_of.ended instruction.operands.parts_of.Reads.Learnt
instruction·operands·parts-of κs a x y = one (λ r. r & x.1)

-- ---- words
pub words·decoder·decode : Determined words_says.decoder.decode.ended words.decoder.decode.Reads.Learnt
words·decoder·decode κs a x y = one (λ r. r & x.1)

pub words·encoder·encode : Determined words_says.encoder.encode.ended words.encoder.encode.Reads.Learnt
words·encoder·encode κs a x y = one (λ r. r & x.1)

pub words·encoder·encode-parts : Determined words_says.encoder.encode_parts.ended words.encoder.encode_parts.Reads.Learnt
words·encoder·encode-parts κs a x y = one (λ r. r & x.1)

-- ---- state
pub state·registers·Registers·well-formed : Determined state_says.registers.Registers.well_formed.ended state.registers.Registers.well_formed.Reads.Learnt
state·registers·Registers·well-formed κs a x y = one (λ r. r & x.1)

pub state·registers·Registers·all-whole : Determined state_says.registers.Registers.all_whole.ended state.registers.Registers.all_whole.Reads.Learnt
state·registers·Registers·all-whole κs a x y = one (λ r. r & x.1)

pub state·together : Determined state_says.together.ended state.together.Reads.Learnt
state·together κs a x y = one (λ r. r & x.1)

pub state·fresh : Determined state_says.fresh.ended state.fresh.Reads.Learnt
state·fresh κs a x y = one (λ r. r & x.1)

pub state·registers·Registers·value-at : Determined state_says.registers.Registers.value_at.ended state.registers.Registers.value_at.Reads.Learnt
state·registers·Registers·value-at κs a x y = one (λ r. r & x.1)

pub state·registers·Registers·low-at : Determined state_says.registers.Registers.low_at.ended state.registers.Registers.low_at.Reads.Learnt
state·registers·Registers·low-at κs a x y = λ p q. one (λ r. r & x.1) p.0 q.0

pub state·registers·Registers·high-at : Determined state_says.registers.Registers.high_at.ended state.registers.Registers.high_at.Reads.Learnt
state·registers·Registers·high-at κs a x y = λ p q. one (λ r. r & x.1) p.0 q.0

pub state·registers·Registers·bound-at : Determined state_says.registers.Registers.bound_at.ended state.registers.Registers.bound_at.Reads.Learnt
state·registers·Registers·bound-at κs a x y = one (λ r. r & x.1)

pub state·registers·Registers·waits-at : Determined state_says.registers.Registers.waits_at.ended state.registers.Registers.waits_at.Reads.Learnt
state·registers·Registers·waits-at κs a x y = one (λ r. r & x.1)

pub state·registers·Registers·write : Determined state_says.registers.Registers.write.ended state.registers.Registers.write.Reads.Learnt
state·registers·Registers·write κs a x y = one (λ (R : Registers). tt & R & x.1.1)

pub state·registers·Registers·normalise : Determined state_says.registers.Registers.normalise.ended state.registers.Registers.normalise.Reads.Learnt
state·registers·Registers·normalise κs a x y = one (λ (R : Registers). tt & R & x.1.1)

pub state·registers·Registers·normalise-all : Determined state_says.registers.Registers.normalise_all.ended state.registers.Registers.normalise_all.Reads.Learnt
state·registers·Registers·normalise-all κs a x y = one (λ (R : Registers). tt & R & x.1.1)

-- ---- normalize
pub normalize·has-carries : Determined normalize_says.has_carries.ended normalize.has_carries.Reads.Learnt
normalize·has-carries κs a x y = one (λ r. r & x.1)

pub normalize·total-carry : Determined normalize_says.total_carry.ended normalize.total_carry.Reads.Learnt
normalize·total-carry κs a x y = one (λ r. r & x.1)

pub normalize·would-overflow : Determined normalize_says.would_overflow.ended normalize.would_overflow.Reads.Learnt
normalize·would-overflow κs a x y = one (λ r. r & x.1)

pub normalize·normalize-register : Determined normalize_says.normalize_register.ended normalize.normalize_register.Reads.Learnt
normalize·normalize-register κs a x y = one (λ r. r & x.1)

pub normalize·normalize-and-write : Determined normalize_says.normalize_and_write.ended normalize.normalize_and_write.Reads.Learnt
normalize·normalize-and-write κs a x y = one (λ r. r & x.1)

pub normalize·normalize-if-near-overflow : Determined normalize_says.normalize_if_near_overflow.ended normalize.normalize_if_near_overflow.Reads.Learnt
normalize·normalize-if-near-overflow κs a x y = one (λ r. r & x.1)

-- ---- layout
pub layout·answer·write-answer : Determined layout_says.answer.write_answer.ended layout.answer.write_answer.Reads.Learnt
layout·answer·write-answer κs a x y = one (λ m. tt & m & x.1.1)

pub layout·writing·write-state : Determined layout_says.writing.write_state.ended layout.writing.write_state.Reads.Learnt
layout·writing·write-state κs a x y = one (λ m. tt & m & x.1.1)

pub layout·reading·read : Determined layout_says.reading.read.ended layout.reading.read.Reads.Learnt
layout·reading·read κs a x y = one (λ r. r & x.1)

pub layout·reading·read-state : Determined layout_says.reading.read_state.ended layout.reading.read_state.Reads.Learnt
layout·reading·read-state κs a x y = one (λ r. r & x.1)

pub layout·laid·well-laid : Determined layout_says.laid.well_laid.ended layout.laid.well_laid.Reads.Learnt
layout·laid·well-laid κs a x y = one (λ r. r & x.1)

pub layout·laid·is-admissible : Determined layout_says.laid.is_admissible.ended layout.laid.is_admissible.Reads.Learnt
layout·laid·is-admissible κs a x y = one (λ r. r & x.1)

-- ---- effect
pub effect·branch·taken : Determined effect_says.branch.taken.ended effect.branch.taken.Reads.Learnt
effect·branch·taken κs a x y = one (λ r. r & x.1)

pub effect·immediate·decide : Determined effect_says.immediate.decide.ended effect.immediate.decide.Reads.Learnt
effect·immediate·decide κs a x y = λ p q. ap (λ (r : Result Turn Refusal). r & x.1) (one-turn a.0 a.1.0 a.1.1.0.now _ _ p q)

pub effect·immediate·shift : Determined effect_says.immediate.shift.ended effect.immediate.shift.Reads.Learnt
effect·immediate·shift κs a x y = λ p q. ap (λ (r : Turn). r & x.1) (one_shift a.0 a.1.0 _ _ p q)

pub effect·registers·decide : Determined effect_says.registers.decide.ended effect.registers.decide.Reads.Learnt
effect·registers·decide κs a x y = λ p q. ap (λ (r : Result Deed Refusal). r & x.1) (one-deed a.0 a.1.0 _ _ p q)

pub effect·store·store-size : Determined effect_says.store.store_size.ended effect.store.store_size.Reads.Learnt
effect·store·store-size κs a x y = one (λ r. r & x.1)

-- ---- deferred
pub deferred·limbs-of-registers : Determined deferred_says.limbs_of_registers.ended deferred.limbs_of_registers.Reads.Learnt
deferred·limbs-of-registers κs a x y = one (λ (l : Limbed). l.waits & tt & l.registers & tt)

pub deferred·limbs-of-immediate : Determined deferred_says.limbs_of_immediate.ended deferred.limbs_of_immediate.Reads.Learnt
deferred·limbs-of-immediate κs a x y = one (λ (l : Limbed). l.waits & tt & l.registers & tt)

-- ---- execute
pub execute·refuse : Determined execute_says.refuse.ended execute.refuse.Reads.Learnt
execute·refuse κs a x y = one (λ r. r & x.1)

pub execute·admits : Determined execute_says.admits.ended execute.admits.Reads.Learnt
execute·admits κs a x y = one (λ r. r & x.1)

pub execute·word·obey : Determined execute_says.word.obey.ended execute.word.obey.Reads.Learnt
execute·word·obey κs a x y =
    asked (λ (s : Stepped). s.checks) x.0.checks y.0.checks
    (λ (s : Stepped) k. advance_of s k & tt & tt & s.world.registers & s.world.memory & tt)
    refl refl

-- ---- given
pub given·execute : Determined given_says.execute.ended given.execute.Reads.Learnt
given·execute κs a x y = asked (λ (s : Stepped). s.checks) x.0.checks y.0.checks (λ (s : Stepped) k. executed_of s k & tt & tt & tt & s.world.memory & tt) refl refl

-- ---- step
pub step·takes : Determined step_says.takes.ended step.takes.Reads.Learnt
step·takes κs a x y = one (λ r. r & x.1)

pub step·step : Determined step_says.step.ended step.step.Reads.Learnt
step·step κs a x y = one (λ (l : Left). one_step_of l & tt & tt & l.world.memory & l.lists.values & l.lists.bounds & l.lists.pcs & tt & tt)

pub step·leg·goes-on : Determined step_says.leg.goes_on.ended step.leg.goes_on.Reads.Learnt
step·leg·goes-on κs a x y = one (λ r. r & x.1)

pub step·leg·advance : Determined step_says.leg.advance.ended step.leg.advance.Reads.Learnt
step·leg·advance κs a x y = asked (λ (l : Leg). l.checks) x.0.checks y.0.checks (λ (l : Leg) k. gone_of l k & tt & tt & tt & tt & l.world.memory & tt) refl refl

-- ---- run
pub run·run-plain : Determined run_says.run_plain.ended run.run_plain.Reads.Learnt
run·run-plain κs a x y = one (λ (r : Answer). ran_of r & tt & tt & r.world.memory & r.lists.values & r.lists.bounds & r.lists.pcs & tt & tt)

pub run·run-deferred : Determined run_says.run_deferred.ended run.run_deferred.Reads.Learnt
run·run-deferred κs a x y = one (λ (r : Answer). ran_of r & tt & tt & r.world.memory & r.lists.values & r.lists.bounds & r.lists.pcs & tt & tt)

pub run·legs·stop-of : Determined run_says.legs.stop_of.ended run.legs.stop_of.Reads.Learnt
run·legs·stop-of κs a x y = one (λ r. r & x.1)

pub run·legs·begin : Determined run_says.legs.begin.ended run.legs.begin.Reads.Learnt
run·legs·begin κs a x y = one (λ r. r & x.1)

pub run·legs·next : Determined run_says.legs.next.ended run.legs.next.Reads.Learnt
run·legs·next κs a x y = one (λ r. r & x.1)

-- ---- host
pub host·mode-of : Determined host_says.mode_of.ended host.mode_of.Reads.Learnt
host·mode-of κs a x y = one (λ r. r & x.1)

pub host·zkir-run : Determined host_says.zkir_run.ended host.zkir_run.Reads.Learnt
host·zkir-run κs a x y = one (λ (c : Called). c.code & c.state & c.memory & c.answer & x.1.1.1.1)

-- ---- singles
pub singles·bounds·oracle-bound-from-constant : Determined singles_says.bounds.oracle_bound_from_constant.ended singles.bounds.oracle_bound_from_constant.Reads.Learnt
singles·bounds·oracle-bound-from-constant κs a x y = one (λ r. r & x.1)

pub singles·bounds·oracle-bound-after-add : Determined singles_says.bounds.oracle_bound_after_add.ended singles.bounds.oracle_bound_after_add.Reads.Learnt
singles·bounds·oracle-bound-after-add κs a x y = one (λ r. r & x.1)

pub singles·bounds·oracle-bound-after-sub : Determined singles_says.bounds.oracle_bound_after_sub.ended singles.bounds.oracle_bound_after_sub.Reads.Learnt
singles·bounds·oracle-bound-after-sub κs a x y = one (λ r. r & x.1)

pub singles·bounds·oracle-bound-after-mul : Determined singles_says.bounds.oracle_bound_after_mul.ended singles.bounds.oracle_bound_after_mul.Reads.Learnt
singles·bounds·oracle-bound-after-mul κs a x y = one (λ r. r & x.1)

pub singles·bounds·oracle-bound-after-and : Determined singles_says.bounds.oracle_bound_after_and.ended singles.bounds.oracle_bound_after_and.Reads.Learnt
singles·bounds·oracle-bound-after-and κs a x y = one (λ r. r & x.1)

pub singles·bounds·oracle-bound-after-move : Determined singles_says.bounds.oracle_bound_after_move.ended singles.bounds.oracle_bound_after_move.Reads.Learnt
singles·bounds·oracle-bound-after-move κs a x y = one (λ r. r & x.1)

pub singles·bounds·oracle-bound-after-div : Determined singles_says.bounds.oracle_bound_after_div.ended singles.bounds.oracle_bound_after_div.Reads.Learnt
singles·bounds·oracle-bound-after-div κs a x y = one (λ r. r & x.1)

pub singles·bounds·oracle-bound-after-shl : Determined singles_says.bounds.oracle_bound_after_shl.ended singles.bounds.oracle_bound_after_shl.Reads.Learnt
singles·bounds·oracle-bound-after-shl κs a x y = one (λ r. r & x.1)

pub singles·bounds·oracle-bound-after-srl : Determined singles_says.bounds.oracle_bound_after_srl.ended singles.bounds.oracle_bound_after_srl.Reads.Learnt
singles·bounds·oracle-bound-after-srl κs a x y = one (λ r. r & x.1)

pub singles·bounds·oracle-bound-after-sra : Determined singles_says.bounds.oracle_bound_after_sra.ended singles.bounds.oracle_bound_after_sra.Reads.Learnt
singles·bounds·oracle-bound-after-sra κs a x y = one (λ r. r & x.1)

pub singles·bounds·oracle-bound-after-cmp : Determined singles_says.bounds.oracle_bound_after_cmp.ended singles.bounds.oracle_bound_after_cmp.Reads.Learnt
singles·bounds·oracle-bound-after-cmp κs a x y = one (λ r. r & x.1)

pub singles·bounds·oracle-bound-after-load : Determined singles_says.bounds.oracle_bound_after_load.ended singles.bounds.oracle_bound_after_load.Reads.Learnt
singles·bounds·oracle-bound-after-load κs a x y = one (λ r. r & x.1)

pub singles·bounds·oracle-bound-needs-check : Determined singles_says.bounds.oracle_bound_needs_check.ended singles.bounds.oracle_bound_needs_check.Reads.Learnt
singles·bounds·oracle-bound-needs-check κs a x y = one (λ r. r & x.1)

pub singles·values·oracle-value-add : Determined singles_says.values.oracle_value_add.ended singles.values.oracle_value_add.Reads.Learnt
singles·values·oracle-value-add κs a x y = one (λ r. r & x.1)

pub singles·values·oracle-value-sub : Determined singles_says.values.oracle_value_sub.ended singles.values.oracle_value_sub.Reads.Learnt
singles·values·oracle-value-sub κs a x y = one (λ r. r & x.1)

pub singles·values·oracle-value-mul : Determined singles_says.values.oracle_value_mul.ended singles.values.oracle_value_mul.Reads.Learnt
singles·values·oracle-value-mul κs a x y = one (λ r. r & x.1)

pub singles·values·oracle-value-and : Determined singles_says.values.oracle_value_and.ended singles.values.oracle_value_and.Reads.Learnt
singles·values·oracle-value-and κs a x y = one (λ r. r & x.1)

pub singles·values·oracle-value-or : Determined singles_says.values.oracle_value_or.ended singles.values.oracle_value_or.Reads.Learnt
singles·values·oracle-value-or κs a x y = one (λ r. r & x.1)

pub singles·values·oracle-value-xor : Determined singles_says.values.oracle_value_xor.ended singles.values.oracle_value_xor.Reads.Learnt
singles·values·oracle-value-xor κs a x y = one (λ r. r & x.1)

pub singles·values·oracle-value-shl : Determined singles_says.values.oracle_value_shl.ended singles.values.oracle_value_shl.Reads.Learnt
singles·values·oracle-value-shl κs a x y = one (λ r. r & x.1)

pub singles·values·oracle-value-shr : Determined singles_says.values.oracle_value_shr.ended singles.values.oracle_value_shr.Reads.Learnt
singles·values·oracle-value-shr κs a x y = one (λ r. r & x.1)

pub singles·values·oracle-value-sra : Determined singles_says.values.oracle_value_sra.ended singles.values.oracle_value_sra.Reads.Learnt
singles·values·oracle-value-sra κs a x y = one (λ r. r & x.1)

pub singles·values·oracle-value-slt : Determined singles_says.values.oracle_value_slt.ended singles.values.oracle_value_slt.Reads.Learnt
singles·values·oracle-value-slt κs a x y = one (λ r. r & x.1)

pub singles·values·oracle-value-ult : Determined singles_says.values.oracle_value_ult.ended singles.values.oracle_value_ult.Reads.Learnt
singles·values·oracle-value-ult κs a x y = one (λ r. r & x.1)

pub singles·values·oracle-value-mulh : Determined singles_says.values.oracle_value_mulh.ended singles.values.oracle_value_mulh.Reads.Learnt
singles·values·oracle-value-mulh κs a x y = one (λ r. r & x.1)

pub singles·values·oracle-value-div : Determined singles_says.values.oracle_value_div.ended singles.values.oracle_value_div.Reads.Learnt
singles·values·oracle-value-div κs a x y = one (λ r. r & x.1)

pub singles·values·oracle-value-rem : Determined singles_says.values.oracle_value_rem.ended singles.values.oracle_value_rem.Reads.Learnt
singles·values·oracle-value-rem κs a x y = one (λ r. r & x.1)

pub singles·values·oracle-value-divu : Determined singles_says.values.oracle_value_divu.ended singles.values.oracle_value_divu.Reads.Learnt
singles·values·oracle-value-divu κs a x y = one (λ r. r & x.1)

pub singles·values·oracle-value-remu : Determined singles_says.values.oracle_value_remu.ended singles.values.oracle_value_remu.Reads.Learnt
singles·values·oracle-value-remu κs a x y = one (λ r. r & x.1)

pub singles·values·oracle-value-extend-8 : Determined singles_says.values.oracle_value_extend_8.ended singles.values.oracle_value_extend_8.Reads.Learnt
singles·values·oracle-value-extend-8 κs a x y = one (λ r. r & x.1)

pub singles·values·oracle-value-extend-16 : Determined singles_says.values.oracle_value_extend_16.ended singles.values.oracle_value_extend_16.Reads.Learnt
singles·values·oracle-value-extend-16 κs a x y = one (λ r. r & x.1)

pub singles·values·oracle-value-extend-17 : Determined singles_says.values.oracle_value_extend_17.ended singles.values.oracle_value_extend_17.Reads.Learnt
singles·values·oracle-value-extend-17 κs a x y = one (λ r. r & x.1)

pub singles·values·oracle-value-extend-21 : Determined singles_says.values.oracle_value_extend_21.ended singles.values.oracle_value_extend_21.Reads.Learnt
singles·values·oracle-value-extend-21 κs a x y = one (λ r. r & x.1)

pub singles·values·oracle-value-plus : Determined singles_says.values.oracle_value_plus.ended singles.values.oracle_value_plus.Reads.Learnt
singles·values·oracle-value-plus κs a x y = one (λ r. r & x.1)

pub singles·words·oracle-extract-opcode : Determined singles_says.words.oracle_extract_opcode.ended singles.words.oracle_extract_opcode.Reads.Learnt
singles·words·oracle-extract-opcode κs a x y = one (λ r. r & x.1)

pub singles·words·oracle-extract-rd : Determined singles_says.words.oracle_extract_rd.ended singles.words.oracle_extract_rd.Reads.Learnt
singles·words·oracle-extract-rd κs a x y = one (λ r. r & x.1)

pub singles·words·oracle-extract-rs1 : Determined singles_says.words.oracle_extract_rs1.ended singles.words.oracle_extract_rs1.Reads.Learnt
singles·words·oracle-extract-rs1 κs a x y = one (λ r. r & x.1)

pub singles·words·oracle-extract-rs2 : Determined singles_says.words.oracle_extract_rs2.ended singles.words.oracle_extract_rs2.Reads.Learnt
singles·words·oracle-extract-rs2 κs a x y = one (λ r. r & x.1)

pub singles·words·oracle-extract-funct : Determined singles_says.words.oracle_extract_funct.ended singles.words.oracle_extract_funct.Reads.Learnt
singles·words·oracle-extract-funct κs a x y = one (λ r. r & x.1)

pub singles·words·oracle-extract-imm : Determined singles_says.words.oracle_extract_imm.ended singles.words.oracle_extract_imm.Reads.Learnt
singles·words·oracle-extract-imm κs a x y = one (λ r. r & x.1)

pub singles·words·oracle-extract-offset : Determined singles_says.words.oracle_extract_offset.ended singles.words.oracle_extract_offset.Reads.Learnt
singles·words·oracle-extract-offset κs a x y = one (λ r. r & x.1)

pub singles·words·oracle-extract-stype-rs1 : Determined singles_says.words.oracle_extract_stype_rs1.ended singles.words.oracle_extract_stype_rs1.Reads.Learnt
singles·words·oracle-extract-stype-rs1 κs a x y = one (λ r. r & x.1)

pub singles·words·oracle-extract-stype-rs2 : Determined singles_says.words.oracle_extract_stype_rs2.ended singles.words.oracle_extract_stype_rs2.Reads.Learnt
singles·words·oracle-extract-stype-rs2 κs a x y = one (λ r. r & x.1)

pub singles·words·oracle-extract-stype-imm : Determined singles_says.words.oracle_extract_stype_imm.ended singles.words.oracle_extract_stype_imm.Reads.Learnt
singles·words·oracle-extract-stype-imm κs a x y = one (λ r. r & x.1)

pub singles·words·oracle-extract-imm-signed : Determined singles_says.words.oracle_extract_imm_signed.ended singles.words.oracle_extract_imm_signed.Reads.Learnt
singles·words·oracle-extract-imm-signed κs a x y = one (λ r. r & x.1)

pub singles·words·oracle-extract-offset-signed : Determined singles_says.words.oracle_extract_offset_signed.ended singles.words.oracle_extract_offset_signed.Reads.Learnt
singles·words·oracle-extract-offset-signed κs a x y = one (λ r. r & x.1)

pub singles·words·oracle-is-rtype : Determined singles_says.words.oracle_is_rtype.ended singles.words.oracle_is_rtype.Reads.Learnt
singles·words·oracle-is-rtype κs a x y = one (λ r. r & x.1)

pub singles·words·oracle-is-itype : Determined singles_says.words.oracle_is_itype.ended singles.words.oracle_is_itype.Reads.Learnt
singles·words·oracle-is-itype κs a x y = one (λ r. r & x.1)

pub singles·words·oracle-is-stype : Determined singles_says.words.oracle_is_stype.ended singles.words.oracle_is_stype.Reads.Learnt
singles·words·oracle-is-stype κs a x y = one (λ r. r & x.1)

pub singles·words·oracle-is-btype : Determined singles_says.words.oracle_is_btype.ended singles.words.oracle_is_btype.Reads.Learnt
singles·words·oracle-is-btype κs a x y = one (λ r. r & x.1)

pub singles·words·oracle-is-jtype : Determined singles_says.words.oracle_is_jtype.ended singles.words.oracle_is_jtype.Reads.Learnt
singles·words·oracle-is-jtype κs a x y = one (λ r. r & x.1)

pub singles·words·oracle-encode-rtype : Determined singles_says.words.oracle_encode_rtype.ended singles.words.oracle_encode_rtype.Reads.Learnt
singles·words·oracle-encode-rtype κs a x y = one (λ r. r & x.1)

pub singles·words·oracle-encode-itype : Determined singles_says.words.oracle_encode_itype.ended singles.words.oracle_encode_itype.Reads.Learnt
singles·words·oracle-encode-itype κs a x y = one (λ r. r & x.1)

pub singles·words·oracle-encode-stype : Determined singles_says.words.oracle_encode_stype.ended singles.words.oracle_encode_stype.Reads.Learnt
singles·words·oracle-encode-stype κs a x y = one (λ r. r & x.1)

pub singles·words·oracle-encode-btype : Determined singles_says.words.oracle_encode_btype.ended singles.words.oracle_encode_btype.Reads.Learnt
singles·words·oracle-encode-btype κs a x y = one (λ r. r & x.1)

pub singles·words·oracle-encode-jtype : Determined singles_says.words.oracle_encode_jtype.ended singles.words.oracle_encode_jtype.Reads.Learnt
singles·words·oracle-encode-jtype κs a x y = one (λ r. r & x.1)

-- ---- exports
pub exports·coding·oracle-decode : Determined exports_says.coding.oracle_decode.ended exports.coding.oracle_decode.Reads.Learnt
exports·coding·oracle-decode κs a x y = one (λ m. tt & m & x.1.1)

pub exports·coding·oracle-encode : Determined exports_says.coding.oracle_encode.ended exports.coding.oracle_encode.Reads.Learnt
exports·coding·oracle-encode κs a x y = one (λ r. r & x.1)

pub exports·coding·given : Determined exports_says.coding.given.ended exports.coding.given.Reads.Learnt
exports·coding·given κs a x y = one (λ r. r & x.1)

pub exports·limbs·oracle-normalize : Determined exports_says.limbs.oracle_normalize.ended exports.limbs.oracle_normalize.Reads.Learnt
exports·limbs·oracle-normalize κs a x y = one (λ (l : LimbCall). tt & l.state & l.before & l.after & l.carries & x.1.1.1.1.1)

pub exports·limbs·oracle-would-overflow : Determined exports_says.limbs.oracle_would_overflow.ended exports.limbs.oracle_would_overflow.Reads.Learnt
exports·limbs·oracle-would-overflow κs a x y = one (λ r. r & x.1)

pub exports·lists·oracle-append : Determined exports_says.lists.oracle_append.ended exports.lists.oracle_append.Reads.Learnt
exports·lists·oracle-append κs a x y = two (λ m (l : Lists). tt & m & l.values & l.bounds & l.pcs & x.1.1.1.1.1)

pub exports·lists·oracle-empty : Determined exports_says.lists.oracle_empty.ended exports.lists.oracle_empty.Reads.Learnt
exports·lists·oracle-empty κs a x y = two (λ m (l : Lists). tt & m & l.values & l.bounds & l.pcs & x.1.1.1.1.1)

pub exports·lists·oracle-read : Determined exports_says.lists.oracle_read.ended exports.lists.oracle_read.Reads.Learnt
exports·lists·oracle-read κs a x y = two (λ r m. r & m & x.1.1)

pub exports·triple·refused : Determined exports_says.triple.refused.ended exports.triple.refused.Reads.Learnt
exports·triple·refused κs a x y = one (λ r. r & x.1)

pub exports·triple·write-triple : Determined exports_says.triple.write_triple.ended exports.triple.write_triple.Reads.Learnt
exports·triple·write-triple κs a x y = one (λ m. tt & m & x.1.1)

-- ---- machines
pub machines·oracle-execute : Determined machines_says.oracle_execute.ended machines.oracle_execute.Reads.Learnt
machines·oracle-execute κs a x y = one (λ (g : GivenCall). tt & g.state & g.memory & g.answer & g.check & x.1.1.1.1.1)

pub machines·oracle-step : Determined machines_says.oracle_step.ended machines.oracle_step.Reads.Learnt
machines·oracle-step κs a x y = one (λ (l : MachineCall). l.lists.count & l.state & l.memory & l.answer & l.lists.values & l.lists.bounds & l.lists.pcs & x.1.1.1.1.1.1.1)

pub machines·oracle-run : Determined machines_says.oracle_run.ended machines.oracle_run.Reads.Learnt
machines·oracle-run κs a x y = one (λ (l : MachineCall). l.lists.count & l.state & l.memory & l.answer & l.lists.values & l.lists.bounds & l.lists.pcs & x.1.1.1.1.1.1.1)

-- ---- told
pub told·done : Determined told_says.done.ended told.done.Reads.Learnt
told·done κs a x y = one (λ r. r & x.1)

pub told·refused : Determined told_says.refused.ended told.refused.Reads.Learnt
told·refused κs a x y = one (λ r. r & x.1)

-- ---- names
pub names·name-of : Determined names_says.name_of.ended names.name_of.Reads.Learnt
names·name-of κs a x y = one (λ r. r & x.1)

pub names·named : Determined names_says.named.ended names.named.Reads.Learnt
names·named κs a x y = one (λ r. r & x.1)

-- ---- labels
pub labels·text·byte : Determined labels_says.text.byte.ended labels.text.byte.Reads.Learnt
labels·text·byte κs a x y = one (λ r. r & x.1)

pub labels·text·digit : Determined labels_says.text.digit.ended labels.text.digit.Reads.Learnt
labels·text·digit κs a x y = one (λ r. r & x.1)

pub labels·text·letter : Determined labels_says.text.letter.ended labels.text.letter.Reads.Learnt
labels·text·letter κs a x y = one (λ r. r & x.1)

pub labels·text·skip : Determined labels_says.text.skip.ended labels.text.skip.Reads.Learnt
labels·text·skip κs a x y = one (λ r. r & x.1)

pub labels·table·name-at : Determined labels_says.table.name_at.ended labels.table.name_at.Reads.Learnt
labels·table·name-at κs a x y = one (λ r. r & x.1)

pub labels·table·find : Determined labels_says.table.find.ended labels.table.find.Reads.Learnt
labels·table·find κs a x y = one (λ r. r & x.1)

pub labels·table·note : Determined labels_says.table.note.ended labels.table.note.Reads.Learnt
labels·table·note κs a x y = two (λ r m. r & tt & m & x.1.1.1)

-- ---- sums
pub sums·sum : Determined sums_says.sum.ended sums.sum.Reads.Learnt
sums·sum κs a x y = one-read a.0.now a.1.1.0 (λ r. r & x.1) x.0 y.0

-- ---- lines
pub lines·start-of : Determined lines_says.start_of.ended lines.start_of.Reads.Learnt
lines·start-of κs a x y = one (λ r. r & x.1)

pub lines·line : Determined lines_says.line.ended lines.line.Reads.Learnt
lines·line κs a x y = one-said a.0.now (λ r. r & x.1) x.0 y.0

-- ---- printing
pub printing·print : Determined printing_says.print.ended printing.print.Reads.Learnt
printing·print κs a x y = two (λ r m. r & tt & m & x.1.1.1)

-- ---- programs
pub programs·assemble : Determined programs_says.assemble.ended programs.assemble.Reads.Learnt
programs·assemble κs a x y = one_left a.0.now a.1.0.now a.1.1.0.now (λ l. l.told & tt & l.words & l.labels & x.1.1.1.1) _ _

-- ---- text
pub text·zkir-assemble : Determined text_says.zkir_assemble.ended text.zkir_assemble.Reads.Learnt
text·zkir-assemble κs a x y = one_left a.0.now a.1.0.now a.1.1.0.now (λ l. l.told & tt & l.words & l.labels & x.1.1.1.1) _ _

pub text·zkir-print : Determined text_says.zkir_print.ended text.zkir_print.Reads.Learnt
text·zkir-print κs a x y = two (λ r m. r & tt & m & x.1.1.1)

-- ---- checkpoint
pub checkpoint·zkir-checkpoint-write : Determined checkpoint_says.zkir_checkpoint_write.ended checkpoint.zkir_checkpoint_write.Reads.Learnt
checkpoint·zkir-checkpoint-write κs a x y = one (λ (w : Wrote). w.told & tt & tt & w.image & x.1.1.1.1)

pub checkpoint·zkir-checkpoint-read : Determined checkpoint_says.zkir_checkpoint_read.ended checkpoint.zkir_checkpoint_read.Reads.Learnt
checkpoint·zkir-checkpoint-read κs a x y p q =
    three (λ t s m. t & tt & s & m & x.1.1.1.1) (reads-one a.0.now a.1.0.now a.1.1.0.now p q)
