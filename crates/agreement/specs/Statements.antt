-- What this crate proves, in the words in which it is asked for.
use Rattle.std.specs.Prelude.{ℕ, ◌+◌, ◌-◌, ◌%◌, ◌≤◌, ◌<◌, ◌≡◌, ◌≢◌, true, false, cond, List, length}
use contract.Lifetimes.{Lfts}
use denote.Triple.Entry.{Args}
use borrow.Fn.Kinds.{GoodsP}
use Rattle.refusal.specs.declared.Refusal.{Refusal}
use Rattle.state.specs.Held.{Held, Limbs, low_of, high_of, normal, settled}
use Rattle.state.specs.declared.registers.Registers.{Registers}
use Rattle.state.specs.Registers.{holds, normalise}
use Rattle.state.specs.Formed.{well_formed, all_whole}
use Rattle.normalize.specs.contracts.normalize_register
use Rattle.normalize.proofs.normalize_register as normalize_register_told
use Rattle.effect.specs.Notes.{Notes}
use Rattle.instruction.specs.declared.Instruction.{Instruction}
use Rattle.deferred.specs.Limbs.{sum_of, sum_fits, sum_into, subtracted}
use Rattle.execute.specs.World.{World}
use Rattle.execute.specs.Execute.{execute, admits}
use Rattle.execute.specs.declared.Mode.{Mode}
use Rattle.execute.specs.declared.Mode.TheVariants.{Plain, Deferred}
use Rattle.execute.specs.declared.Went.TheVariants as W
use Rattle.pending.specs.Pending.{Lists, no_lists}
use Rattle.pending.specs.declared.Room.{Room}
use Rattle.pending.specs.declared.Room.TheVariants.{Unlent}
use Rattle.execute.specs.Rules.{Rules, document_rules}
use Rattle.given.specs.Given.{execute_one}
use Rattle.given.specs.contracts.execute as given·execute
use Rattle.given.proofs.execute as given_execute_told
use Rattle.step.specs.Step.{step}
use Rattle.step.specs.contracts.step as step·step
use Rattle.step.proofs.step as step_step_told
use Rattle.run.specs.Run.{run}
use Rattle.run.specs.contracts.run_plain
use Rattle.run.proofs.run_plain as run_plain_told
use Rattle.run.specs.contracts.run_deferred
use Rattle.run.proofs.run_deferred as run_deferred_told
use Rattle.layout.specs.Layout.{state_in}
use Rattle.host.specs.Call.{call_taken, call_of}
use Rattle.host.specs.contracts.zkir_run
use Rattle.host.proofs.zkir_run as zkir_run_told
use Rattle.checked.specs.contracts.step as checked·step
use Rattle.lent.specs.contracts.step_in_place
use Rattle.lent.specs.contracts.exported.zkir_step
use Rattle.agreement.specs.Reading.{read_world, unchecked, read_step, read_answer, read_call, Sized, Full}
use Rattle.agreement.specs.Contracts.{Leaves, Allows, told_by, world_given, fuel_given, lists_given, ran_to, call_given, mode_given, called_to}
use Rattle.agreement.specs.Contracts.{world_stepped, lists_stepped, stepped_to, world_executed, executed_to}
use Rattle.agreement.specs.ByHand.{Says, steps, records_given, records_after, steps_in_place, place_given, place_after, steps_lent, lent_given, lent_after}
use Rattle.agreement.specs.Keeping.{Capped, SmallLimbs, InBits, Restores, Undoes, Normalised, NormalisedBy}
use Rattle.agreement.specs.Fuel.{BySteps, continued}

-- For every memory, fuel and state with no accumulated register, and no list lent, the plain and the deferred run agree on the stop with its
-- particulars, the steps, the pc, the halt mark, the memory, the bounds and the values of all registers.
abbrev pub RunsAgree : Type 0
RunsAgree =
    (R : Rules) (fuel : ℕ) (w : World) → Sized w.registers → all_whole w.registers.accumulated ≡ true
    → read_answer (run Deferred R fuel w no_lists) ≡ read_answer (run Plain R fuel w no_lists)

-- The same from every state that a mode takes, accumulated registers too: its run is the plain run of the values.
abbrev pub RunsOnValues : Type 0
RunsOnValues =
    (R : Rules) (fuel : ℕ) (w : World) → Sized w.registers → (k : Mode) → admits k w.registers ≡ true
    → read_answer (run k R fuel w no_lists) ≡ run Plain R fuel (read_world w) no_lists

-- And of one instruction, from any state, refused or not.
abbrev pub InstructionsAgree : Type 0
InstructionsAgree =
    (k : Mode) (N : Notes) (i : Instruction) (w : World) → Sized w.registers
    → read_step (execute k Unlent N i w) ≡ unchecked (execute Plain Unlent N i (read_world w))

-- Of the code: whatever `run_deferred` and `run_plain` leave, as far as their own contracts allow it, on the same state, bytes of memory and
-- fuel. `GoodsP` is what the kit knows of any arguments that are handed over: here, that a state has its sixteen marks.
abbrev pub AnswersAgree : Type 0
AnswersAgree =
    (κs ρs : Lfts 4) (a : Args run_deferred.signature κs) (b : Args run_plain.signature ρs) → GoodsP κs run_deferred_told.Kinds.ps a
    → world_given κs a ≡ world_given ρs b → fuel_given κs a ≡ fuel_given ρs b → lists_given κs a ≡ no_lists → lists_given ρs b ≡ no_lists
    → all_whole (world_given κs a).registers.accumulated ≡ true
    → (d : Leaves run_deferred.ended κs a) (p : Leaves run_plain.ended ρs b)
    → Allows run_deferred.ended run_deferred_told.Reads.Learnt κs a d → Allows run_plain.ended run_plain_told.Reads.Learnt ρs b p
    → read_answer (ran_to κs a d) ≡ read_answer (ran_to ρs b p)

-- The host's call in its two modes, on any bytes whose state has no accumulated register, taken or refused: the same result, memory and
-- answer bytes, and state bytes that read alike.
abbrev pub CallsAgree : Type 0
CallsAgree =
    (st m an : List ℕ) (fuel : ℕ) → all_whole (state_in st).registers.accumulated ≡ true → read_call (call_of st m an fuel 1) ≡ read_call (call_of st m an fuel 0)

-- One that the plain mode refuses before any step leaves the very same bytes in both.
abbrev pub RefusedCallsAgree : Type 0
RefusedCallsAgree =
    (st m an : List ℕ) (fuel : ℕ) → all_whole (state_in st).registers.accumulated ≡ true → call_taken st an 0 ≡ false
    → call_of st m an fuel 1 ≡ call_of st m an fuel 0

-- Of the code: whatever two calls of `zkir_run` leave, as far as its own contract allows it, on the same bytes and fuel, in either mode.
abbrev pub HostCallsAgree : Type 0
HostCallsAgree =
    (κs ρs : Lfts 3) (a : Args zkir_run.signature κs) (b : Args zkir_run.signature ρs) → call_given κs a ≡ call_given ρs b
    → mode_given κs a ≡ 1 → mode_given ρs b ≡ 0 → all_whole (state_in (call_given κs a).state).registers.accumulated ≡ true
    → (d : Leaves zkir_run.ended κs a) (p : Leaves zkir_run.ended ρs b)
    → Allows zkir_run.ended zkir_run_told.Reads.Learnt κs a d → Allows zkir_run.ended zkir_run_told.Reads.Learnt ρs b p
    → read_call (called_to κs a d) ≡ read_call (called_to ρs b p)

-- After every instruction from a well-formed state the state is well-formed, with a list or without.
abbrev pub InstructionsKeep : Type 0
InstructionsKeep =
    (N : Notes) → Capped N → (k : Mode) (room : Room) (i : Instruction) (w : World)
    → well_formed w.registers ≡ true → well_formed (execute k room N i w).world.registers ≡ true

abbrev pub StepsKeep : Type 0
StepsKeep =
    (R : Rules) → Capped R.notes → (k : Mode) (w : World) (l : Lists)
    → well_formed w.registers ≡ true → well_formed (step k R w l).world.registers ≡ true

abbrev pub RunsKeep : Type 0
RunsKeep =
    (R : Rules) → Capped R.notes → (k : Mode) (fuel : ℕ) (w : World) (l : Lists)
    → well_formed w.registers ≡ true → well_formed (run k R fuel w l).world.registers ≡ true

-- Under document 01's rules, with nothing assumed of notes: after every step from a well-formed state, deferred or plain, with lists or without,
-- the state is well-formed, and every limb of every register is below 2^30. And so after every run.
abbrev pub StepsKeepLimbs : Type 0
StepsKeepLimbs =
    (k : Mode) (w : World) (l : Lists) → well_formed w.registers ≡ true
    → let after = (step k document_rules w l).world.registers in (well_formed after ≡ true) × SmallLimbs after

abbrev pub RunsKeepLimbs : Type 0
RunsKeepLimbs =
    (k : Mode) (fuel : ℕ) (w : World) (l : Lists) → well_formed w.registers ≡ true
    → let after = (run k document_rules fuel w l).world.registers in (well_formed after ≡ true) × SmallLimbs after

-- As a register is kept, no low limb can be read as 2^30 or more. So besides, of every register but R0: what Add and Addi, and Sub, compute on
-- limbs is what rd then holds.
abbrev pub SumsAreHeld : Type 0
SumsAreHeld =
    (rd : ℕ) (x y : Held) (bound : ℕ) (R T : Registers) → Full R → Full T → rd % 16 ≢ 0
    → holds (sum_into rd x y bound R T) rd ≡ cond (sum_fits x y) (sum_of x y) (sum_of (settled x) (settled y))

abbrev pub DifferencesAreHeld : Type 0
DifferencesAreHeld =
    (N : Notes) (rd rs1 rs2 : ℕ) (R : Registers) → Full R → rd % 16 ≢ 0
    → holds (subtracted N rd rs1 rs2 R) rd ≡ Limbs (low_of (holds R rs1) - low_of (holds R rs2)) (high_of (holds R rs1) - high_of (holds R rs2))

-- Of the code: the state that a call of `step`, and of `run_plain` or `run_deferred`, leaves, as far as their own contracts allow it.
abbrev pub StepCallsKeepLimbs : Type 0
StepCallsKeepLimbs =
    (κs : Lfts 4) (a : Args step·step.signature κs) (x : Leaves step·step.ended κs a) → Allows step·step.ended step_step_told.Reads.Learnt κs a x
    → well_formed (world_stepped κs a).registers ≡ true
    → let after = x.0.state.registers in (well_formed after ≡ true) × SmallLimbs after

abbrev pub RunCallsKeepLimbs : Type 0
RunCallsKeepLimbs =
    (k : Mode) (κs : Lfts 4) (a : Args run_plain.signature κs) (x : Leaves run_plain.ended κs a) → Allows run_plain.ended (told_by k) κs a x
    → well_formed (world_given κs a).registers ≡ true
    → let after = x.0.state.registers in (well_formed after ≡ true) × SmallLimbs after

-- Numbers stay what the code can hold: 64 bits in registers and pc, bytes in memory. So a state's bytes hold all of it.
abbrev pub StepsStayInBits : Type 0
StepsStayInBits = (R : Rules) → Capped R.notes → (k : Mode) (w : World) (l : Lists) → InBits w → InBits (step k R w l).world

abbrev pub RunsStayInBits : Type 0
RunsStayInBits =
    (R : Rules) → Capped R.notes → (k : Mode) (fuel : ℕ) (w : World) (l : Lists) → InBits w → InBits (run k R fuel w l).world

-- Memory keeps its length.
abbrev pub RunsKeepLength : Type 0
RunsKeepLength = (R : Rules) (k : Mode) (fuel : ℕ) (w : World) (l : Lists) → length (run k R fuel w l).world.memory ≡ length w.memory

-- "A refused step restores even normalised sources": registers, limbs, bounds, pc, mark, memory and lists are as they were, in either mode,
-- with lists or without, under any rules. The same of an instruction, and of one that is given.
abbrev pub RefusedStepsRestore : Type 0
RefusedStepsRestore = (k : Mode) (R : Rules) (w : World) (l : Lists) → Restores (step k R w l) w l

abbrev pub RefusedInstructionsUndo : Type 0
RefusedInstructionsUndo = (k : Mode) (room : Room) (N : Notes) (i : Instruction) (w : World) → Undoes (execute k room N i w) w

abbrev pub RefusedGivenUndo : Type 0
RefusedGivenUndo = (k : Mode) (N : Notes) (i : Instruction) (w : World) → Undoes (execute_one k N i w) w

-- Of the code: whatever a call leaves, as far as its own contract allows it, where the answer says that it was refused.
abbrev pub StepCallsRestore : Type 0
StepCallsRestore =
    (κs : Lfts 4) (a : Args step·step.signature κs) (x : Leaves step·step.ended κs a) → Allows step·step.ended step_step_told.Reads.Learnt κs a x
    → Restores (stepped_to κs a x) (world_stepped κs a) (lists_stepped κs a)

abbrev pub GivenCallsUndo : Type 0
GivenCallsUndo =
    (κs : Lfts 1) (a : Args given·execute.signature κs) (x : Leaves given·execute.ended κs a) → Allows given·execute.ended given_execute_told.Reads.Learnt κs a x
    → Undoes (executed_to κs a x) (world_executed κs a)

-- And of the steps over a list of records, which are proved by hand: state, memory, list and count are as they were.
abbrev pub RecordStepsRestore : Type 2
RecordStepsRestore =
    Says checked·step.ended (λ M 𝓤 𝓛. checked·step.clauses 𝓛) steps
    × ((κs : Lfts 2) (a : Args checked·step.signature κs) (x : Leaves checked·step.ended κs a) → Allows checked·step.ended steps κs a x
    → (r : Refusal) → x.0.went ≡ W.Refused r → records_after κs a x ≡ records_given κs a)

abbrev pub StepsInPlaceRestore : Type 2
StepsInPlaceRestore =
    Says step_in_place.ended (λ M 𝓤 𝓛. step_in_place.clauses 𝓛) steps_in_place
    × ((κs : Lfts 3) (a : Args step_in_place.signature κs) (x : Leaves step_in_place.ended κs a) → Allows step_in_place.ended steps_in_place κs a x
    → (r : Refusal) → x.0.went ≡ W.Refused r → place_after κs a x ≡ place_given κs a)

-- `zkir_step` tells a refusal by its code, 1 to 9.
abbrev pub LentStepsRestore : Type 2
LentStepsRestore =
    Says zkir_step.ended (λ M 𝓤 𝓛. zkir_step.clauses 𝓛) steps_lent
    × ((κs : Lfts 3) (a : Args zkir_step.signature κs) (x : Leaves zkir_step.ended κs a) → Allows zkir_step.ended steps_lent κs a x
    → 1 ≤ x.0.code → x.0.code ≤ 9 → lent_after κs a x ≡ lent_given κs a)

-- Normalising an accumulated register of a well-formed state.
abbrev pub NormalisingIsExact : Type 0
NormalisingIsExact =
    (R : Registers) (n low high : ℕ) → well_formed R ≡ true → holds R n ≡ Limbs low high
    → Normalised R (normalise n R) n low high (normal 20 low high).carry1

-- Of the code: whatever `normalize_register` leaves, as far as its own contract allows it.
abbrev pub ResultsAreExact : Type 0
ResultsAreExact =
    (κs : Lfts 0) (a : Args normalize_register.signature κs) (low high : ℕ) → well_formed a.0.registers ≡ true → a.1.0 < 16
    → holds a.0.registers a.1.0 ≡ Limbs low high → (d : Leaves normalize_register.ended κs a)
    → Allows normalize_register.ended normalize_register_told.Reads.Learnt κs a d → NormalisedBy a.0 a.1.0 low high d.0

-- "never more than the fuel": of every run, refused ones too.
abbrev pub RunsWithinFuel : Type 0
RunsWithinFuel = (R : Rules) (k : Mode) (fuel : ℕ) (w : World) (l : Lists) → (run k R fuel w l).steps ≤ fuel

-- A run's steps are the defined steps that were completed; Ebreak and Ecall count, a refused one doesn't.
abbrev pub RunsAreSteps : Type 0
RunsAreSteps = (R : Rules) → Capped R.notes → (k : Mode) (fuel : ℕ) (w : World) (l : Lists) → BySteps k R fuel w l (run k R fuel w l)

-- A run of f + g fuel is the run of f and then, where that stopped on fuel, the run of g from there.
abbrev pub RunsContinue : Type 0
RunsContinue =
    (R : Rules) → Capped R.notes → (k : Mode) (f g : ℕ) (w : World) (l : Lists)
    → let a = run k R f w l in run k R (f + g) w l ≡ continued a (run k R g a.world a.lists)

-- All three of the code: of whatever calls of `run_plain` or of `run_deferred` leave, as far as their own contracts allow it.
abbrev pub AnswersWithinFuel : Type 0
AnswersWithinFuel =
    (k : Mode) (κs : Lfts 4) (a : Args run_plain.signature κs) (x : Leaves run_plain.ended κs a) → Allows run_plain.ended (told_by k) κs a x
    → (ran_to κs a x).steps ≤ fuel_given κs a

abbrev pub AnswersAreSteps : Type 0
AnswersAreSteps =
    (k : Mode) (κs : Lfts 4) (a : Args run_plain.signature κs) (x : Leaves run_plain.ended κs a) → Allows run_plain.ended (told_by k) κs a x
    → BySteps k document_rules (fuel_given κs a) (world_given κs a) (lists_given κs a) (ran_to κs a x)

abbrev pub AnswersContinue : Type 0
AnswersContinue =
    (k : Mode) (κs ρs σs : Lfts 4) (a : Args run_plain.signature κs) (b : Args run_plain.signature ρs) (c : Args run_plain.signature σs)
    → (x : Leaves run_plain.ended κs a) (y : Leaves run_plain.ended ρs b) (z : Leaves run_plain.ended σs c)
    → Allows run_plain.ended (told_by k) κs a x → Allows run_plain.ended (told_by k) ρs b y → Allows run_plain.ended (told_by k) σs c z
    → fuel_given ρs b + fuel_given σs c ≡ fuel_given κs a → world_given κs a ≡ world_given ρs b → lists_given κs a ≡ lists_given ρs b
    → world_given σs c ≡ (ran_to ρs b y).world → lists_given σs c ≡ (ran_to ρs b y).lists
    → ran_to κs a x ≡ continued (ran_to ρs b y) (ran_to σs c z)
