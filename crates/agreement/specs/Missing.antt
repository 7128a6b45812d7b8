-- What refusal 2 names: the first byte that is missing.
use Rattle.std.specs.Prelude.{Ok, ℕ, ◌+◌, ◌≤◌, ◌<◌, ◌≡◌, List, length}
use contract.Lifetimes.{Lfts}
use denote.Triple.Entry.{Args}
use Rattle.refusal.specs.Stops.{number_of, particular_of}
use Rattle.refusal.specs.declared.Refusal.{Refusal}
use Rattle.refusal.specs.declared.Stop.TheVariants as S
use Rattle.memory.specs.Bytes.{number_at}
use Rattle.memory.specs.Memory.{size_of}
use Rattle.words.specs.Words.{decode_in}
use Rattle.effect.specs.Operations.{plus64, load_size, store_size}
use Rattle.effect.specs.Notes.{Notes}
use Rattle.effect.specs.Effects.{Seen, seen}
use Rattle.instruction.specs.declared.Instruction.{Instruction}
use Rattle.instruction.specs.declared.Instruction.TheVariants.{Load, Store}
use Rattle.instruction.specs.declared.LoadKind.{LoadKind}
use Rattle.instruction.specs.declared.StoreKind.{StoreKind}
use Rattle.execute.specs.World.{World}
use Rattle.execute.specs.Execute.{execute}
use Rattle.execute.specs.Rules.{Rules, document_rules}
use Rattle.execute.specs.declared.Mode.{Mode}
use Rattle.execute.specs.declared.Went.TheVariants as W
use Rattle.pending.specs.Pending.{Lists}
use Rattle.pending.specs.declared.Room.{Room}
use Rattle.step.specs.Step.{step}
use Rattle.run.specs.Run.{Answer, run}
use Rattle.run.specs.contracts.run_plain
use Rattle.agreement.specs.Contracts.{Leaves, Allows, told_by, ran_to}

-- the least address, at or after the start of an access of size bytes, that has no byte in m; and it is one of the access
pub record FirstMissing (m : List ℕ) (start size missing : ℕ) : Type 0 where
  pub after : start ≤ missing
  pub none : length m ≤ missing
  pub least : (address : ℕ) → start ≤ address → length m ≤ address → missing ≤ address
  pub touched : missing < start + size

-- the instruction is a load or a store, and that byte is the first that its access lacks
pub data Lacks (v : Seen) (m : List ℕ) (missing : ℕ) : Instruction → Type 0 where
  load : {op : LoadKind} {rd rs1 imm : ℕ} → FirstMissing m (plus64 (v.value rs1) imm) (size_of (load_size op)) missing
      → Lacks v m missing (Load op rd rs1 imm)
  store : {op : StoreKind} {rs1 rs2 imm : ℕ} → FirstMissing m (plus64 (v.value rs1) imm) (size_of (store_size op)) missing
      → Lacks v m missing (Store op rs1 rs2 imm)

-- and so is the one at the pc
pub record LacksAtPc (R : Rules) (w : World) (missing : ℕ) : Type 0 where
  pub instruction : Instruction
  pub fetched : decode_in R.number (number_at 4 w.memory w.pc) ≡ Ok instruction
  pub lacks : Lacks (seen w.pc w.registers) w.memory missing instruction

-- Of every instruction, in either mode, with room for checks or without, under any notes: accumulated registers count by their values.
abbrev pub InstructionsNameMissing : Type 0
InstructionsNameMissing =
    (k : Mode) (room : Room) (N : Notes) (i : Instruction) (w : World) (r : Refusal) → (execute k room N i w).went ≡ W.Refused r → number_of r ≡ 2
    → Lacks (seen w.pc w.registers) w.memory (particular_of r) i

-- Of every step and of every run, by any rules: the instruction at the pc, which for a run is that at which it stopped.
abbrev pub StepsNameMissing : Type 0
StepsNameMissing =
    (k : Mode) (R : Rules) (w : World) (l : Lists) (r : Refusal) → (step k R w l).went ≡ W.Refused r → number_of r ≡ 2
    → LacksAtPc R w (particular_of r)

abbrev pub NamesMissing : Rules → Answer → Type 0
NamesMissing R a = (r : Refusal) → a.stop ≡ S.Refused r → number_of r ≡ 2 → LacksAtPc R a.world (particular_of r)

abbrev pub RunsNameMissing : Type 0
RunsNameMissing = (k : Mode) (R : Rules) (fuel : ℕ) (w : World) (l : Lists) → NamesMissing R (run k R fuel w l)

-- Of the code: of whatever a call of `run_plain` or of `run_deferred` leaves, as far as its own contract allows it.
abbrev pub AnswersNameMissing : Type 0
AnswersNameMissing =
    (k : Mode) (κs : Lfts 4) (a : Args run_plain.signature κs) (x : Leaves run_plain.ended κs a) → Allows run_plain.ended (told_by k) κs a x
    → NamesMissing document_rules (ran_to κs a x)
