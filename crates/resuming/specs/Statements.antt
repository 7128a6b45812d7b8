-- "A run resumed in memory of the same length, with the same choices, continues as the unbroken one would".
use Rattle.std.specs.Prelude.{ℕ, ◌+◌, ◌^◌, ◌<◌, ◌≡◌, true, List, length, take}
use contract.Lifetimes.{Lfts}
use denote.Triple.Entry.{Args}
use Rattle.state.specs.Formed.{all_whole}
use Rattle.layout.specs.Layout.{STATE_BYTES, state_in}
use Rattle.layout.specs.Answer.{ANSWER_BYTES}
use Rattle.host.specs.Call.{call_taken, call_of}
use Rattle.told.specs.Told.{done_told}
use Rattle.told.specs.declared.Told.{Told}
use Rattle.checkpoint.specs.Calls.{memory_fits, wrote, writable, writing_of, ReadLeaves}
use Rattle.host.specs.contracts.zkir_run
use Rattle.host.proofs.zkir_run as zkir_run_told
use Rattle.checkpoint.specs.contracts.zkir_checkpoint_write
use Rattle.checkpoint.proofs.zkir_checkpoint_write as zkir_checkpoint_write_told
use Rattle.checkpoint.specs.contracts.zkir_checkpoint_read
use Rattle.checkpoint.proofs.zkir_checkpoint_read as zkir_checkpoint_read_told
use Rattle.agreement.specs.Reading.{read_call}
use Rattle.agreement.specs.Contracts.{Leaves, Allows, call_given, mode_given, called_to}
use Rattle.resuming.specs.Resuming.{AreBytes, called_on}
use Rattle.resuming.specs.Contracts.{machine_given, machine_left, machine_to_write, output_left, image_to_read, machine_lent, machine_read}

-- Of the host's call, down to its bytes: a call with f + g fuel leaves what the call with f leaves and then, where that stopped on fuel, the
-- call with g on the state and memory that it left.
abbrev pub CallsContinue : Type 0
CallsContinue =
    (st m an again : List ℕ) (f g mode : ℕ) → AreBytes st → AreBytes m → f + g < 2 ^ 64 → length again ≡ ANSWER_BYTES
    → let a = call_of st m an f mode in call_of st m an (f + g) mode ≡ called_on a (call_of a.state a.memory again g mode)

-- What a call leaves that was taken can be written as an image, whatever it stopped for.
abbrev pub StopsAreWritable : Type 0
StopsAreWritable =
    (st m an : List ℕ) (fuel mode : ℕ) → AreBytes st → AreBytes m → call_taken st an mode ≡ true → memory_fits (length m) ≡ true
    → let a = call_of st m an fuel mode in writable a.state a.memory ≡ true

-- So with an image between the two: what the first call left was written, n bytes of it, and read into other state bytes and another memory
-- of the same length, whatever they held; the second call goes on from what was read.
abbrev pub ResumedCallsContinue : Type 0
ResumedCallsContinue =
    (st m an again output after room spare s' m' : List ℕ) (f g mode n : ℕ) (t : Told)
    → AreBytes st → AreBytes m → f + g < 2 ^ 64 → length again ≡ ANSWER_BYTES → length room ≡ STATE_BYTES → length spare ≡ length m
    → let a = call_of st m an f mode in writing_of a.state a.memory output ≡ wrote (done_told n) after
    → ReadLeaves (take n after) room spare t s' m' → call_of st m an (f + g) mode ≡ called_on a (call_of s' m' again g mode)

-- Of the code: whatever five calls leave, as far as their own contracts allow it. The first, of `zkir_run`, has all the fuel; the others are
-- `zkir_run` with a part of it, the writing of what that left, the reading of what was written, and `zkir_run` with the rest on what was read.
-- That what is lent is bytes, and the fuel a number of 64 bits, is so by their types.
abbrev pub HostCallsResume : Type 0
HostCallsResume =
    (κs ρs σs τs υs : Lfts 3) (whole : Args zkir_run.signature κs) (first : Args zkir_run.signature ρs)
    → (writing : Args zkir_checkpoint_write.signature σs) (reading : Args zkir_checkpoint_read.signature τs) (rest : Args zkir_run.signature υs)
    → (x : Leaves zkir_run.ended κs whole) (a : Leaves zkir_run.ended ρs first)
    → (w : Leaves zkir_checkpoint_write.ended σs writing) (r : Leaves zkir_checkpoint_read.ended τs reading) (b : Leaves zkir_run.ended υs rest)
    → AreBytes (machine_given κs whole).state → AreBytes (machine_given κs whole).memory → (call_given κs whole).fuel < 2 ^ 64
    → Allows zkir_run.ended zkir_run_told.Reads.Learnt κs whole x → Allows zkir_run.ended zkir_run_told.Reads.Learnt ρs first a
    → Allows zkir_checkpoint_write.ended zkir_checkpoint_write_told.Reads.Learnt σs writing w
    → Allows zkir_checkpoint_read.ended zkir_checkpoint_read_told.Reads.Learnt τs reading r
    → Allows zkir_run.ended zkir_run_told.Reads.Learnt υs rest b
    → machine_given κs whole ≡ machine_given ρs first → (call_given κs whole).answer ≡ (call_given ρs first).answer
    → (call_given ρs first).fuel + (call_given υs rest).fuel ≡ (call_given κs whole).fuel
    → mode_given ρs first ≡ mode_given κs whole → mode_given υs rest ≡ mode_given κs whole
    → machine_to_write σs writing ≡ machine_left ρs first a
    → (n : ℕ) → w.0 ≡ done_told n → image_to_read τs reading ≡ take n (output_left σs writing w)
    → length (machine_lent τs reading).state ≡ STATE_BYTES → length (machine_lent τs reading).memory ≡ length (machine_given κs whole).memory
    → machine_given υs rest ≡ machine_read τs reading r → length (call_given υs rest).answer ≡ ANSWER_BYTES
    → called_to κs whole x ≡ called_on (called_to ρs first a) (called_to υs rest b)

-- "demand 3 starts only from images without accumulated registers": one such image, read twice, into memories of one length, and run in the
-- two modes: the same result, memory and answer bytes, and state bytes that read alike.
abbrev pub ImagesAgree : Type 0
ImagesAgree =
    (image room spare room' spare' s m s' m' an : List ℕ) (fuel : ℕ) → length spare ≡ length spare'
    → ReadLeaves image room spare (done_told 0) s m → ReadLeaves image room' spare' (done_told 0) s' m' → all_whole (state_in s).registers.accumulated ≡ true
    → read_call (call_of s m an fuel 1) ≡ read_call (call_of s' m' an fuel 0)
