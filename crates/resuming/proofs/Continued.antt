-- A call that goes on where another stopped on fuel.
use Prim.Native.Nat.{ℕ, zero, suc, ◌+◌, ◌/◌, ◌^◌, ◌<◌}
use mathlib.Core.Path.{◌≡◌, refl, ap, ◌∙◌}
use mathlib.Core.Bool.{Bool, true, false, cond, ◌&&◌}
use mathlib.Core.List.{List}
use native.Mathlib.Omega.{arith}
use lib.Dec.{eqb, leb, lit<}
use lib.ListN.{length}
use borrow.Author.Tests.{eq-eqb}
use Rattle.refusal.specs.Stops.{number_of, code_of, particular_at}
use Rattle.refusal.specs.declared.Refusal.{Refusal}
use Rattle.refusal.specs.declared.Refusal.TheVariants.{DivisorZero, Beyond, Misaligned, BadOpcode, UnusedBits, PcMisaligned, PcBeyond, ListFull, Malformed}
use Rattle.refusal.specs.declared.Stop.{Stop}
use Rattle.refusal.specs.declared.Stop.TheVariants as S
use Rattle.memory.specs.Bytes.{number_of_bytes, bytes}
use Rattle.memory.proofs.Numbers.{Small, number-bytes, bytes-number}
use Rattle.state.specs.Formed.{well_formed}
use Rattle.pending.specs.Pending.{Lists, no_lists}
use Rattle.execute.specs.World.{World, world_of}
use Rattle.execute.specs.Execute.{admits}
use Rattle.execute.specs.Rules.{document_rules}
use Rattle.run.specs.Run.{Answer, preceded, run}
use Rattle.layout.specs.Layout.{state_bytes, state_in, well_laid, admissible}
use Rattle.layout.specs.Shape.{Shaped}
use Rattle.layout.specs.Answer.{ANSWER_BYTES, answer_bytes}
use Rattle.layout.proofs.Round.{read_back, limbs-fit, written-laid, written-admissible}
use Rattle.layout.proofs.Shape.{shaped_in}
use Rattle.host.specs.Call.{mode_of, state_of, call_taken, call_served, ran_on, call_of}
use Rattle.agreement.specs.Fuel.{ran_dry, continued}
use Rattle.agreement.proofs.Cases.{test-case}
use Rattle.agreement.proofs.Formed.{both_true}
use Rattle.agreement.proofs.Capped.{document-capped}
use Rattle.agreement.proofs.Taken.{admits-after-run}
use Rattle.agreement.proofs.Runs.{admitted-formed}
use Rattle.agreement.proofs.Unlent.{run-unlisted}
use Rattle.agreement.proofs.InBits.{runs-stay-in-bits}
use Rattle.agreement.proofs.Fuel.{runs-within, runs-continue}
use Rattle.resuming.specs.Resuming.{AreBytes, steps_in, particular_in, called_on}
use Rattle.resuming.specs.Statements.{CallsContinue}

-- ---- the numbers of an answer
module _ (code steps particular : ℕ) where
  steps-told : steps < 2 ^ 64 → steps_in (answer_bytes code steps particular) ≡ steps
  unfolding answer_bytes bytes
  steps-told = number-bytes 8 steps

  particular-told : particular_in (answer_bytes code steps particular) ≡ number_of_bytes (bytes 8 particular)
  unfolding answer_bytes bytes
  particular-told = refl

bytes_small : (n v : ℕ) → Small (bytes n v)
unfolding bytes
bytes_small zero v k = lit< tt
bytes_small (suc n) v zero = omega arith
bytes_small (suc n) v (suc k) = bytes_small n (v / 256) k

bytes-again : (v : ℕ) → bytes 8 (number_of_bytes (bytes 8 v)) ≡ bytes 8 v
unfolding bytes
bytes-again v = bytes-number 8 (bytes 8 v) (bytes_small 8 v) (lit< tt)

answer-again : (code steps v : ℕ) → answer_bytes code steps (number_of_bytes (bytes 8 v)) ≡ answer_bytes code steps v
unfolding answer_bytes
answer-again code steps v = rw (bytes-again v)

-- ---- a stop on fuel is told by code 0
number-some : (r : Refusal) → eqb (number_of r) 0 ≡ false
number-some (DivisorZero pc) = refl
number-some (Beyond missing) = refl
number-some (Misaligned address) = refl
number-some (BadOpcode word) = refl
number-some (UnusedBits word) = refl
number-some (PcMisaligned pc) = refl
number-some (PcBeyond pc) = refl
number-some (ListFull pc) = refl
number-some Malformed = refl

dry-told : (s : Stop) → eqb (code_of s) 0 ≡ ran_dry s
unfolding ran_dry
dry-told S.Fuel = refl
dry-told S.Ebreak = refl
dry-told S.Ecall = refl
dry-told (S.Refused r) = number-some r

served-on : (a b : Answer) → a.steps + b.steps < 2 ^ 64 → call_served (continued a b) ≡ called_on (call_served a) (call_served b)
unfolding continued called_on
served-on a b h =
    rw (
      dry-told a.stop,
      steps-told (code_of a.stop) a.steps (particular_at a.stop) (omega arith),
      steps-told (code_of b.stop) b.steps (particular_at b.stop) (omega arith),
      particular-told (code_of b.stop) b.steps (particular_at b.stop),
      answer-again (code_of b.stop) (a.steps + b.steps) (particular_at b.stop),
    )
    (by (ran_dry a.stop))
  where
    by : (t : Bool) → call_served (cond t (preceded a.steps b) a) ≡ cond t (call_served (preceded a.steps b)) (call_served a)
    by true = refl
    by false = refl

-- ---- what a taken call leaves
module _ (st m an : List ℕ) (mode fuel : ℕ) (small : AreBytes st) (low : AreBytes m) (taken : call_taken st an mode ≡ true) where
  abbrev answered : Answer
  answered = ran_on mode fuel (state_in st) m

  abbrev left : World
  left = answered.world

  tests : (leb mode 1 ≡ true) × (admits (mode_of mode) (state_in st).registers ≡ true)
  unfolding call_taken
  tests =
      let two = both_true (eqb (length an) ANSWER_BYTES && leb mode 1 && well_laid st) (admits (mode_of mode) (state_in st).registers) taken in
      let first = both_true (eqb (length an) ANSWER_BYTES && leb mode 1) (well_laid st) two.0 in
      ((both_true (eqb (length an) ANSWER_BYTES) (leb mode 1) first.0).1, two.1)

  shaped : Shaped (state_of left)
  shaped = (runs-stay-in-bits document_rules document-capped (mode_of mode) fuel (world_of (state_in st) m) no_lists (record { state = shaped_in st small; bytes = low })).state

  admitted : admits (mode_of mode) left.registers ≡ true
  admitted = admits-after-run document_rules document-capped (mode_of mode) fuel (world_of (state_in st) m) no_lists tests.1

  formed : well_formed left.registers ≡ true
  formed = admitted-formed (mode_of mode) left.registers admitted

  pub state-back : state_in (state_bytes (state_of left)) ≡ state_of left
  state-back = read_back (state_of left) shaped (limbs-fit (state_of left) shaped formed)

  pub left-admissible : admissible (state_bytes (state_of left)) ≡ true
  left-admissible = written-admissible (state_of left) shaped formed

  pub taken-again : (again : List ℕ) → length again ≡ ANSWER_BYTES → call_taken (state_bytes (state_of left)) again mode ≡ true
  unfolding call_taken
  taken-again again e =
      rw (eq-eqb (length again) ANSWER_BYTES e, tests.0, written-laid (state_of left) shaped (limbs-fit (state_of left) shaped formed), state-back)
      admitted

  pub call-is : call_of st m an fuel mode ≡ call_served answered
  unfolding call_of
  call-is = rw taken

  -- the next call, on what it left
  next-is : (again : List ℕ) (g : ℕ) → length again ≡ ANSWER_BYTES
      → call_of (state_bytes (state_of left)) left.memory again g mode ≡ call_served (run (mode_of mode) document_rules g left no_lists)
  unfolding call_of
  next-is again g e = rw (taken-again again e, state-back)

module _ (st m an again : List ℕ) (f g mode : ℕ) where
  abbrev goes_on : Type 0
  goes_on = let a = call_of st m an f mode in call_of st m an (f + g) mode ≡ called_on a (call_of a.state a.memory again g mode)

  refused-on : call_taken st an mode ≡ false → goes_on
  unfolding call_of called_on
  refused-on e = rw e

  module _ (small : AreBytes st) (low : AreBytes m) (fits : f + g < 2 ^ 64) (long : length again ≡ ANSWER_BYTES) (taken : call_taken st an mode ≡ true) where
    served-twice : goes_on
    served-twice =
        let k = mode_of mode in
        let w = world_of (state_in st) m in
        let a = run k document_rules f w no_lists in
        let b = run k document_rules g a.world no_lists in
        let steps : a.steps + b.steps < 2 ^ 64 = omega (arith, runs-within document_rules k f w no_lists, runs-within document_rules k g a.world no_lists) in
        rw (call-is st m an mode (f + g) small low taken, call-is st m an mode f small low taken, next-is st m an mode f small low taken again g long)
        (ap call_served (runs-continue document_rules document-capped k f g w no_lists)
        ∙ ap (λ (l : Lists). call_served (continued a (run k document_rules g a.world l))) (run-unlisted f k document_rules w)
        ∙ served-on a b steps)

pub calls-continue : CallsContinue
calls-continue st m an again f g mode small low fits long =
    test-case (call_taken st an mode) (served-twice st m an again f g mode small low fits long) (refused-on st m an again f g mode)
