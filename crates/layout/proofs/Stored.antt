-- The parts of a state's and an answer's bytes: how long each is, and that storing them one after another stores the whole.
use Prim.Native.Nat.{ℕ, zero, suc, ◌+◌, ◌-◌, ◌*◌, ◌/◌, ◌%◌, ◌<◌, ◌≤◌}
use mathlib.Core.Path.{◌≡◌, refl, sym, ◌∙◌}
use mathlib.Core.Bool.{Bool, true, false}
use mathlib.Core.List.{List, ◌++◌}
use native.Mathlib.Omega.{arith}
use lib.ListN.{length, get_or, length-append}
use lib.Seq.{sets}
use Rattle.memory.specs.Bytes.{bit, bytes}
use Rattle.state.specs.Held.{Held, held_of}
use Rattle.state.specs.declared.registers.Registers.{Registers}
use Rattle.state.specs.declared.State.{State}
use Rattle.layout.specs.Layout.{HEADER_BYTES, RECORD_BYTES, STATE_BYTES, header_bytes, record_bytes, records, state_bytes, record_at, written}
use Rattle.layout.specs.Answer.{ANSWER_BYTES, answer_bytes}
use Rattle.layout.proofs.Rows.{sets-next, written_all}

pub length-header : (pc : ℕ) (halted : Bool) → length (header_bytes pc halted) ≡ HEADER_BYTES
unfolding header_bytes bytes
length-header pc halted = refl

pub length-record : (h : Held) (bound : ℕ) → length (record_bytes h bound) ≡ RECORD_BYTES
unfolding record_bytes bytes
length-record h bound = refl

pub length-records : (n i : ℕ) (R : Registers) → length (records n i R) ≡ RECORD_BYTES * n
unfolding records
length-records zero i R = refl
length-records (suc n) i R = simp (length-append, length-record, length-records n (i + 1) R) (omega arith)

pub length-state : (s : State) → length (state_bytes s) ≡ STATE_BYTES
unfolding state_bytes
length-state s = simp (length-append, length-header, length-records)

-- the mark's byte and its zeros, as one number
header_is : (pc : ℕ) (halted : Bool) → bytes 8 pc ++ bytes 8 (bit halted) ≡ header_bytes pc halted
unfolding header_bytes bytes
header_is pc true = refl
header_is pc false = refl

-- two bytes and six zeros, as one number
pub head-is : (head kind bound : ℕ) → head ≡ 256 * bound + kind → kind < 256 → bound < 256 → bytes 8 head ≡ bytes 1 kind ++ (bytes 1 bound ++ bytes 6 0)
unfolding bytes
head-is head kind bound is k b =
    let low : head % 256 ≡ kind % 256 = omega arith in
    let rest : head / 256 ≡ bound = omega arith in
    let none : bound / 256 ≡ 0 = omega arith in
    rw (low, rest, none)

pub state-stored : (s : State) (old : List ℕ) → length old ≡ STATE_BYTES
    → sets (sets old 0 (bytes 8 s.pc ++ bytes 8 (bit s.halted))) HEADER_BYTES (records 16 0 s.registers) ≡ written STATE_BYTES (state_bytes s) old
unfolding state_bytes
state-stored s old h =
    rw header_is (sets-next old 0 HEADER_BYTES (header_bytes s.pc s.halted) (records 16 0 s.registers) (rw length-header (omega arith)))
    ∙ written_all STATE_BYTES (state_bytes s) old h (length-state s)

length-answer : (code steps particular : ℕ) → length (answer_bytes code steps particular) ≡ ANSWER_BYTES
unfolding answer_bytes bytes
length-answer code steps particular = refl

pub answer-stored : (code steps particular : ℕ) (old : List ℕ) → length old ≡ ANSWER_BYTES
    → sets old 0 (answer_bytes code steps particular) ≡ written ANSWER_BYTES (answer_bytes code steps particular) old
answer-stored code steps particular old h = written_all ANSWER_BYTES (answer_bytes code steps particular) old h (length-answer code steps particular)

module _ (R : Registers) (l : List ℕ) (i : ℕ) where
  -- one more record stored
  pub records-more : i < 16
      → sets l (record_at i) (records (16 - i) i R)
      ≡ sets (sets l (record_at i) (record_bytes (held_of (get_or R.accumulated i false) (get_or R.values i 0)) (get_or R.bounds i 0))) (record_at (i + 1)) (records (16 - (i + 1)) (i + 1) R)
  unfolding records
  records-more h =
      let e : 16 - i ≡ suc (16 - (i + 1)) = omega arith in
      let m : i % 16 ≡ i = omega arith in
      let r = record_bytes (held_of (get_or R.accumulated i false) (get_or R.values i 0)) (get_or R.bounds i 0) in
      let d : record_at i + length r ≡ record_at (i + 1) = omega (arith, length-record (held_of (get_or R.accumulated i false) (get_or R.values i 0)) (get_or R.bounds i 0)) in
      rw (e, m) (sym (sets-next l (record_at i) (record_at (i + 1)) r (records (16 - (i + 1)) (i + 1) R) d))

  pub records-none : 16 ≤ i → sets l (record_at i) (records (16 - i) i R) ≡ l
  unfolding records
  records-none h =
      let e : 16 - i ≡ zero = omega arith in
      rw e
