-- The state bytes both ways: bytes that are well laid come back as they were; what is written of a state is read back, and is admissible
-- where the rules allow the state.
use Prim.Native.Nat.{ℕ, zero, suc, ◌+◌, ◌-◌, ◌*◌, ◌%◌, ◌^◌, ◌<◌, ◌≤◌}
use mathlib.Core.Path.{◌≡◌, refl, ap, sym, ◌∙◌}
use mathlib.Core.Bool.{true, false, ◌&&◌}
use mathlib.Core.List.{List, ◌++◌, append_assoc}
use native.Mathlib.Omega.{arith}
use native.Mathlib.Nat.{add-zero}
use lib.Dec.{leb, eqb}
use lib.ListN.{length, drop, get_or, drop_of_length-le}
use lib.Seq.{drop-drop, drop-append-add}
use borrow.Author.Tests.{eqb-true, leb-true, le-leb}
use Rattle.memory.specs.Bytes.{bit, bytes, number_of_bytes, number_at}
use Rattle.state.specs.Held.{Held, held_of, kept, waits}
use Rattle.state.specs.declared.registers.Registers.{Registers}
use Rattle.state.specs.Registers.{holds, noted}
use Rattle.state.specs.Formed.{limbs_fit, register_fits, zero_fits, all_below, well_formed}
use Rattle.state.specs.declared.State.{State}
use Rattle.state.proofs.Normal.{kept-held}
use Rattle.layout.specs.Layout.{HEADER_BYTES, RECORD_BYTES, STATE_BYTES, header_bytes, kind_of, first_of, second_of, record_bytes, records, state_bytes, record_at, kind_in, bound_in, zeros_in, first_in, second_in, held_in, state_in, numbers_fit, record_laid, well_laid, admissible}
use Rattle.layout.specs.Shape.{Shaped}
use Rattle.layout.proofs.Rows.{table_at, table_of}
use Rattle.memory.proofs.Numbers.{Small, number-bytes}
use Rattle.layout.proofs.Numbers.{read_next}
use Rattle.layout.proofs.Stored.{length-header, length-record, length-state}
use Rattle.layout.proofs.Tests.{both, all-at, all_of}
use Rattle.layout.proofs.Contents.{held-packed, numbers-kept, held-by, numbers-fit, kind-small, numbers-small, waits-held, mark-back, mark-is, mark-small}

-- read, then written
module _ (b : List ℕ) (small : Small b) (laid : well_laid b ≡ true) where
  tests : (length b ≡ STATE_BYTES) × (number_at 1 b 8 ≤ 1) × (number_at 7 b 9 ≡ 0) × (all_below (record_laid b) 16 ≡ true)
  unfolding well_laid
  tests =
      let size = eqb (length b) STATE_BYTES in
      let mark = leb (number_at 1 b 8) 1 in
      let zeros = eqb (number_at 7 b 9) 0 in
      let three = both (size && mark && zeros) (all_below (record_laid b) 16) laid in
      let two = both (size && mark) zeros three.0 in
      let one = both size mark two.0 in
      (eqb-true (length b) STATE_BYTES one.0, leb-true (number_at 1 b 8) 1 one.1, eqb-true (number_at 7 b 9) 0 two.1, three.1)

  holds_read : (i : ℕ) → i < 16 → holds (state_in b).registers i ≡ held_in b i
  unfolding state_in
  holds_read i h =
      let m : i % 16 ≡ i = omega arith in
      let z : 0 + i ≡ i = omega arith in
      rw (m, table_at 16 0 i (λ k. kept (held_in b k)) 0 h, table_at 16 0 i (λ k. waits (held_in b k)) false h, z)
      (held-packed (kind_in b i) (first_in b i) (second_in b i))

  noted_read : (i : ℕ) → i < 16 → noted (state_in b).registers i ≡ bound_in b i
  unfolding state_in
  noted_read i h =
      let m : i % 16 ≡ i = omega arith in
      let z : 0 + i ≡ i = omega arith in
      rw (m, table_at 16 0 i (bound_in b) 0 h, z)

  record-back : (i : ℕ) → i < 16 → record_bytes (held_in b i) (bound_in b i) ++ drop (record_at (i + 1)) b ≡ drop (record_at i) b
  unfolding record_laid record_bytes
  record-back i h =
      let long : length b ≡ STATE_BYTES = tests.0 in
      let two = both (eqb (zeros_in b i) 0) (numbers_fit (kind_in b i) (first_in b i) (second_in b i)) (all-at (record_laid b) 16 i tests.3 h) in
      let fit = numbers-kept (kind_in b i) (first_in b i) (second_in b i) two.1 in
      simp (
        append_assoc,
        read_next 8 b (record_at i + 16) (record_at (i + 1)) small (omega arith) (omega arith) fit.2,
        read_next 8 b (record_at i + 8) (record_at i + 16) small (omega arith) (omega arith) fit.1,
        read_next 6 b (record_at i + 2) (record_at i + 8) small (omega arith) (omega arith) (sym (eqb-true (zeros_in b i) 0 two.0)),
        read_next 1 b (record_at i + 1) (record_at i + 2) small (omega arith) (omega arith) refl,
        read_next 1 b (record_at i) (record_at i + 1) small (omega arith) (omega arith) fit.0,
      )

  records-back : (n i : ℕ) → i + n ≡ 16 → records n i (state_in b).registers ≡ drop (record_at i) b
  unfolding records
  records-back zero i e = sym (drop_of_length-le b {i = record_at i} (omega (arith, tests.0)))
  records-back (suc n) i e =
      rw (holds_read i (omega arith), noted_read i (omega arith), records-back n (i + 1) (omega arith)) (record-back i (omega arith))

  pub written_back : state_bytes (state_in b) ≡ b
  unfolding state_bytes state_in header_bytes
  written_back =
      let long : length b ≡ STATE_BYTES = tests.0 in
      rw (records-back 16 0 refl)
      (simp (
        append_assoc,
        read_next 7 b 9 HEADER_BYTES small refl (omega arith) (sym tests.2),
        read_next 1 b 8 9 small refl (omega arith) (mark-back (number_at 1 b 8) tests.1),
        read_next 8 b 0 8 small refl (omega arith) refl,
      ))

-- the numbers of a record that was written
module _ (h : Held) (bound : ℕ) (rest : List ℕ) where
  kind-written : number_at 1 (record_bytes h bound ++ rest) 0 ≡ kind_of h
  unfolding record_bytes bytes
  kind-written = number-bytes 1 (kind_of h) (kind-small h)

  bound-written : bound < 2 ^ 8 → number_at 1 (record_bytes h bound ++ rest) 1 ≡ bound
  unfolding record_bytes bytes
  bound-written = number-bytes 1 bound

  zeros-written : number_at 6 (record_bytes h bound ++ rest) 2 ≡ 0
  unfolding record_bytes bytes number_of_bytes
  zeros-written = refl

  first-written : first_of h < 2 ^ 64 → number_at 8 (record_bytes h bound ++ rest) 8 ≡ first_of h
  unfolding record_bytes bytes
  first-written = number-bytes 8 (first_of h)

  second-written : second_of h < 2 ^ 64 → number_at 8 (record_bytes h bound ++ rest) 16 ≡ second_of h
  unfolding record_bytes bytes
  second-written = number-bytes 8 (second_of h)

records-from : (n i k : ℕ) (R : Registers) → drop (RECORD_BYTES * k) (records (k + n) i R) ≡ records n (i + k) R
unfolding records
records-from n i zero R =
    let z : zero + n ≡ n = omega arith in
    rw (z, add-zero)
records-from n i (suc k) R =
    let r = record_bytes (holds R i) (noted R i) in
    let z : suc k + n ≡ suc (k + n) = omega arith in
    let d : RECORD_BYTES * suc k ≡ length r + RECORD_BYTES * k = omega (arith, length-record (holds R i) (noted R i)) in
    let e : i + suc k ≡ i + 1 + k = omega arith in
    rw (z, d, e) (drop-append-add r (records (k + n) (i + 1) R) (RECORD_BYTES * k) ∙ records-from n (i + 1) k R)

-- written, then read
module _ (s : State) (shape : Shaped s) (limbs : (i : ℕ) → i < 16 → limbs_fit (holds s.registers i) ≡ true) where
  -- a number of register i's record, at its place among the state's bytes
  number-from : (n off i : ℕ) {v : ℕ} → i < 16
      → ((rest : List ℕ) → number_at n (record_bytes (holds s.registers i) (noted s.registers i) ++ rest) off ≡ v)
      → number_at n (state_bytes s) (record_at i + off) ≡ v
  unfolding state_bytes records
  number-from n off i below read =
      let head = header_bytes s.pc s.halted in
      let a : record_at i ≡ length head + RECORD_BYTES * i = omega (arith, length-header s.pc s.halted) in
      let all : 16 ≡ i + suc (16 - (i + 1)) = omega arith in
      let o : 0 + i ≡ i = omega arith in
      let from : drop (record_at i) (state_bytes s) ≡ records (suc (16 - (i + 1))) i s.registers =
      rw a (drop-append-add head (records 16 0 s.registers) (RECORD_BYTES * i))
      ∙ ap (λ (k : ℕ). drop (RECORD_BYTES * i) (records k 0 s.registers)) all
      ∙ records-from (suc (16 - (i + 1))) 0 i s.registers
      ∙ ap (λ (k : ℕ). records (suc (16 - (i + 1))) k s.registers) o
      in
      rw (← drop-drop off (record_at i) (state_bytes s), from) (read _)

  module _ (i : ℕ) (below : i < 16) where
    numbers-read :
        (kind_in (state_bytes s) i ≡ kind_of (holds s.registers i))
        × (first_in (state_bytes s) i ≡ first_of (holds s.registers i))
        × (second_in (state_bytes s) i ≡ second_of (holds s.registers i))
    numbers-read =
        let z : record_at i ≡ record_at i + 0 = omega arith in
        let fits = numbers-small (get_or s.registers.accumulated (i % 16) false) (get_or s.registers.values (i % 16) 0) (shape.value-fits (i % 16)) in (
          rw z (number-from 1 0 i below (kind-written (holds s.registers i) (noted s.registers i))),
          number-from 8 8 i below (λ rest. first-written (holds s.registers i) (noted s.registers i) rest fits.0),
          number-from 8 16 i below (λ rest. second-written (holds s.registers i) (noted s.registers i) rest fits.1),
        )

    held-read : held_in (state_bytes s) i ≡ held_of (get_or s.registers.accumulated i false) (get_or s.registers.values i 0)
    held-read =
        let m : i % 16 ≡ i = omega arith in
        let e = numbers-read in
        rw (e.0, e.1, e.2) (held-by (holds s.registers i) (limbs i below) ∙ rw m)

    bound-read : bound_in (state_bytes s) i ≡ get_or s.registers.bounds i 0
    bound-read =
        let m : i % 16 ≡ i = omega arith in
        number-from 1 1 i below (λ rest. bound-written (holds s.registers i) (noted s.registers i) rest (shape.bound-fits (i % 16))) ∙ rw m

    laid-read : record_laid (state_bytes s) i ≡ true
    unfolding record_laid
    laid-read =
        let e = numbers-read in
        rw (number-from 6 2 i below (zeros-written (holds s.registers i) (noted s.registers i)), e.0, e.1, e.2)
        (numbers-fit (holds s.registers i) (limbs i below))

  pc-read : number_at 8 (state_bytes s) 0 ≡ s.pc
  unfolding state_bytes header_bytes bytes
  pc-read = number-bytes 8 s.pc shape.pc-fits

  mark-read : number_at 1 (state_bytes s) 8 ≡ bit s.halted
  unfolding state_bytes header_bytes bytes
  mark-read = number-bytes 1 (bit s.halted) (omega (arith, mark-small s.halted))

  zeros-read : number_at 7 (state_bytes s) 9 ≡ 0
  unfolding state_bytes header_bytes bytes number_of_bytes
  zeros-read = refl

  pub read_back : state_in (state_bytes s) ≡ s
  unfolding state_in
  read_back =
      rw (
        pc-read,
        mark-read,
        mark-is s.halted,
        table_of 16 (λ i. kept (held_in (state_bytes s) i)) s.registers.values 0 shape.values_long (λ i h. ap kept (held-read i h) ∙ kept-held _ _),
        table_of 16 (λ i. waits (held_in (state_bytes s) i)) s.registers.accumulated false shape.accumulated-long (λ i h. ap waits (held-read i h) ∙ waits-held _ _),
        table_of 16 (bound_in (state_bytes s)) s.registers.bounds 0 shape.bounds-long bound-read,
      )

  pub written-laid : well_laid (state_bytes s) ≡ true
  unfolding well_laid
  written-laid = rw (length-state s, mark-read, le-leb _ _ (mark-small s.halted), zeros-read) (all_of (record_laid (state_bytes s)) 16 laid-read)

module _ (s : State) (shape : Shaped s) (formed : well_formed s.registers ≡ true) where
  pub limbs-fit : (i : ℕ) → i < 16 → limbs_fit (holds s.registers i) ≡ true
  unfolding well_formed register_fits
  limbs-fit i h =
      let all = (both (zero_fits s.registers) (all_below (register_fits s.registers) 16) formed).1 in
      (both (leb (noted s.registers i) 64) (limbs_fit (holds s.registers i)) (all-at (register_fits s.registers) 16 i all h)).1

  pub written-admissible : admissible (state_bytes s) ≡ true
  unfolding admissible
  written-admissible = rw (written-laid s shape limbs-fit, read_back s shape limbs-fit) formed
