-- The cases of the functions of normalize.rs, from what the code tests and calls.
use Prim.Native.Nat.{ℕ, ◌+◌, ◌*◌, ◌%◌, ◌^◌, ◌<◌, ◌≤◌}
use mathlib.Core.Path.{◌≡◌}
use mathlib.Core.Bool.{Bool, true, false, cond}
use lib.ListN.{get_or}
use borrow.Author.Tests.{lt-ltb, le-ltb, ne_eqb}
use Rattle.state.specs.Held.{low_of, high_of, waits, kept}
use Rattle.state.specs.declared.registers.Registers.{Registers}
use Rattle.state.specs.Registers.{holds, noted, place}
use Rattle.normalize.specs.Normalizing.{result_of, zeros, would_overflow, with_registers, made_whole, unneeded, malformed, normalized_to, normalize_register, normalize_and_write, normalize_if_near_overflow}
use Rattle.state.specs.declared.State.{State}
use Rattle.normalize.specs.declared.NormalizationResult.{NormalizationResult}

module _ (s : State) (n : ℕ) where
  pub whole-written : (v : ℕ) (R : Registers) → R ≡ place (n % 16) v false (noted s.registers n) s.registers → with_registers s R ≡ made_whole s n v
  unfolding kept waits
  whole-written v R e = rw e

  pub register-malformed : 16 ≤ n → malformed s ≡ normalize_register s n
  unfolding normalize_register
  register-malformed h = rw (le-ltb n 16 h)

  pub register-zero : n ≡ 0 → unneeded s ≡ normalize_register s n
  unfolding normalize_register
  register-zero e = rw e

  pub register-whole : n < 16 → (n ≡ 0 → ⊥) → waits (holds s.registers n) ≡ false → unneeded s ≡ normalize_register s n
  unfolding normalize_register
  register-whole h z e = rw (lt-ltb n 16 h, ne_eqb n 0 z, e)

  pub register-limbs : (low high : ℕ) → n < 16 → (n ≡ 0 → ⊥) → waits (holds s.registers n) ≡ true
      → low ≡ low_of (holds s.registers n) → high ≡ high_of (holds s.registers n) → normalize_and_write s n low high ≡ normalize_register s n
  unfolding normalize_register
  register-limbs low high h z e p q = rw (lt-ltb n 16 h, ne_eqb n 0 z, e, p, q)

  pub near-malformed : 16 ≤ n → malformed s ≡ normalize_if_near_overflow s n
  unfolding normalize_if_near_overflow
  near-malformed h = rw (le-ltb n 16 h)

  pub near-whole : n < 16 → waits (holds s.registers n) ≡ false → unneeded s ≡ normalize_if_near_overflow s n
  unfolding normalize_if_near_overflow
  near-whole h e = rw (lt-ltb n 16 h, e)

  pub near-limbs : (t : Bool) → n < 16 → waits (holds s.registers n) ≡ true
      → would_overflow (low_of (holds s.registers n)) (high_of (holds s.registers n)) ≡ t
      → cond t (normalize_register s n) (unneeded s) ≡ normalize_if_near_overflow s n
  unfolding normalize_if_near_overflow
  near-limbs t h e f = rw (lt-ltb n 16 h, e, f)

  module _ (low high : ℕ) where
    pub write-malformed : 16 ≤ n → malformed s ≡ normalize_and_write s n low high
    unfolding normalize_and_write
    write-malformed h = rw (le-ltb n 16 h)

    pub write-zero : n ≡ 0 → normalized_to zeros s ≡ normalize_and_write s n low high
    unfolding normalize_and_write
    write-zero e = rw e

    pub write-large : n < 16 → (n ≡ 0 → ⊥) → would_overflow low high ≡ true → malformed s ≡ normalize_and_write s n low high
    unfolding normalize_and_write
    write-large h z e = rw (lt-ltb n 16 h, ne_eqb n 0 z, e)

    pub write_done : (r : NormalizationResult) (t : State) → n < 16 → (n ≡ 0 → ⊥) → would_overflow low high ≡ false
        → r ≡ result_of low high → t ≡ made_whole s n (get_or r.normalized 0 0 + 2 ^ 20 * get_or r.normalized 1 0)
        → normalized_to r t ≡ normalize_and_write s n low high
    unfolding normalize_and_write
    write_done r t h z e p q = rw (lt-ltb n 16 h, ne_eqb n 0 z, e, q, p)
