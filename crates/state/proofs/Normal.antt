-- Normalising limbs: once over the width, and what it means for a register.
use mathlib.Core.Path.{◌≡◌, refl, ap, ◌∙◌}
use mathlib.Core.Bool.{Bool, true, false}
use mathlib.Core.Logic.{◌≢◌}
use Prim.Native.Nat.{ℕ, zero, suc, ◌+◌, ◌*◌, ◌/◌, ◌%◌, ◌^◌, ◌<◌}
use native.Mathlib.Nat.{mod-lt, div-add-mod'}
use native.Mathlib.Omega.{arith}
use lib.ListN.{get_or}
use lib.Pow.{pow_pos, pow-add}
use lib.Seq.{get_or-set_other}
use Rattle.state.specs.Held.{Held, Whole, Limbs, low_of, high_of, value_of, normal, joined, settled, held_of, kept, waits}
use Rattle.state.specs.declared.registers.Registers.{Registers}
use Rattle.state.specs.Registers.{holds, place, normalise}
use Rattle.state.proofs.Files.{set_same}

module _ (width low high : ℕ) where
  pub limbs-small : ((normal width low high).low < 2 ^ width) × ((normal width low high).high < 2 ^ width)
  limbs-small = (mod-lt low (pow_pos width), mod-lt (high + low / 2 ^ width) (pow_pos width))

  -- the new sum and the last carry are the old sum: it is carry1 alone that leaves the register
  pub sum_kept :
      (normal width low high).low + 2 ^ width * (normal width low high).high + 2 ^ (width + width) * (normal width low high).carry1
      ≡ low + 2 ^ width * high
  sum_kept =
      ap (λ (p : ℕ). low % P + P * (s % P) + p * (s / P)) (pow-add 2 width width)
      ∙ upper P (low % P) (s % P) (s / P)
      ∙ ap (λ (n : ℕ). low % P + P * n) (div-add-mod' s P)
      ∙ lower P (low % P) high (low / P)
      ∙ ap (λ (n : ℕ). n + P * high) (div-add-mod' low P)
    where
      P : ℕ
      P = 2 ^ width

      s : ℕ
      s = high + low / 2 ^ width

      upper : (p a b c : ℕ) → a + p * b + p * p * c ≡ a + p * (c * p + b)
      upper p a b c = omega arith

      lower : (p a h q : ℕ) → a + p * (h + q) ≡ q * p + a + p * h
      lower p a h q = omega arith

-- at 20 bits, of the register: its new value and the last carry are the old sum
pub value-and-carry : (low high : ℕ) → joined (normal 20 low high) + 2 ^ 40 * (normal 20 low high).carry1 ≡ low + 2 ^ 20 * high
value-and-carry low high = sum_kept 20 low high

-- a normalised register is whole at its value, with limbs below 2^20
pub settled-whole : (h : Held) → settled h ≡ Whole (value_of h)
unfolding settled value_of
settled-whole (Whole n) = refl
settled-whole (Limbs low high) = ap Whole (omega arith)

pub whole-limbs : (n : ℕ) → (low_of (Whole n) < 2 ^ 20) × (high_of (Whole n) < 2 ^ 20)
unfolding low_of high_of
whole-limbs n = omega arith

-- no other register is touched, and every bound is kept
placed-other : (k v b : ℕ) (w : Bool) (R : Registers) (j : ℕ) → j ≢ k
    → held_of (get_or (place k v w b R).accumulated j false) (get_or (place k v w b R).values j 0)
    ≡ held_of (get_or R.accumulated j false) (get_or R.values j 0)
unfolding place
placed-other zero v b w R j e = refl
placed-other (suc k) v b w R j e = rw (get_or-set_other R.accumulated (suc k) j w false e, get_or-set_other R.values (suc k) j v 0 e)

pub others-stay : (n m : ℕ) (R : Registers) → m % 16 ≢ n % 16 → holds (normalise n R) m ≡ holds R m
unfolding normalise
others-stay n m R e = placed-other (n % 16) _ _ _ R (m % 16) e

placed-bound : (k v : ℕ) (w : Bool) (R : Registers) → (place k v w (get_or R.bounds k 0) R).bounds ≡ R.bounds
unfolding place
placed-bound zero v w R = refl
placed-bound (suc k) v w R = set_same R.bounds (suc k) 0

pub bounds-stay : (n : ℕ) (R : Registers) → (normalise n R).bounds ≡ R.bounds
unfolding normalise
bounds-stay n R = placed-bound (n % 16) _ _ R

-- what a register holds and how it is kept, each from the other
pub kept-held : (f : Bool) (v : ℕ) → kept (held_of f v) ≡ v
unfolding kept held_of
kept-held true v = omega arith
kept-held false v = refl

pub waits-held : (f : Bool) (v : ℕ) → waits (held_of f v) ≡ f
unfolding waits held_of
waits-held true v = refl
waits-held false v = refl

pub held_kept : (h : Held) → low_of h < 2 ^ 30 → held_of (waits h) (kept h) ≡ h
unfolding kept held_of waits low_of
held_kept (Whole n) l = refl
held_kept (Limbs low high) l =
    let a : (low + 2 ^ 30 * high) % 2 ^ 30 ≡ low = omega arith in
    let b : (low + 2 ^ 30 * high) / 2 ^ 30 ≡ high = omega arith in
    rw (a, b)
