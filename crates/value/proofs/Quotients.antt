-- Signed division of patterns: by 0, of the pair that overflows, and by the machine's own division otherwise.
use Rattle.std.proofs.Common.{◌≡◌, ℕ, zero, suc, ◌-◌, ◌/◌, ◌^◌, ◌<◌, ◌≤◌, ℤ, pos, negsuc, neg_ℤ, sym, refl, ap, ◌∙◌, lt_of_le_of_lt, div-le_self, div-one, arith, to_z-of_z, w64, SFits, to_z, of_z}
use native.Mathlib.Nat.{div-zero, mod-zero, div-lt_self}
use lib.Signed.{quot_z, rem_z, mag, mag_rem}
use mir.Facts.{of_z-to_z, sfits_to_z}
use Rattle.value.specs.Division.{div_of, rem_of}

-- by 0
quot-zero : (z : ℤ) → of_z w64 (quot_z z (pos 0)) ≡ 0
quot-zero (pos n) = div-zero n
quot-zero (negsuc n) = rw (div-zero (suc n))

rem-zero : (z : ℤ) → rem_z z (pos 0) ≡ z
rem-zero (pos n) = ap pos (mod-zero n)
rem-zero (negsuc n) = rw (mod-zero (suc n))

pub div-by-zero : (a b : ℕ) → b ≡ 0 → 0 ≡ div_of a b
unfolding div_of
div-by-zero a b e = rw e (sym (quot-zero (to_z w64 a)))

pub rem-by-zero : (a b : ℕ) → a < 2 ^ 64 → b ≡ 0 → a ≡ rem_of a b
unfolding rem_of
rem-by-zero a b l e = rw e (sym (ap (of_z w64) (rem-zero (to_z w64 a)) ∙ of_z-to_z {w = w64} (record { fits = l })))

-- the pair
pub div-pair : (a b : ℕ) → a ≡ 2 ^ 63 → b ≡ 2 ^ 64 - 1 → a ≡ div_of a b
unfolding div_of
div-pair a b p q = rw (p, q)

pub rem-pair : (a b : ℕ) → a ≡ 2 ^ 63 → b ≡ 2 ^ 64 - 1 → 0 ≡ rem_of a b
unfolding rem_of
rem-pair a b p q = rw (p, q)

-- otherwise the quotient fits
mag-neg : (q : ℕ) {n : ℕ} → q ≤ n → 0 < n → mag (neg_ℤ (pos q)) < n
mag-neg zero h p = p
mag-neg (suc q) h p = h

quot_fits : (x y : ℤ) → SFits w64 x → (x ≡ negsuc (2 ^ 63 - 1) → y ≡ negsuc 0 → ⊥) → SFits w64 (quot_z x y)
quot_fits (pos a) (pos b) f n = record { sfits = lt_of_le_of_lt (div-le_self a b) f.sfits }
quot_fits (pos a) (negsuc b) f n =
    record { sfits = mag-neg (a / suc b) (omega (arith, div-le_self a (suc b), f.sfits)) (omega arith) }
quot_fits (negsuc a) (pos b) f n =
    record { sfits = mag-neg (suc a / b) (omega (arith, div-le_self (suc a) b, f.sfits)) (omega arith) }
quot_fits (negsuc a) (negsuc zero) f n =
    let other : a ≡ 2 ^ 63 - 1 → ⊥ = λ e. n (ap negsuc e) refl in
    record { sfits = omega (arith, div-one (suc a), f.sfits) }
quot_fits (negsuc a) (negsuc (suc b)) f n =
    record { sfits = omega (arith, div-lt_self {n = suc a} {k = suc (suc b)} (omega arith) (omega arith), f.sfits) }

-- a reading back at its pattern
read : (n : ℕ) (z : ℤ) → n < 2 ^ 64 → z ≡ to_z w64 n → to_z w64 (of_z w64 z) ≡ to_z w64 n
read n z l e = ap (to_z w64) (ap (of_z w64) e ∙ of_z-to_z {w = w64} (record { fits = l }))

unread : (n : ℕ) (z : ℤ) → n < 2 ^ 64 → to_z w64 n ≡ z → n ≡ of_z w64 z
unread n z l e = sym (of_z-to_z {w = w64} (record { fits = l })) ∙ ap (of_z w64) e

-- what the code computes, from its readings x and y of a and b
module _ (a b : ℕ) (la : a < 2 ^ 64) (lb : b < 2 ^ 64) (x y : ℤ) (ex : x ≡ to_z w64 a) (ey : y ≡ to_z w64 b) where
  reading-fits : SFits w64 (to_z w64 a)
  reading-fits = sfits_to_z {w = w64} (record { fits = la })

  quotient_fits : (a ≡ 2 ^ 63 → b ≡ 2 ^ 64 - 1 → ⊥) → SFits w64 (quot_z (to_z w64 a) (to_z w64 b))
  quotient_fits other = quot_fits (to_z w64 a) (to_z w64 b) reading-fits (λ p q. other (unread a _ la p) (unread b _ lb q))

  pub defined : (b ≡ 0 → ⊥) → (a ≡ 2 ^ 63 → b ≡ 2 ^ 64 - 1 → ⊥)
      → (0 < of_z w64 y) × SFits w64 (quot_z (to_z w64 (of_z w64 x)) (to_z w64 (of_z w64 y)))
  defined nonzero other = (omega (arith, unread b y lb (sym ey)), rw (read a x la ex, read b y lb ey) (quotient_fits other))

  result : (f : ℤ → ℤ → ℤ) → SFits w64 (f (to_z w64 a) (to_z w64 b))
      → of_z w64 (to_z w64 (of_z w64 (f (to_z w64 (of_z w64 x)) (to_z w64 (of_z w64 y))))) ≡ of_z w64 (f (to_z w64 a) (to_z w64 b))
  result f s = rw (read a x la ex, read b y lb ey) (ap (of_z w64) (to_z-of_z {w = w64} s))

  pub quotient : (a ≡ 2 ^ 63 → b ≡ 2 ^ 64 - 1 → ⊥)
      → of_z w64 (to_z w64 (of_z w64 (quot_z (to_z w64 (of_z w64 x)) (to_z w64 (of_z w64 y))))) ≡ div_of a b
  unfolding div_of
  quotient other = result quot_z (quotient_fits other)

  pub remainder : of_z w64 (to_z w64 (of_z w64 (rem_z (to_z w64 (of_z w64 x)) (to_z w64 (of_z w64 y))))) ≡ rem_of a b
  unfolding rem_of
  remainder = result rem_z (record { sfits = lt_of_le_of_lt (mag_rem (to_z w64 a) (to_z w64 b)) reading-fits.sfits })
