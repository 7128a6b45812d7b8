-- The bits that a constant needs, by powers of two: it is below 2^bits, and no fewer bits hold it.
use mathlib.Core.Path.{◌≡◌, refl, subst}
use mathlib.Core.Logic.{◌⊎◌, inl, inr}
use Prim.Native.Nat.{ℕ, zero, suc, ◌+◌, ◌-◌, ◌*◌, ◌^◌, ◌≤◌, ◌<◌}
use native.Mathlib.Omega.{arith}
use lib.Count.{leading_length}
use Rattle.bound.specs.Bits.{bits_of}

both : (x : ℕ) → x < 2 ^ 64 → (x < 2 ^ bits_of x) × (2 ^ bits_of x ≤ 2 * x + 1)
unfolding bits_of
both x h =
    let found = leading_length 64 x h in
    let same : found.0 ≡ bits_of x = omega (arith, found.1) in
    (subst (λ (m : ℕ). x < 2 ^ m) same found.2, subst (λ (m : ℕ). 2 ^ m ≤ 2 * x + 1) same found.3)

pub holds-it : (x : ℕ) → x < 2 ^ 64 → x < 2 ^ bits_of x
holds-it x h = (both x h).0

pub no-fewer : (x : ℕ) → x < 2 ^ 64 → (bits_of x ≡ 0) ⊎ (2 ^ (bits_of x - 1) ≤ x)
no-fewer x h = by (bits_of x) (both x h).1
  where
    by : (b : ℕ) → 2 ^ b ≤ 2 * x + 1 → (b ≡ 0) ⊎ (2 ^ (b - 1) ≤ x)
    by zero l = inl refl
    by (suc b) l = inr (subst (λ (m : ℕ). 2 ^ m ≤ x) {x = b} {y = suc b - 1} (omega arith) (omega arith))
