-- A shift that keeps the sign reads the upper bits: over the width and the shift.
use Rattle.std.proofs.Common.{◌≡◌, ℕ, suc, ◌+◌, ◌-◌, ◌*◌, ◌/◌, ◌%◌, ◌^◌, ◌<◌, ◌≤◌, ◌⊎◌, ℤ, pos, negsuc, ◌-ℤ◌, ap, ◌∙◌, inl, inr, lt_of_le_of_lt, mod-lt, le-div_iff_mul-le, arith, pow_pos, pow-add, shr_lt, to_z-of_z, w64, SFits, to_z, of_z, le-ltb, lt-ltb}
use lib.Signed.{shr_z, mag_shr}
use mir.Facts.{to_z_pos}
use lib.Pow.{split, high}
use Rattle.encoding.specs.Fields.{signed_of, extended}
use Rattle.encoding.proofs.Signs.{read_low, read-high}
use Rattle.value.proofs.Order.{side}

-- the bits of what is left to a power, from bit k on
rest : (j k x : ℕ) → x < 2 ^ (j + k) → (2 ^ (j + k) - suc x) / 2 ^ k ≡ 2 ^ j - suc (x / 2 ^ k)
rest j k x l =
    let q : x / 2 ^ k < 2 ^ j = shr_lt j k l in
    let r : x % 2 ^ k < 2 ^ k = mod-lt x (pow_pos k) in
    let n = 2 ^ j - suc (x / 2 ^ k) in
    let e : 2 ^ j ≡ n + suc (x / 2 ^ k) = omega arith in
    let whole : 2 ^ (j + k) ≡ (n + suc (x / 2 ^ k)) * 2 ^ k = pow-add 2 j k ∙ ap (λ (p : ℕ). p * 2 ^ k) e in
    let parts : 2 ^ (j + k) - suc x ≡ n * 2 ^ k + (2 ^ k - suc (x % 2 ^ k)) = omega (arith, whole, split x k) in
    ap (λ (y : ℕ). y / 2 ^ k) parts ∙ high n k (omega arith)

pub shr-signed : (j k x : ℕ) → x < 2 ^ suc (j + k) → shr_z (signed_of (j + k) x) (2 ^ k) ≡ signed_of j (x / 2 ^ k)
shr-signed j k x l = by (side x (2 ^ (j + k)))
  where
    e : suc (j + k) ≡ suc j + k
    e = omega arith

    fits : x < 2 ^ (suc j + k)
    fits = rw e at l

    by : (x < 2 ^ (j + k)) ⊎ (2 ^ (j + k) ≤ x) → shr_z (signed_of (j + k) x) (2 ^ k) ≡ signed_of j (x / 2 ^ k)
    by (inl p) = rw (read_low (j + k) x p, read_low j (x / 2 ^ k) (shr_lt j k p))
    by (inr p) =
        let more : 2 ^ j ≤ x / 2 ^ k = (le-div_iff_mul-le (pow_pos k)).1 (rw (pow-add 2 j k) at p) in
        rw (read-high (j + k) x p l, read-high j (x / 2 ^ k) more (shr_lt (suc j) k fits), e) (ap negsuc (rest (suc j) k x fits))

-- 32 bits stand for a number that 64 hold, shifted or not
signed-fits : (x : ℕ) → x < 2 ^ 32 → SFits w64 (signed_of 31 x)
signed-fits x l = by (side x (2 ^ 31))
  where
    by : (x < 2 ^ 31) ⊎ (2 ^ 31 ≤ x) → SFits w64 (signed_of 31 x)
    by (inl p) = rw (read_low 31 x p) (record { sfits = omega arith })
    by (inr p) = rw (read-high 31 x p l) (record { sfits = omega arith })

pub sign_kept : (k x : ℕ) (z : ℤ) → k < 32 → x < 2 ^ 32 → z ≡ signed_of 31 x
    → of_z w64 (to_z w64 (of_z w64 (shr_z (to_z w64 (of_z w64 z)) (2 ^ k)))) ≡ extended (31 - k) (x / 2 ^ k)
unfolding extended
sign_kept k x z small l e =
    let whole : 31 - k + k ≡ 31 = omega arith in
    let fits = signed-fits x l in
    let shifted : SFits w64 (shr_z (signed_of 31 x) (2 ^ k)) = record { sfits = lt_of_le_of_lt (mag_shr (signed_of 31 x) (2 ^ k)) fits.sfits } in
    let kept : shr_z (signed_of 31 x) (2 ^ k) ≡ signed_of (31 - k) (x / 2 ^ k) = rw whole at (shr-signed (31 - k) k x (rw whole l)) in
    rw (e, to_z-of_z {w = w64} fits, to_z-of_z {w = w64} shifted, kept)

-- 32 bits moved up by half of their range, modulo the range, and down again are what they stand for
module _ (x y : ℕ) (l : x < 2 ^ 32) (up : y ≡ (x + 2 ^ 31) % 2 ^ 32) where
  down : to_z w64 y -ℤ pos (2 ^ 31) ≡ signed_of 31 x
  down = rw (to_z_pos w64 {n = y} (omega arith)) (by (side x (2 ^ 31)))
    where
      by : (x < 2 ^ 31) ⊎ (2 ^ 31 ≤ x) → pos y -ℤ pos (2 ^ 31) ≡ signed_of 31 x
      by (inl p) = rw (read_low 31 x p, le-ltb y (2 ^ 31) (omega arith)) (ap pos (omega arith))
      by (inr p) = rw (read-high 31 x p l, lt-ltb y (2 ^ 31) (omega arith)) (ap negsuc (omega arith))

  pub down_fits : SFits w64 (to_z w64 y -ℤ pos (2 ^ 31))
  down_fits = rw down (signed-fits x l)

  pub down-reads : to_z w64 (of_z w64 (to_z w64 y -ℤ pos (2 ^ 31))) ≡ signed_of 31 x
  down-reads = to_z-of_z {w = w64} down_fits ∙ down
