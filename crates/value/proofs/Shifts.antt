-- Shifts, over the width: by the width or more nothing is left, and a negative number is shifted as its complement.
use Rattle.std.proofs.Common.{◌≡◌, ℕ, suc, ◌-◌, ◌*◌, ◌/◌, ◌%◌, ◌^◌, ◌<◌, ◌≤◌, sym, ap, ◌∙◌, lt_of_lt_of_le, lt_of_le_of_lt, mod-eq_of_lt, mul_assoc, sub-add_cancel, arith, pow_mono, pow-add}
use native.Mathlib.Nat.{div-eq_of_lt, mul-mod_left}
use lib.Pow.{shr_le}
use Rattle.encoding.proofs.Signs.{read_low, read-high}
use Rattle.value.specs.Forty.{shr40, signed40, sra40}

pub shl-out : (w a k : ℕ) → w ≤ k → a * 2 ^ k % 2 ^ w ≡ 0
shl-out w a k h =
    ap (λ (n : ℕ). a * 2 ^ n % 2 ^ w) (sym (sub-add_cancel h))
    ∙ ap (λ (n : ℕ). a * n % 2 ^ w) (pow-add 2 (k - w) w)
    ∙ ap (λ (n : ℕ). n % 2 ^ w) (sym (mul_assoc a (2 ^ (k - w)) (2 ^ w)))
    ∙ mul-mod_left (a * 2 ^ (k - w)) (2 ^ w)

pub shr-out : (w a k : ℕ) → a < 2 ^ w → w ≤ k → a / 2 ^ k ≡ 0
shr-out w a k l h = div-eq_of_lt (lt_of_lt_of_le l (pow_mono h))

pub shr-small : (a k : ℕ) → shr40 a k < 2 ^ 40
unfolding shr40
shr-small a k = lt_of_le_of_lt (shr_le (a % 2 ^ 40) k) (omega arith)

pub sra-low : (a k : ℕ) → a % 2 ^ 40 < 2 ^ 39 → sra40 a k ≡ shr40 a k
unfolding sra40 signed40 shr40
sra-low a k l = rw (read_low 39 (a % 2 ^ 40) l) (mod-eq_of_lt (lt_of_le_of_lt (shr_le (a % 2 ^ 40) k) (omega arith)))

pub sra-high : (a k : ℕ) → 2 ^ 39 ≤ a % 2 ^ 40 → sra40 a k ≡ 2 ^ 40 - 1 - shr40 (2 ^ 40 - 1 - a % 2 ^ 40) k
unfolding sra40 signed40 shr40
sra-high a k g =
    rw (read-high 39 (a % 2 ^ 40) g (omega arith))
    (ap (λ (n : ℕ). 2 ^ 40 - 1 - n) (mod-eq_of_lt (lt_of_le_of_lt (shr_le (2 ^ 40 - suc (a % 2 ^ 40)) k) (omega arith))
    ∙ ap (λ (n : ℕ). n / 2 ^ k) (omega arith)))
