-- The largest product of numbers of some bits, and the low 40 bits of a product by parts.
use Rattle.std.proofs.Common.{◌≡◌, ℕ, ◌+◌, ◌-◌, ◌*◌, ◌/◌, ◌%◌, ◌^◌, ◌<◌, ◌≤◌, sym, ap, ◌∙◌, ap₂, mul-le-mul, arith}
use native.Mathlib.Nat.{mul-add-mod_self_right}

-- the largest product of a number of s bits and one of t
pub largest : (s t x y : ℕ) → x < 2 ^ s → y < 2 ^ t → x * y ≤ (2 ^ s - 1) * (2 ^ t - 1)
largest s t x y hx hy = mul-le-mul (omega arith) (omega arith)

expand : (A a1 a0 B b1 b0 q mid : ℕ) → a0 * b1 ≡ q * 2 ^ 16 + mid
    → (A * 2 ^ 40 + a1 * 2 ^ 24 + a0) * (B * 2 ^ 40 + b1 * 2 ^ 24 + b0)
    ≡ (A * B * 2 ^ 40 + A * b1 * 2 ^ 24 + A * b0 + B * a1 * 2 ^ 24 + B * a0 + a1 * b1 * 2 ^ 8 + q) * 2 ^ 40
    + ((a1 * 2 ^ 24 + a0) * b0 + mid * 2 ^ 24)
expand A a1 a0 B b1 b0 q mid e = omega arith

pub low_product : (a b : ℕ)
    → (a % 2 ^ 40 * (b % 2 ^ 24) + a % 2 ^ 24 * (b / 2 ^ 24 % 2 ^ 16) % 2 ^ 16 * 2 ^ 24) % 2 ^ 40 ≡ a * b % 2 ^ 40
low_product a b =
    sym (ap₂ (λ (x y : ℕ). x * y % 2 ^ 40) (digits a) (digits b)
    ∙ ap (λ (n : ℕ). n % 2 ^ 40)
    (expand (a / 2 ^ 40) (a / 2 ^ 24 % 2 ^ 16) (a % 2 ^ 24) (b / 2 ^ 40) (b / 2 ^ 24 % 2 ^ 16) (b % 2 ^ 24) (m / 2 ^ 16) (m % 2 ^ 16) (omega arith))
    ∙ mul-add-mod_self_right _ (2 ^ 40) _
    ∙ ap (λ (n : ℕ). (n * (b % 2 ^ 24) + m % 2 ^ 16 * 2 ^ 24) % 2 ^ 40) (omega arith))
  where
    digits : (n : ℕ) → n ≡ n / 2 ^ 40 * 2 ^ 40 + n / 2 ^ 24 % 2 ^ 16 * 2 ^ 24 + n % 2 ^ 24
    digits n = omega arith

    m : ℕ
    m = a % 2 ^ 24 * (b / 2 ^ 24 % 2 ^ 16)
