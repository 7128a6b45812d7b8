-- A product in columns of 20 bits: no column overflows, and columns 2 and 3 are its bits 40 to 79.
use Rattle.std.proofs.Common.{◌≡◌, ℕ, zero, suc, ◌+◌, ◌-◌, ◌*◌, ◌/◌, ◌%◌, ◌^◌, ◌<◌, ◌≤◌, sym, ap, ◌∙◌, ap₂, mul-le-mul_right, mod-eq_of_lt, arith, w64, Fits}
use native.Mathlib.Nat.{mul-div-le, mul-add-mod_self_right}
use lib.Arith.{digits_div}
use Rattle.value.proofs.Products.{largest}

-- column k of an operand, the fourth being all that is left
abbrev pub digit : ℕ → ℕ → ℕ
digit n zero = n % 2 ^ 20
digit n (suc zero) = n / 2 ^ 20 % 2 ^ 20
digit n (suc (suc zero)) = n / 2 ^ 20 / 2 ^ 20 % 2 ^ 20
digit n (suc (suc (suc k))) = n / 2 ^ 20 / 2 ^ 20 / 2 ^ 20

-- the products x 0 * y (j + k) to x j * y k, which column j + k adds
abbrev pub products : (ℕ → ℕ) → (ℕ → ℕ) → ℕ → ℕ → ℕ
products x y zero k = x zero * y k
products x y (suc j) k = products x y j (suc k) + x (suc j) * y k

-- column k of the product, with the carry from the column before it
abbrev column : (ℕ → ℕ) → (ℕ → ℕ) → ℕ → ℕ
column x y zero = products x y zero zero
column x y (suc k) = products x y (suc k) zero + column x y k / 2 ^ 20

-- Why nothing overflows: column k adds k + 1 products of numbers below 2^20, and half at most of a column that fits.
products-below : (x y : ℕ → ℕ) → ((k : ℕ) → x k < 2 ^ 20) → ((k : ℕ) → y k < 2 ^ 20) → (j k : ℕ)
    → products x y j k ≤ suc j * ((2 ^ 20 - 1) * (2 ^ 20 - 1))
products-below x y p q zero k = largest 20 20 (x zero) (y k) (p zero) (q k)
products-below x y p q (suc j) k =
    omega (arith, largest 20 20 (x (suc j)) (y k) (p (suc j)) (q k), products-below x y p q j (suc k))

pub sum_below : (a b : ℕ) → a < 2 ^ 64 → b < 2 ^ 64 → (k : ℕ)
    → products (digit a) (digit b) k 0 ≤ suc k * ((2 ^ 20 - 1) * (2 ^ 20 - 1))
sum_below a b p q k = products-below (digit a) (digit b) (digit-below a p) (digit-below b q) k 0
  where
    digit-below : (n : ℕ) → n < 2 ^ 64 → (k : ℕ) → digit n k < 2 ^ 20
    digit-below n l zero = omega arith
    digit-below n l (suc zero) = omega arith
    digit-below n l (suc (suc zero)) = omega arith
    digit-below n l (suc (suc (suc k))) = omega arith

pub column_fits : (sum before base : ℕ) → sum < 2 ^ 63 → Fits w64 before → 2 ≤ base → Fits w64 (sum + before / base)
column_fits sum before base s f b =
    record { fits = omega (arith, f.fits, mul-div-le before base, mul-le-mul_right (before / base) b) }

-- with a sum both that it adds fit (docs/changes/A4.md names the two)
pub left-fits : (x y : ℕ) → Fits w64 (x + y) → Fits w64 x
left-fits x y f = record { fits = omega (arith, f.fits) }

pub right-fits : (x y : ℕ) → Fits w64 (x + y) → Fits w64 y
right-fits x y f = record { fits = omega (arith, f.fits) }

-- what four columns amount to
abbrev joined : (ℕ → ℕ) → ℕ
joined x = x 3 * 2 ^ 60 + x 2 * 2 ^ 40 + x 1 * 2 ^ 20 + x 0

whole : (n : ℕ) → n ≡ joined (digit n)
whole n = omega arith

expand : (x y : ℕ → ℕ) → joined x * joined y
    ≡ (x 3 * y 3 * 2 ^ 40 + (x 2 * y 3 + x 3 * y 2) * 2 ^ 20 + (x 1 * y 3 + x 2 * y 2 + x 3 * y 1)) * 2 ^ 80
    + joined (λ k. products x y k 0)
expand x y = omega arith

-- What a column keeps and what it carries are all of it: so columns 2 and 3 hold what the number does.
carried : (x y : ℕ → ℕ) (n above : ℕ) → n ≡ above * 2 ^ 80 + joined (λ k. products x y k 0)
    → column x y 3 % 2 ^ 20 * 2 ^ 20 + column x y 2 % 2 ^ 20 ≡ n / 2 ^ 40 % 2 ^ 40
carried x y n above e =
    sym (ap (λ (m : ℕ). m / 2 ^ 40 % 2 ^ 40) split
    ∙ ap (λ (m : ℕ). m % 2 ^ 40) (digits_div (over * 2 ^ 40 + kept) {m = 2 ^ 40} {r = below} (omega arith))
    ∙ mul-add-mod_self_right over (2 ^ 40) kept ∙ mod-eq_of_lt (omega arith))
  where
    below : ℕ
    below = column x y 1 % 2 ^ 20 * 2 ^ 20 + column x y 0 % 2 ^ 20

    kept : ℕ
    kept = column x y 3 % 2 ^ 20 * 2 ^ 20 + column x y 2 % 2 ^ 20

    over : ℕ
    over = above + column x y 3 / 2 ^ 20

    split : n ≡ (over * 2 ^ 40 + kept) * 2 ^ 40 + below
    split = omega arith

pub columns-2-and-3 : (a b : ℕ)
    → column (digit a) (digit b) 3 % 2 ^ 20 * 2 ^ 20 + column (digit a) (digit b) 2 % 2 ^ 20 ≡ a * b / 2 ^ 40 % 2 ^ 40
columns-2-and-3 a b =
    carried (digit a) (digit b) (a * b) _ (ap₂ (λ (x y : ℕ). x * y) (whole a) (whole b) ∙ expand (digit a) (digit b))
