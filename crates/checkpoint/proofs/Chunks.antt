-- Zeros, a byte and a chunk at a time.
use Prim.Native.Nat.{ℕ, zero, suc, ◌+◌}
use mathlib.Core.Path.{◌≡◌, refl, ◌∙◌}
use mathlib.Core.Bool.{Bool, true, false, ◌&&◌}
use mathlib.Core.List.{List, [], ◌∷◌, ◌++◌}
use native.Mathlib.Omega.{arith}
use lib.Bits.{bit_or, or_zero_l, or_add_and, and_le_r}
use lib.Dec.{eqb}
use lib.ListN.{length, length-append}
use borrow.Author.Tests.{ne_eqb}
use Rattle.std.specs.List.{fold}
use Rattle.checkpoint.specs.Image.{all_zero}

zero-append : (a b : List ℕ) → all_zero (a ++ b) ≡ (all_zero a && all_zero b)
unfolding all_zero
zero-append [] b = refl
zero-append (x ∷ a) b = rw (zero-append a b) (by (eqb x 0))
  where
    by : (t : Bool) → (t && (all_zero a && all_zero b)) ≡ ((t && all_zero a) && all_zero b)
    by true = refl
    by false = refl

-- the bytes joined to those before them
pub joined-zero : (xs : List ℕ) (s : ℕ) → eqb (fold (λ found b. bit_or found b) s xs) 0 ≡ (eqb s 0 && all_zero xs)
unfolding all_zero
joined-zero [] s = by (eqb s 0)
  where
    by : (t : Bool) → t ≡ (t && true)
    by true = refl
    by false = refl
joined-zero (x ∷ xs) s = joined-zero xs (bit_or s x) ∙ by s x (all_zero xs)
  where
    by : (s x : ℕ) (r : Bool) → (eqb (bit_or s x) 0 && r) ≡ (eqb s 0 && (eqb x 0 && r))
    by zero x r = rw (or_zero_l x)
    by (suc s) x r =
        let some : bit_or (suc s) x ≡ 0 → ⊥ = λ q. omega (arith, or_add_and (suc s) x, and_le_r (suc s) x) in
        rw (ne_eqb (suc s) 0 (λ q. omega arith), ne_eqb (bit_or (suc s) x) 0 some)

pub zeros-more : (s x t : List ℕ) {z : Bool} → s ≡ x ++ t → all_zero x ≡ z → all_zero s ≡ (z && all_zero t)
zeros-more s x t is z = rw (is, ← z) (zero-append x t)

pub length-parts : (s x t : List ℕ) → s ≡ x ++ t → length s ≡ length x + length t
length-parts s x t is = rw is (length-append x t)
