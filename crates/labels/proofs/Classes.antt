-- Digits, letters and names by their bytes. Assumes nothing.
use Rattle.std.proofs.lemmas.Bool.{and_parts}
use mathlib.Core.Path.{◌≡◌, refl}
use mathlib.Core.Bool.{Bool, true, false, ◌&&◌, ◌||◌}
use Prim.Native.Nat.{ℕ, ◌≤◌, ◌<◌}
use native.Mathlib.Omega.{arith}
use lib.Dec.{leb}
use borrow.Author.Tests.{leb-true, lt-leb}
use Rattle.labels.specs.Bytes.{is_digit, is_letter, is_part}

pub digit_low : (b : ℕ) → is_digit b ≡ true → 48 ≤ b
digit_low b h = leb-true 48 b (and_parts (leb 48 b) (leb b 57) h).0

pub digit-high : (b : ℕ) → is_digit b ≡ true → b ≤ 57
digit-high b h = leb-true b 57 (and_parts (leb 48 b) (leb b 57) h).1

pub digit-no-letter : (b : ℕ) → is_digit b ≡ true → is_letter b ≡ false
digit-no-letter b h = let u = digit-high b h in simp (lt-leb 65 b (omega arith), lt-leb 97 b (omega arith))

pub or_cases : (a b : Bool) → a || b ≡ true → (P : Type 0) → (a ≡ true → P) → (b ≡ true → P) → P
or_cases true b h P f g = f refl
or_cases false b h P f g = g h

pub letter-low : (b : ℕ) → is_letter b ≡ true → 65 ≤ b
letter-low b h = or_cases (leb 65 b && leb b 90) (leb 97 b && leb b 122) h (65 ≤ b)
    (λ k. leb-true 65 b (and_parts (leb 65 b) (leb b 90) k).0)
    (λ k. let l : 97 ≤ b = leb-true 97 b (and_parts (leb 97 b) (leb b 122) k).0 in omega arith)

pub or-true : (a b : Bool) → a ≡ true → a || b ≡ true
or-true a b h = simp h

pub part-bounds : (b : ℕ) → is_part b ≡ true → (1 ≤ b) × (b < 256)
part-bounds b h = or_cases (is_letter b) (is_digit b) h ((1 ≤ b) × (b < 256))
    (λ k. or_cases (leb 65 b && leb b 90) (leb 97 b && leb b 122) k ((1 ≤ b) × (b < 256)) (by 65 90 (omega arith) (omega arith)) (by 97 122 (omega arith) (omega arith)))
    (by 48 57 (omega arith) (omega arith))
  where
    by : (lo hi : ℕ) → 1 ≤ lo → hi < 256 → leb lo b && leb b hi ≡ true → (1 ≤ b) × (b < 256)
    by lo hi x y k = let l = leb-true lo b (and_parts (leb lo b) (leb b hi) k).0 in let u = leb-true b hi (and_parts (leb lo b) (leb b hi) k).1 in (omega arith, omega arith)
