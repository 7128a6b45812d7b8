-- Document 01, "Words": the fields of a word, by plain arithmetic over the place and the width.
use Rattle.std.specs.Prelude.{ℕ, suc, ◌-◌, ◌/◌, ◌%◌, ◌^◌, Bool, cond, ◌&&◌, ◌||◌, ltb, leb, ℤ, pos, ◌-ℤ◌}
use Rattle.std.specs.Int.{w64}
use Rattle.std.proofs.Common.{of_z}

-- the k bits of n from bit j on
abbrev pub field : ℕ → ℕ → ℕ → ℕ
field j k n = n / 2 ^ j % 2 ^ k

-- the number that suc h bits stand for: with bit h set, 2 ^ suc h is subtracted
unfoldable pub signed_of : ℕ → ℕ → ℤ
signed_of h x = cond (ltb x (2 ^ h)) (pos x) (pos x -ℤ pos (2 ^ suc h))

-- that number modulo 2^64
unfoldable pub extended : ℕ → ℕ → ℕ
extended h x = of_z w64 (signed_of h x)

abbrev pub within : ℕ → ℕ → ℕ → Bool
within lo hi n = leb lo n && leb n hi

-- whether suc h bits hold the number that i stands for modulo 2^64: 0 to 2 ^ h - 1, or - 2 ^ h to - 1
unfoldable pub fits_in : ℕ → ℕ → Bool
fits_in h i = ltb i (2 ^ h) || within (2 ^ 64 - 2 ^ h) (2 ^ 64 - 1) i
