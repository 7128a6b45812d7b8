-- Signed reading of a field of suc h bits, once over the width: what the code computes is `signed_of h`.
use mathlib.Core.Path.{◌≡◌, ◌∙◌}
use Prim.Native.Nat.{ℕ, zero, suc, ◌-◌, ◌^◌, ◌≤◌, ◌<◌}
use native.Mathlib.Nat.{not-suc-le-zero, lt_of_lt_of_le}
use native.Mathlib.Omega.{arith}
use borrow.Author.Tests.{lt-ltb, le-ltb}
use lib.IntN.{pos, negsuc, ◌-ℤ◌}
use mir.Syntax.{w32}
use mir.Val.{SFits, to_z, of_z}
use mir.Facts.{to_z_pos, to_z-of_z}
use Rattle.encoding.specs.Fields.{signed_of}

minus : (x m : ℕ) → x < m → pos x -ℤ pos m ≡ negsuc (m - suc x)
minus x zero h = absurd (not-suc-le-zero h)
minus x (suc m) h = rw (lt-ltb x (suc m) h)

pub low_read : (h x : ℕ) → x < 2 ^ h → 2 ^ h ≤ 2 ^ 31 → to_z w32 x ≡ signed_of h x
unfolding signed_of
low_read h x l b = rw (to_z_pos w32 {n = x} (lt_of_lt_of_le l b), lt-ltb x (2 ^ h) l)

pub high_fits : (h x : ℕ) → x < 2 ^ suc h → 2 ^ suc h < 2 ^ 31 → SFits w32 (to_z w32 x -ℤ pos (2 ^ suc h))
high_fits h x l b = rw (to_z_pos w32 {n = x} (omega arith), minus x (2 ^ suc h) l) (record { sfits = omega arith })

pub high_read : (h x : ℕ) → 2 ^ h ≤ x → x < 2 ^ suc h → 2 ^ suc h < 2 ^ 31
    → to_z w32 (of_z w32 (to_z w32 x -ℤ pos (2 ^ suc h))) ≡ signed_of h x
unfolding signed_of
high_read h x g l b = to_z-of_z {w = w32} (high_fits h x l b) ∙ rw (to_z_pos w32 {n = x} (omega arith), le-ltb x (2 ^ h) g)

-- the same at the two widths, with the number that the code has
pub high_imm : (x : ℕ) → 2 ^ 16 ≤ x → x < 2 ^ 17 → to_z w32 (of_z w32 (to_z w32 x -ℤ pos 131072)) ≡ signed_of 16 x
high_imm x g l = high_read 16 x g l (omega arith)

pub high_offset : (x : ℕ) → 2 ^ 20 ≤ x → x < 2 ^ 21 → to_z w32 (of_z w32 (to_z w32 x -ℤ pos 2097152)) ≡ signed_of 20 x
high_offset x g l = high_read 20 x g l (omega arith)

-- the definition's two cases, for callers
pub read_low : (h x : ℕ) → x < 2 ^ h → signed_of h x ≡ pos x
unfolding signed_of
read_low h x l = rw (lt-ltb x (2 ^ h) l)

pub read-high : (h x : ℕ) → 2 ^ h ≤ x → x < 2 ^ suc h → signed_of h x ≡ negsuc (2 ^ suc h - suc x)
unfolding signed_of
read-high h x g l = rw (le-ltb x (2 ^ h) g) (minus x (2 ^ suc h) l)
