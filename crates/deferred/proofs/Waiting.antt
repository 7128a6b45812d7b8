-- The limb forms, in the terms in which the code computes them.
use Prim.Native.Nat.{ℕ, ◌+◌, ◌*◌, ◌/◌, ◌%◌, ◌^◌, ◌<◌, ◌≤◌}
use mathlib.Core.Path.{◌≡◌, refl}
use mathlib.Core.Bool.{Bool, true, false, ◌&&◌}
use lib.Dec.{ltb}
use borrow.Author.Tests.{ltb-true, leb-true}
use native.Mathlib.Omega.{arith}
use Rattle.state.specs.Held.{Held, Whole, Limbs, value_of, low_of, high_of, settled, kept, waits}
use Rattle.state.specs.declared.registers.Registers.{Registers}
use Rattle.state.specs.Registers.{place}
use Rattle.state.proofs.Normal.{settled-whole}
use Rattle.deferred.specs.Limbs.{sum_into, covers}
use Rattle.deferred.specs.Plan.{limbs_of}
use Rattle.deferred.specs.declared.sums.Operand.{Operand}

both_true : (a b : Bool) → (a && b) ≡ true → (a ≡ true) × (b ≡ true)
both_true true b e = (refl, e)
both_true false b e = (e, cc)

pub fits-true : (low high : ℕ) → (ltb low (2 ^ 30) && ltb high (2 ^ 30)) ≡ true → (low < 2 ^ 30) × (high < 2 ^ 30)
fits-true low high e = let t = both_true _ _ e in (ltb-true _ _ t.0, ltb-true _ _ t.1)

pub covers-true : (x y : Held) → covers x y ≡ true → (low_of y ≤ low_of x) × (high_of y ≤ high_of x)
covers-true x y e = let t = both_true _ _ e in (leb-true _ _ t.0, leb-true _ _ t.1)

pub covers-limbs : (x y : Operand) → covers (limbs_of x) (limbs_of y) ≡ true → (y.low ≤ x.low) × (y.high ≤ x.high)
unfolding low_of high_of
covers-limbs x y e = covers-true (limbs_of x) (limbs_of y) e

module _ (rd n : ℕ) (x y : Operand) (R T : Registers) where
  pub waited : (ltb (x.low + y.low) (2 ^ 30) && ltb (x.high + y.high) (2 ^ 30)) ≡ true
      → place (rd % 16) (x.low + y.low + 2 ^ 30 * (x.high + y.high)) true n R ≡ sum_into rd (limbs_of x) (limbs_of y) n R T
  unfolding sum_into kept waits low_of high_of
  waited t = rw t

  -- a and c are the values of x and y
  pub forced : (a c : ℕ) → (ltb (x.low + y.low) (2 ^ 30) && ltb (x.high + y.high) (2 ^ 30)) ≡ false
      → a ≡ value_of (limbs_of x) → c ≡ value_of (limbs_of y)
      → place (rd % 16) (a % 2 ^ 20 + c % 2 ^ 20 + 2 ^ 30 * (a / 2 ^ 20 % 2 ^ 20 + c / 2 ^ 20 % 2 ^ 20)) true n T
      ≡ sum_into rd (limbs_of x) (limbs_of y) n R T
  unfolding sum_into kept waits low_of high_of
  forced a c t i j = rw (t, settled-whole (limbs_of x), settled-whole (limbs_of y), i, j)

-- a whole register's limbs, normalised as those of an accumulated one, are its limbs
settled-limbs : (h : Held) → (low_of (settled (Limbs (low_of h) (high_of h))) ≡ low_of (settled h)) × (high_of (settled (Limbs (low_of h) (high_of h))) ≡ high_of (settled h))
unfolding settled low_of high_of
settled-limbs (Whole n) = (omega arith, omega arith)
settled-limbs (Limbs low high) = (refl, refl)

pub sum-of-limbs : (rd : ℕ) (x y : Held) (n : ℕ) (R T : Registers)
    → sum_into rd (Limbs (low_of x) (high_of x)) (Limbs (low_of y) (high_of y)) n R T ≡ sum_into rd x y n R T
unfolding sum_into low_of high_of kept
sum-of-limbs rd x y n R T =
    rw ((settled-limbs x).0, (settled-limbs x).1, (settled-limbs y).0, (settled-limbs y).1)
