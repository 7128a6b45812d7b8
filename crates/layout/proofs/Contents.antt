-- What a register holds against the numbers of its record, each from the other; and the halt mark against its number.
use Prim.Native.Nat.{ℕ, ◌%◌, ◌^◌, ◌<◌, ◌≤◌}
use mathlib.Core.Path.{◌≡◌, refl, sym}
use mathlib.Core.Bool.{Bool, true, false, cond, ◌&&◌}
use native.Mathlib.Omega.{arith}
use lib.Dec.{ltb, eqb, lit<}
use borrow.Author.Tests.{eqb-true, eqb-false, ltb-true}
use Rattle.state.specs.Held.{Held, Whole, Limbs, low_of, held_of, kept, waits}
use Rattle.state.specs.Formed.{limbs_fit}
use Rattle.state.proofs.Normal.{held_kept}
use Rattle.memory.specs.Bytes.{bit}
use Rattle.layout.specs.Layout.{kind_of, first_of, second_of, held_by, numbers_fit}
use Rattle.layout.proofs.Tests.{both}

-- from the numbers
module _ (kind first second : ℕ) where
  pub waits-by : eqb kind 1 ≡ waits (held_by kind first second)
  unfolding held_by waits
  waits-by = by (eqb kind 1)
    where
      by : (t : Bool) → t ≡ waits (cond t (Limbs (first % 2 ^ 30) (second % 2 ^ 30)) (Whole first))
      by true = refl
      by false = refl

  pub held-packed : held_of (waits (held_by kind first second)) (kept (held_by kind first second)) ≡ held_by kind first second
  unfolding held_by low_of
  held-packed = by (eqb kind 1)
    where
      by : (t : Bool) → (let h = cond t (Limbs (first % 2 ^ 30) (second % 2 ^ 30)) (Whole first) in held_of (waits h) (kept h) ≡ h)
      by true = held_kept (Limbs (first % 2 ^ 30) (second % 2 ^ 30)) (omega arith)
      by false = held_kept (Whole first) (omega arith)

  pub numbers-kept : numbers_fit kind first second ≡ true
      → (kind_of (held_by kind first second) ≡ kind) × (first_of (held_by kind first second) ≡ first) × (second_of (held_by kind first second) ≡ second)
  unfolding numbers_fit held_by kind_of first_of second_of limbs_fit
  numbers-kept = by (eqb kind 1) refl
    where
      by : (t : Bool) → eqb kind 1 ≡ t → cond t (limbs_fit (Limbs first second)) (eqb kind 0 && eqb second 0) ≡ true
          → (let h = cond t (Limbs (first % 2 ^ 30) (second % 2 ^ 30)) (Whole first) in (kind_of h ≡ kind) × (first_of h ≡ first) × (second_of h ≡ second))
      by true k fit =
          let two = both (ltb first (2 ^ 30)) (ltb second (2 ^ 30)) fit in
          let low : first < 2 ^ 30 = ltb-true first (2 ^ 30) two.0 in
          let high : second < 2 ^ 30 = ltb-true second (2 ^ 30) two.1 in
          (sym (eqb-true kind 1 k), omega arith, omega arith)
      by false k fit =
          let two = both (eqb kind 0) (eqb second 0) fit in
          (sym (eqb-true kind 0 two.0), refl, sym (eqb-true second 0 two.1))

-- from what is held
pub held-by : (h : Held) → limbs_fit h ≡ true → held_by (kind_of h) (first_of h) (second_of h) ≡ h
unfolding held_by kind_of first_of second_of limbs_fit
held-by (Whole n) fit = refl
held-by (Limbs low high) fit =
    let two = both (ltb low (2 ^ 30)) (ltb high (2 ^ 30)) fit in
    let l : low % 2 ^ 30 ≡ low = omega (arith, ltb-true low (2 ^ 30) two.0) in
    let h : high % 2 ^ 30 ≡ high = omega (arith, ltb-true high (2 ^ 30) two.1) in
    rw (l, h)

pub numbers-fit : (h : Held) → limbs_fit h ≡ true → numbers_fit (kind_of h) (first_of h) (second_of h) ≡ true
unfolding numbers_fit kind_of first_of second_of
numbers-fit (Whole n) fit = refl
numbers-fit (Limbs low high) fit = fit

pub kind-small : (h : Held) → kind_of h < 2 ^ 8
unfolding kind_of
kind-small (Whole n) = lit< tt
kind-small (Limbs low high) = lit< tt

pub numbers-small : (f : Bool) (v : ℕ) → v < 2 ^ 64 → (first_of (held_of f v) < 2 ^ 64) × (second_of (held_of f v) < 2 ^ 64)
unfolding held_of first_of second_of
numbers-small true v h = (omega arith, omega arith)
numbers-small false v h = (h, lit< tt)

pub waits-held : (f : Bool) (v : ℕ) → waits (held_of f v) ≡ f
unfolding waits held_of
waits-held true v = refl
waits-held false v = refl

-- the mark
pub mark-back : (n : ℕ) → n ≤ 1 → bit (eqb n 1) ≡ n
mark-back n h = by (eqb n 1) refl
  where
    by : (t : Bool) → eqb n 1 ≡ t → bit t ≡ n
    by true e = sym (eqb-true n 1 e)
    by false e = omega (arith, eqb-false n 1 e)

pub mark-is : (t : Bool) → eqb (bit t) 1 ≡ t
mark-is true = refl
mark-is false = refl

pub mark-small : (t : Bool) → bit t ≤ 1
mark-small true = lit< tt
mark-small false = omega arith
