-- Integers that fit a signed 64-bit number. Assumes nothing.
use Rattle.std.proofs.Common.{◌≡◌, ℕ, ◌*◌, ◌^◌, ◌<◌, ◌≤◌, Bool, true, false, cond, ℤ, pos, negsuc, neg_ℤ, ◌-ℤ◌, ◌*ℤ◌, Option as RustOption, Some, None, FitsSigned, subst, refl, ap, ◌∙◌, arith, lt-ltb, le-ltb, ltb-true}
use Rattle.std.proofs.lemmas.Int.{ints, to_z-of_z}
use mir.Val.{of_z, to_z}
use Rattle.std.specs.Option.{SomeIff}
use Rattle.std.specs.Int.{w64}
use Rattle.sums.specs.Sums.{fits64, checked, dif}
use Rattle.sums.specs.Code.{value_read}

not-below : (n m : ℕ) → (n < m → ⊥) → m ≤ n
not-below n m h = omega arith

pub fitting : (r : RustOption ℤ) (z : ℤ) → SomeIff r (FitsSigned w64 z) z → checked z ≡ value_read r
unfolding checked
fitting (Some x) (pos n) h = let f = h.0 in let l : n < 2 ^ 63 = omega (arith, ints) in simp (lt-ltb n (2 ^ 63) l, h.1)
fitting (Some x) (negsuc n) h = let f = h.0 in let l : n < 2 ^ 63 = omega (arith, ints) in simp (lt-ltb n (2 ^ 63) l, h.1)
fitting None (pos n) h = let l = not-below n (2 ^ 63) (λ l. h (omega (arith, ints))) in simp (le-ltb n (2 ^ 63) l)
fitting None (negsuc n) h = let l = not-below n (2 ^ 63) (λ l. h (omega (arith, ints))) in simp (le-ltb n (2 ^ 63) l)

pub fitting_at : (r : RustOption ℤ) (y z : ℤ) → y ≡ z → SomeIff r (FitsSigned w64 z) z → checked y ≡ value_read r
fitting_at r y z e h = ap checked e ∙ fitting r z h

pub not-fitting : (z : ℤ) → (FitsSigned w64 z → ⊥) → checked z ≡ None
not-fitting z h = fitting None z h

pub negated : (v : ℕ) → neg_ℤ (pos v) ≡ pos 0 -ℤ pos v
negated v = omega (arith, ints)

-- ---- a distance in bytes is four times one in instructions
pub four-times : (a b : ℕ) → dif (4 * a) (4 * b) ≡ (pos a -ℤ pos b) *ℤ pos 4
unfolding dif
four-times a b = omega (arith, ints)

pub too_far : (a b : ℕ) → (FitsSigned w64 (pos a -ℤ pos b) → ⊥) → checked (dif (4 * a) (4 * b)) ≡ None
too_far a b h = fitting_at None _ _ (four-times a b) (λ f. h (omega (arith, ints)))

-- a value that was checked is the same as an `i64`
pub kept : (z x : ℤ) → checked z ≡ Some x → to_z w64 (of_z w64 x) ≡ x
unfolding checked
kept z x e = go z (fits64 z) refl e
  where
    go : (z : ℤ) (t : Bool) → fits64 z ≡ t → cond t (Some z) None ≡ Some x → to_z w64 (of_z w64 x) ≡ x
    go (pos n) true f e = let l = ltb-true n (2 ^ 63) f in let q : pos n ≡ x = cc in subst (λ (y : ℤ). to_z w64 (of_z w64 y) ≡ y) q (to_z-of_z w64 (pos n) (omega (arith, ints)))
    go (negsuc n) true f e = let l = ltb-true n (2 ^ 63) f in let q : negsuc n ≡ x = cc in subst (λ (y : ℤ). to_z w64 (of_z w64 y) ≡ y) q (to_z-of_z w64 (negsuc n) (omega (arith, ints)))
    go z false f e = absurd (cc)
