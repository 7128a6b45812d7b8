-- Two tests at once, and a test at each number below n: taken whole and one by one.
use Prim.Native.Nat.{ℕ, zero, suc, ◌+◌, ◌<◌}
use mathlib.Core.Path.{◌≡◌, refl, sym, ◌∙◌}
use mathlib.Core.Bool.{Bool, true, false, ◌&&◌, and-eq-true_iff, and_assoc}
use native.Mathlib.Omega.{arith}
use native.Mathlib.Numerals.{add-one}
use Rattle.state.specs.Formed.{all_below}
use Rattle.state.proofs.Below.{all-stop}

pub both : (a b : Bool) → (a && b) ≡ true → (a ≡ true) × (b ≡ true)
both a b = (and-eq-true_iff a b).0

module _ (p : ℕ → Bool) where
  -- one more test, before those that were taken and another
  pub all-next : (i : ℕ) (t : Bool) → (p i && (all_below p i && t)) ≡ (all_below p (i + 1) && t)
  unfolding all_below
  all-next i t = rw (add-one, and_assoc)

  pub all-at : (n i : ℕ) → all_below p n ≡ true → i < n → p i ≡ true
  all-at n i all h = by (p i) refl
    where
      by : (t : Bool) → p i ≡ t → t ≡ true
      by true e = refl
      by false e = sym (all-stop p n i h e) ∙ all

  pub all_of : (n : ℕ) → ((i : ℕ) → i < n → p i ≡ true) → all_below p n ≡ true
  unfolding all_below
  all_of zero each = refl
  all_of (suc n) each = rw (each n (omega arith)) (all_of n (λ i h. each i (omega arith)))
