-- A test at each number below n, taken one by one.
use Prim.Native.Nat.{ℕ, zero, suc, ◌+◌, ◌<◌}
use mathlib.Core.Path.{◌≡◌, refl}
use mathlib.Core.Bool.{Bool, true, false, ◌&&◌}
use mathlib.Core.Logic.{⊎_elim}
use native.Mathlib.Nat.{eq-or-lt_of_le, le_of_suc-le-suc}
use native.Mathlib.Numerals.{add-one}
use native.Mathlib.Omega.{arith}
use Rattle.state.specs.Formed.{all_below}

module _ (p : ℕ → Bool) where
  pub all_none : all_below p 0 ≡ true
  unfolding all_below
  all_none = refl

  pub all_more : (n : ℕ) → all_below p n ≡ true → p n ≡ true → all_below p (n + 1) ≡ true
  unfolding all_below
  all_more n a b = rw add-one (simp (b, a))

  pub all-stop : (n i : ℕ) → i < n → p i ≡ false → all_below p n ≡ false
  unfolding all_below
  all-stop zero i h e = absurd (omega arith)
  all-stop (suc n) i h e =
      ⊎_elim
      (λ (q : i ≡ n). let f : p n ≡ false = rw q at e in simp f)
      (λ (l : i < n). simp (all-stop n i l e) (and-false (p n)))
      (eq-or-lt_of_le (le_of_suc-le-suc h))
    where
      and-false : (t : Bool) → (t && false) ≡ false
      and-false true = refl
      and-false false = refl
