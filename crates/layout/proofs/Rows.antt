-- Lists filled from the front: values stored one after another, and the entries of a table.
use Prim.Native.Nat.{ℕ, zero, suc, ◌+◌, ◌-◌, ◌<◌, ◌≤◌}
use mathlib.Core.Path.{◌≡◌, refl, ap, sym, ◌∙◌}
use mathlib.Core.List.{List, [], ◌∷◌, ◌++◌, append-nil}
use native.Mathlib.Omega.{arith}
use lib.ListN.{length, drop, get_or, set, drop_of_length-le}
use lib.Seq.{sets, sets-eq, ext_get_or}
use borrow.Author.Tests.{eq-eqb, ne_eqb}
use Rattle.layout.specs.Layout.{table, written}

module _ {A : Type 0} where
  pub sets-next : (l : List A) (at next : ℕ) (xs ys : List A) → at + length xs ≡ next → sets (sets l at xs) next ys ≡ sets l at (xs ++ ys)
  sets-next l at next [] ys e = let same : next ≡ at = omega arith in rw same
  sets-next l at next (x ∷ xs) ys e = sets-next (set l at x) (suc at) next xs ys (omega arith)

  pub sets-all : (l vs : List A) → length l ≡ length vs → sets l 0 vs ≡ vs
  sets-all l vs h =
      let room : 0 + length vs ≤ length l = omega arith in
      let none : drop (0 + length vs) l ≡ [] = drop_of_length-le l {i = 0 + length vs} (omega arith) in
      sets-eq vs l 0 room ∙ rw none (append-nil vs)

  pub length-table : (n i : ℕ) (f : ℕ → A) → length (table n i f) ≡ n
  unfolding table
  length-table zero i f = refl
  length-table (suc n) i f = ap suc (length-table n (i + 1) f)

  -- one more entry of a table
  pub table_more : (l : List A) (n i : ℕ) (f : ℕ → A) {x : A} → i < n → x ≡ f i
      → sets l i (table (n - i) i f) ≡ sets (set l i x) (i + 1) (table (n - (i + 1)) (i + 1) f)
  unfolding table
  table_more l n i f h one =
      let e : n - i ≡ suc (n - (i + 1)) = omega arith in
      let d : i + 1 ≡ suc i = omega arith in
      rw (one, e, d)

  -- a list that a table has filled
  pub filled : (n : ℕ) (l l₀ : List A) (i : ℕ) (f : ℕ → A) → n ≤ i → length l₀ ≡ n
      → sets l i (table (n - i) i f) ≡ sets l₀ 0 (table n 0 f) → l ≡ table n 0 f
  unfolding table
  filled n l l₀ i f h z inv =
      let e : n - i ≡ zero = omega arith in
      (rw e at inv) ∙ sets-all l₀ (table n 0 f) (z ∙ sym (length-table n 0 f))

  pub table_at : (n i k : ℕ) (f : ℕ → A) (d : A) → k < n → get_or (table n i f) k d ≡ f (i + k)
  unfolding table
  table_at zero i k f d h = absurd (omega arith)
  table_at (suc n) i zero f d h = let z : i + zero ≡ i = omega arith in rw z
  table_at (suc n) i (suc k) f d h = let z : i + suc k ≡ i + 1 + k = omega arith in rw z (table_at n (i + 1) k f d (omega arith))

  -- a table of a list's entries is the list
  pub table_of : (n : ℕ) (f : ℕ → A) (l : List A) (d : A) → length l ≡ n → ((k : ℕ) → k < n → f k ≡ get_or l k d) → table n 0 f ≡ l
  table_of n f l d long each =
      ext_get_or d (table n 0 f) l (length-table n 0 f ∙ sym long)
      (λ k h. let below : k < n = rw length-table at h in
      let z : 0 + k ≡ k = omega arith in
      table_at n 0 k f d below ∙ rw z (each k below))

-- a lent slice that is written, and one that isn't
module _ (size : ℕ) (new old : List ℕ) where
  pub written_all : length old ≡ size → length new ≡ size → sets old 0 new ≡ written size new old
  unfolding written
  written_all h n = rw (eq-eqb (length old) size h) (sets-all old new (h ∙ sym n))

  pub written_none : (length old ≡ size → ⊥) → old ≡ written size new old
  unfolding written
  written_none h = rw (ne_eqb (length old) size h)
