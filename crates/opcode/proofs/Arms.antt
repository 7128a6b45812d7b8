-- An enum whose variants hold nothing: what is computed over the list of its variants holds of each of its values.
use mathlib.Core.Path.{◌≡◌, sym, ap, ◌∙◌}
use mathlib.Core.List.{List, [], ◌∷◌, map}
use mathlib.Core.Logic.{inl, inr}
use mathlib.Core.Bool.{Bool, cond}
use Prim.Native.Nat.{ℕ, suc}
use lib.ListN.{get_or, get_or-map}
use types.Run.{OneOf}

alike : {A : Type 0} (f g : ℕ → A) (ks : List ℕ) (t : ℕ) → map f ks ≡ map g ks → OneOf ks t → f t ≡ g t
alike f g [] t e h = absurd h
alike f g (k ∷ []) t e h = let p : f k ≡ g k = cc in ap f h ∙ p ∙ ap g (sym h)
alike f g (k ∷ (j ∷ ks)) t e (inl h) = let p : f k ≡ g k = cc in ap f h ∙ p ∙ ap g (sym h)
alike f g (k ∷ (j ∷ ks)) t e (inr h) = alike f g (j ∷ ks) t (cc) h

-- the places of the entries that pass a test, counted from k
abbrev pub those : {X : Type 0} → (X → Bool) → ℕ → List X → List ℕ
those f k [] = []
those f k (x ∷ xs) = cond (f x) (k ∷ those f (suc k) xs) (those f (suc k) xs)

module _ {X : Type 0} (xs : List X) (d : X) (tag : X → ℕ) (at : (x : X) → get_or xs (tag x) d ≡ x) where
  -- two tables with the same entries at the variants that an arm takes
  pub along : {A : Type 0} (f g : X → A) (ks : List ℕ) → map (λ (k : ℕ). f (get_or xs k d)) ks ≡ map (λ (k : ℕ). g (get_or xs k d)) ks
      → (x : X) → OneOf ks (tag x) → f x ≡ g x
  along f g ks e x h =
      ap f (sym (at x)) ∙ alike (λ (k : ℕ). f (get_or xs k d)) (λ (k : ℕ). g (get_or xs k d)) ks (tag x) e h ∙ ap g (at x)

  -- an arm that takes several variants and answers the same for each
  pub arm : {A : Type 0} (g : X → A) (y : A) (ks : List ℕ) → map (λ (k : ℕ). g (get_or xs k d)) ks ≡ map (λ (k : ℕ). y) ks
      → (x : X) → OneOf ks (tag x) → y ≡ g x
  arm g y ks e x h = sym (along g (λ (z : X). y) ks e x h)

  -- two tables with the same entries
  pub everywhere : {A : Type 0} (f g : X → A) → f d ≡ g d → map f xs ≡ map g xs → (x : X) → f x ≡ g x
  everywhere f g z e x =
      ap f (sym (at x)) ∙ sym (get_or-map f xs (tag x) d) ∙ ap (λ (l : List _). get_or l (tag x) (f d)) e
      ∙ ap (get_or (map g xs) (tag x)) z ∙ get_or-map g xs (tag x) d ∙ ap g (at x)
