-- What equals one thing is one, with all that is read off it.
use mathlib.Core.Path.{◌≡◌, sym, ap, ap₂, ◌∙◌}

-- f: all that a call leaves, read off what its promise's equation speaks of
pub one : {A B : Type 0} {v u w : A} (f : A → B) → u ≡ v → w ≡ v → f u ≡ f w
one f p q = ap f (p ∙ sym q)

-- the same of a promise of two equations
pub two : {A B C : Type 0} {v u w : A} {t r s : B} (f : A → B → C) → (u ≡ v) × (r ≡ t) → (w ≡ v) × (s ≡ t) → f u r ≡ f w s
two f p q = ap₂ f (p.0 ∙ sym q.0) (p.1 ∙ sym q.1)

-- and of one that is shown to leave three things
pub three : {A B C D : Type 0} {u w : A} {r s : B} {p q : C} (f : A → B → C → D) → (u ≡ w) × (r ≡ s) × (p ≡ q) → f u r p ≡ f w s q
three {w} {s} {p} f e = ap₂ (λ a b. f a b p) e.0 e.1 ∙ ap (f w s) e.2

-- pairs in a row, as a function's parameters stand
infixr 2 ◌&◌
abbrev pub ◌&◌ : {A B : Type 0} → A → B → A × B
a & b = (a, b)
