-- A promise has the checks that are asked for as a list, which determines them.
use mathlib.Core.Path.{◌≡◌, refl, sym, ap, ap₂, ◌∙◌}
use mathlib.Core.List.{List, [], ◌∷◌}
use Rattle.std.specs.Prelude.{None, Option, Some}
use Rattle.pending.specs.Pending.{checks_of}
use Rattle.pending.specs.declared.Check.{Check}

abbrev checks_in : List Check → Option Check
checks_in [] = None
checks_in (c ∷ cs) = Some c

back : (k : Option Check) → checks_in (checks_of k) ≡ k
back None = refl
back (Some c) = refl

-- f: all that a call leaves, read off what its promise's equation speaks of and the checks
pub asked : {A B : Type 0} {v u w : A} (c : A → List Check) (k j : Option Check) (f : A → Option Check → B) → c u ≡ checks_of k → c w ≡ checks_of j
    → u ≡ v → w ≡ v → f u k ≡ f w j
asked c k j f g h p q = ap₂ f (p ∙ sym q) (sym (back k) ∙ ap checks_in (sym g ∙ ap c (p ∙ sym q) ∙ h) ∙ back j)
