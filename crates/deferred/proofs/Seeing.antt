-- Normalising changes nothing that an instruction on whole values sees: so the code decides on the registers as they are, and normalises
-- after.
use Prim.Native.Nat.{ℕ, zero, suc, ◌%◌}
use mathlib.Core.Path.{◌≡◌, refl, sym, ap₂, ◌∙◌, fun_ext}
use mathlib.Core.Bool.{Bool, true, false}
use mathlib.Core.List.{List, [], ◌∷◌}
use lib.ListN.{get_or, set}
use Rattle.state.specs.Held.{value_of, held_of}
use Rattle.state.specs.declared.registers.Registers.{Registers}
use Rattle.state.specs.Registers.{holds, place, normalise}
use Rattle.state.proofs.Files.{kept-settled, waits-settled}
use Rattle.state.proofs.Normal.{bounds-stay}
use Rattle.effect.specs.Effects.{seen}
use Rattle.deferred.specs.Sources.{normalise_each}

abbrev value_in : List ℕ → List Bool → ℕ → ℕ
value_in vs fs j = value_of (held_of (get_or fs j false) (get_or vs j 0))

nothing : (f : Bool) → value_of (held_of f 0) ≡ 0
unfolding value_of held_of
nothing true = refl
nothing false = refl

-- a register made whole at its value: no value moves, whatever the lists' lengths
value_set : (vs : List ℕ) (fs : List Bool) (k j : ℕ) → value_in (set vs k (value_in vs fs k)) (set fs k false) j ≡ value_in vs fs j
unfolding value_of held_of
value_set [] fs k j = nothing (get_or (set fs k false) j false) ∙ sym (nothing (get_or fs j false))
value_set (v ∷ vs) [] zero zero = refl
value_set (v ∷ vs) [] zero (suc j) = refl
value_set (v ∷ vs) [] (suc k) zero = refl
value_set (v ∷ vs) [] (suc k) (suc j) = value_set vs [] k j
value_set (v ∷ vs) (f ∷ fs) zero zero = refl
value_set (v ∷ vs) (f ∷ fs) zero (suc j) = refl
value_set (v ∷ vs) (f ∷ fs) (suc k) zero = refl
value_set (v ∷ vs) (f ∷ fs) (suc k) (suc j) = value_set vs fs k j

value-placed : (k b : ℕ) (R : Registers) (j : ℕ)
    → value_in (place k (value_in R.values R.accumulated k) false b R).values (place k (value_in R.values R.accumulated k) false b R).accumulated j
    ≡ value_in R.values R.accumulated j
unfolding place
value-placed zero b R j = refl
value-placed (suc k) b R j = value_set R.values R.accumulated (suc k) j

pub value_stays : (n m : ℕ) (R : Registers) → value_of (holds (normalise n R) m) ≡ value_of (holds R m)
unfolding normalise
value_stays n m R = rw (kept-settled (holds R n), waits-settled (holds R n)) (value-placed (n % 16) _ R (m % 16))

seen-normalise : (pc n : ℕ) (R : Registers) → seen pc (normalise n R) ≡ seen pc R
unfolding seen
seen-normalise pc n R =
    ap₂ (λ (f g : ℕ → ℕ). record { pc = pc; value = f; bound = g })
    (fun_ext (λ m. value_stays n m R))
    (fun_ext (λ m. rw (bounds-stay n R)))

pub seen-each : (pc : ℕ) (ns : List ℕ) (R : Registers) → seen pc (normalise_each ns R) ≡ seen pc R
unfolding normalise_each
seen-each pc [] R = refl
seen-each pc (n ∷ ns) R = seen-each pc ns (normalise n R) ∙ seen-normalise pc n R
