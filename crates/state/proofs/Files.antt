-- The laws of the registers as they are kept.
use Prim.Native.Nat.{ℕ, zero, suc, ◌+◌, ◌%◌}
use mathlib.Core.Path.{◌≡◌, refl, ap, ◌∙◌}
use mathlib.Core.Bool.{Bool, false}
use mathlib.Core.List.{List, [], ◌∷◌}
use lib.ListN.{get_or, set}
use native.Mathlib.Omega.{arith}
use native.Mathlib.Numerals.{add-one}
use Rattle.state.specs.Held.{Held, Whole, Limbs, value_of, settled, kept, waits}
use Rattle.state.specs.declared.registers.Registers.{Registers}
use Rattle.state.specs.Registers.{registers, holds, place, normalise, normalise_to}

-- for the code: `if i == 0 { return; }`, and the stores
pub place_none : (k v : ℕ) (w : Bool) (b : ℕ) (R : Registers) → k ≡ 0 → place k v w b R ≡ R
unfolding place
place_none zero v w b R e = refl
place_none (suc k) v w b R e = absurd (omega arith)

pub place_set : (k v : ℕ) (w : Bool) (b : ℕ) (R : Registers) → (k ≡ 0 → ⊥)
    → place k v w b R ≡ registers (set R.values k v) (set R.accumulated k w) (set R.bounds k b)
unfolding place
place_set zero v w b R e = absurd (e refl)
place_set (suc k) v w b R e = refl

-- what normalising keeps of a register: its value, whole
pub kept-settled : (h : Held) → kept (settled h) ≡ value_of h
unfolding kept settled value_of
kept-settled (Whole n) = refl
kept-settled (Limbs lo hi) = omega arith

pub waits-settled : (h : Held) → waits (settled h) ≡ false
unfolding waits settled
waits-settled (Whole n) = refl
waits-settled (Limbs lo hi) = refl

pub set_same : {A : Type 0} (l : List A) (k : ℕ) (d : A) → set l k (get_or l k d) ≡ l
set_same [] k d = refl
set_same (x ∷ l) zero d = refl
set_same (x ∷ l) (suc k) d = ap (λ (t : List _). x ∷ t) (set_same l k d)

-- normalising, as the code does it
pub normalise-none : (n : ℕ) (R : Registers) → n % 16 ≡ 0 → normalise n R ≡ R
unfolding normalise
normalise-none n R e = place_none (n % 16) _ _ _ R e

pub normalise-set : (n : ℕ) (R : Registers) → (n % 16 ≡ 0 → ⊥)
    → normalise n R ≡ registers (set R.values (n % 16) (value_of (holds R n))) (set R.accumulated (n % 16) false) R.bounds
unfolding normalise
normalise-set n R e = place_set (n % 16) _ _ _ R e ∙ rw (kept-settled (holds R n), waits-settled (holds R n), set_same R.bounds (n % 16) 0)

pub normalise_to-more : (k : ℕ) (R : Registers) → normalise_to (k + 1) R ≡ normalise (k + 1) (normalise_to k R)
unfolding normalise_to
normalise_to-more k R = rw (add-one k)
