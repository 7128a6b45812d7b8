-- Normalising an accumulated register of well-formed ones.
use Prim.Native.Nat.{ℕ, zero, suc, ◌%◌}
use mathlib.Core.Path.{◌≡◌, refl, sym, ap, ◌∙◌}
use mathlib.Core.Bool.{Bool, false}
use mathlib.Core.List.{List, [], ◌∷◌}
use mathlib.Core.Logic.{◌≢◌}
use lib.ListN.{get_or, set}
use native.Mathlib.Omega.{arith}
use Rattle.state.specs.Held.{Held, Whole, Limbs, value_of, settled, waits}
use Rattle.state.specs.declared.registers.Registers.{Registers}
use Rattle.state.specs.Registers.{holds, normalise}
use Rattle.state.proofs.Files.{normalise-set}
use Rattle.state.proofs.Normal.{waits-held}
use Rattle.state.proofs.Normal.{value-and-carry, settled-whole, whole-limbs, others-stay, bounds-stay}
use Rattle.deferred.proofs.Seeing.{value_stays}
use Rattle.agreement.specs.Statements.{NormalisingIsExact}
use Rattle.agreement.proofs.Formed.{Formed, formed}

unmarked : (fs : List Bool) (k : ℕ) → get_or (set fs k false) k false ≡ false
unmarked [] k = refl
unmarked (f ∷ fs) zero = refl
unmarked (f ∷ fs) (suc k) = unmarked fs k

whole-held : (h : Held) → waits h ≡ false → h ≡ Whole (value_of h)
unfolding waits value_of
whole-held (Whole n) e = refl
whole-held (Limbs low high) e = cc

-- R0 apart, whatever the lists
settled-there : (n : ℕ) (R : Registers) → n % 16 ≢ 0 → holds (normalise n R) n ≡ settled (holds R n)
settled-there n R z =
    let mark : waits (holds (normalise n R) n) ≡ false = waits-held _ _ ∙ rw (normalise-set n R z) (unmarked R.accumulated (n % 16)) in
    whole-held _ mark ∙ ap Whole (value_stays n n R) ∙ sym (settled-whole (holds R n))

pub not-zero : (R : Registers) (n low high : ℕ) → Formed R → holds R n ≡ Limbs low high → n % 16 ≢ 0
not-zero R n low high f e z =
    let same : holds R n ≡ Whole 0 = rw z f.zero-whole in
    let never : ◌≡◌ {A = ℕ} 0 1 = cc in
    omega arith

pub normalised : NormalisingIsExact
unfolding settled value_of
normalised R n low high f e =
    let there = settled-there n R (not-zero R n low high (formed R f) e) ∙ ap settled e in
    record {
      whole = there;
      small = rw there (whole-limbs _);
      exact = rw there (value-and-carry low high);
      bounds = bounds-stay n R;
      others = λ m. others-stay n m R;
    }
