-- A refusal is determined by its number and its particular, and a stop by its code and its particular.
use mathlib.Core.Path.{◌≡◌, refl, sym, ap₂, ◌∙◌}
use mathlib.Core.Bool.{cond}
use Prim.Native.Nat.{ℕ}
use lib.Dec.{eqb}
use Rattle.refusal.specs.Stops.{number_of, particular_of, refusal_of, code_of, particular_at}
use Rattle.refusal.specs.declared.Refusal.{Refusal}
use Rattle.refusal.specs.declared.Refusal.TheVariants.{DivisorZero, Beyond, Misaligned, BadOpcode, UnusedBits, PcMisaligned, PcBeyond, ListFull, Malformed}
use Rattle.refusal.specs.declared.Stop.{Stop}
use Rattle.refusal.specs.declared.Stop.TheVariants.{Fuel, Ebreak, Ecall, Refused}

-- the stop of a code and a particular
stopped : ℕ → ℕ → Stop
stopped k n = cond (eqb k 64) Ebreak (cond (eqb k 65) Ecall (cond (eqb k 0) Fuel (Refused (refusal_of k n))))

again : (p : Stop) → stopped (code_of p) (particular_at p) ≡ p
unfolding stopped
again Fuel = refl
again Ebreak = refl
again Ecall = refl
again (Refused (DivisorZero pc)) = refl
again (Refused (Beyond missing)) = refl
again (Refused (Misaligned address)) = refl
again (Refused (BadOpcode word)) = refl
again (Refused (UnusedBits word)) = refl
again (Refused (PcMisaligned pc)) = refl
again (Refused (PcBeyond pc)) = refl
again (Refused (ListFull pc)) = refl
again (Refused Malformed) = refl

pub stop-determined : (p q : Stop) → code_of p ≡ code_of q → particular_at p ≡ particular_at q → p ≡ q
stop-determined p q e f = sym (again p) ∙ ap₂ stopped e f ∙ again q

pub refusal-determined : (r s : Refusal) → number_of r ≡ number_of s → particular_of r ≡ particular_of s → r ≡ s
refusal-determined r s e f =
    let same : Refused r ≡ Refused s = stop-determined (Refused r) (Refused s) e f in
    cc
