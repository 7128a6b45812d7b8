-- What the limb forms compute is what the register then holds.
use Prim.Native.Nat.{ℕ, zero, suc, ◌+◌, ◌%◌, ◌^◌, ◌<◌}
use mathlib.Core.Path.{◌≡◌, refl, ◌∙◌}
use mathlib.Core.Logic.{◌≢◌}
use mathlib.Core.Bool.{Bool, true, false, cond}
use lib.ListN.{length, get_or}
use lib.Seq.{get_or-set_same}
use native.Mathlib.Omega.{arith}
use Rattle.state.specs.Held.{Held, low_of, high_of, held_of, kept, waits, settled}
use Rattle.state.specs.declared.registers.Registers.{Registers}
use Rattle.state.specs.Registers.{holds, place, put}
use Rattle.state.proofs.Normal.{held_kept}
use Rattle.deferred.specs.Limbs.{sum_of, sum_fits, sum_into}
use Rattle.deferred.proofs.Waiting.{fits-true}
use Rattle.agreement.specs.Reading.{Full}
use Rattle.agreement.specs.Statements.{SumsAreHeld, DifferencesAreHeld}
use Rattle.agreement.proofs.Values.{low_small, settled-sum}

placed : (k v : ℕ) (f : Bool) (b : ℕ) (R : Registers) → k ≢ 0 → k < length R.accumulated → k < length R.values
    → held_of (get_or (place k v f b R).accumulated k false) (get_or (place k v f b R).values k 0) ≡ held_of f v
unfolding place
placed zero v f b R z p q = absurd (z refl)
placed (suc k) v f b R z p q = rw (get_or-set_same R.accumulated (suc k) f false p, get_or-set_same R.values (suc k) v 0 q)

put-held : (R : Registers) (rd : ℕ) (h : Held) (b : ℕ) → Full R → rd % 16 ≢ 0 → low_of h < 2 ^ 30 → holds (put R rd h b) rd ≡ h
put-held R rd h b f z s = placed (rd % 16) (kept h) (waits h) b R z (omega (arith, f.0)) (omega (arith, f.1)) ∙ held_kept h s

-- by the test that decides which sum is written
sum-held : (rd : ℕ) (x y : Held) (b : ℕ) (R T : Registers) → Full R → Full T → rd % 16 ≢ 0 → (t : Bool) → sum_fits x y ≡ t
    → holds (cond t (put R rd (sum_of x y) b) (put T rd (sum_of (settled x) (settled y)) b)) rd ≡ cond t (sum_of x y) (sum_of (settled x) (settled y))
unfolding low_of
sum-held rd x y b R T f g z true e = put-held R rd (sum_of x y) b f z (fits-true (low_of x + low_of y) (high_of x + high_of y) e).0
sum-held rd x y b R T f g z false e = put-held T rd (sum_of (settled x) (settled y)) b g z (settled-sum x y).0

pub sums-are-held : SumsAreHeld
unfolding sum_into
sums-are-held rd x y b R T f g z = sum-held rd x y b R T f g z (sum_fits x y) refl

pub differences-are-held : DifferencesAreHeld
unfolding low_of
differences-are-held N rd rs1 rs2 R f z =
    let s = low_small (get_or R.accumulated (rs1 % 16) false) (get_or R.values (rs1 % 16) 0) in
    put-held R rd _ _ f z (omega arith)
