-- The legs' laws: what is left to go from here gives the whole leg, and a step is a leg of one step.
--     step-is-leg      a step is a leg of one step, and the listing of its checks
--     leg-within       a leg is of no more steps than it may be
--     leg-moves        one that may go and goes on is of one step at least
use Prim.Native.Nat.{ℕ, zero, suc, ◌+◌, ◌-◌, ◌<◌, ◌≤◌}
use mathlib.Core.Path.{◌≡◌, refl, sym, ap}
use mathlib.Core.Bool.{Bool, true, false, cond, ◌&&◌}
use mathlib.Core.List.{List, [], ◌∷◌}
use native.Mathlib.Omega.{arith}
use mir.Syntax.{w64}
use mir.Val.{Fits}
use mir.Facts.{Fits-le}
use Rattle.execute.specs.World.{World, Stepped, stepped}
use Rattle.execute.specs.Rules.{Rules}
use Rattle.execute.specs.declared.Mode.{Mode}
use Rattle.execute.specs.declared.Went.{Went}
use Rattle.execute.specs.declared.Went.TheVariants as W
use Rattle.pending.specs.Pending.{Lists, room_of, listing}
use Rattle.pending.specs.declared.Check.{Check}
use Rattle.pending.specs.declared.Room.{Room}
use Rattle.pending.specs.declared.Room.TheVariants.{Unlent, Left}
use Rattle.pending.proofs.Lists.{unlent-stays}
use Rattle.step.specs.Step.{left, step_in, step_of, goes_on, counted}
use Rattle.step.specs.Leg.{Leg, leg, later, unlisted, passing, leg_in}

steps-eq : {g : Went} {w : World} {cs : List Check} {pc : ℕ} (a b : ℕ) → a ≡ b → leg g a w cs pc ≡ leg g b w cs pc
steps-eq a b e = rw e

module _ (k : Mode) (room : Room) (R : Rules) (fuel n : ℕ) (w v : World) (g : Went) (cs : List Check) (more : n < fuel)
    (one : stepped g v cs ≡ step_in k room R w) where
  pub passes_on : (goes_on g && unlisted cs room) ≡ true → later n (leg_in (fuel - n) k room R w) ≡ later (n + 1) (leg_in (fuel - (n + 1)) k room R v)
  unfolding leg_in
  passes_on e =
      let z : fuel - n ≡ suc (fuel - (n + 1)) = omega arith in
      rw (z, ← one, e) (steps-eq _ _ (omega arith))

  pub ends : (goes_on g && unlisted cs room) ≡ false → later n (leg_in (fuel - n) k room R w) ≡ leg g (n + counted g) v cs w.pc
  unfolding leg_in
  ends e =
      let z : fuel - n ≡ suc (fuel - (n + 1)) = omega arith in
      rw (z, ← one, e)

module _ (k : Mode) (room : Room) (R : Rules) (fuel : ℕ) (w : World) where
  pub runs-dry : (n : ℕ) → n ≡ fuel → later n (leg_in (fuel - n) k room R w) ≡ leg W.On fuel w [] w.pc
  unfolding leg_in
  runs-dry n h =
      let z : fuel - n ≡ 0 = omega arith in
      rw z (steps-eq _ _ (omega arith))

one-step-leg : (k : Mode) (room : Room) (R : Rules) (l : Lists) (pc : ℕ) (g : Went) (cs : List Check) (v : World) (a : Leg) → room_of l ≡ room
    → a ≡ cond (goes_on g && unlisted cs room) (later 1 (leg_in 0 k room R v)) (leg g (counted g) v cs pc)
    → left a.went a.world (listing a.checks a.pc l) ≡ left g v (listing cs pc l)
unfolding leg_in goes_on unlisted listing
one-step-leg k room R l pc W.On [] v a u e = rw e
one-step-leg k Unlent R l pc W.On (c ∷ cs) v a u e = rw e (ap (left W.On v) (sym (unlent-stays (c ∷ cs) pc l u)))
one-step-leg k (Left n) R l pc W.On (c ∷ cs) v a u e = rw e
one-step-leg k room R l pc W.Ebreak cs v a u e = rw e
one-step-leg k room R l pc W.Ecall cs v a u e = rw e
one-step-leg k room R l pc (W.Refused r) cs v a u e = rw e

pub step-is-leg : (k : Mode) (R : Rules) (w : World) (l : Lists) (a : Leg) → a ≡ leg_in 1 k (room_of l) R w
    → left a.went a.world (listing a.checks a.pc l) ≡ step_of k R w l
unfolding leg_in step_of
step-is-leg k R w l a e = let s = step_in k (room_of l) R w in one-step-leg k (room_of l) R l w.pc s.went s.checks s.world a refl e

pub at_most_one : (g : Went) → counted g ≤ 1
unfolding counted
at_most_one W.On = omega arith
at_most_one W.Ebreak = omega arith
at_most_one W.Ecall = omega arith
at_most_one (W.Refused r) = omega arith

counts : (g : Went) → goes_on g ≡ true → 0 < counted g
unfolding counted goes_on
counts W.On e = omega arith
counts W.Ebreak e = let z : ◌≡◌ {A = ℕ} 0 1 = cc in absurd (omega arith)
counts W.Ecall e = let z : ◌≡◌ {A = ℕ} 0 1 = cc in absurd (omega arith)
counts (W.Refused r) e = let z : ◌≡◌ {A = ℕ} 0 1 = cc in absurd (omega arith)

module _ (k : Mode) (room : Room) (R : Rules) where
  -- the leg that a step begins
  abbrev begun : Bool → Leg → World → Stepped → Leg
  begun t a w s = cond t (later 1 a) (leg s.went (counted s.went) s.world s.checks w.pc)

  pub leg-within : (n : ℕ) (w : World) → (leg_in n k room R w).steps ≤ n
  unfolding leg_in
  leg-within zero w = omega arith
  leg-within (suc n) w = let s = step_in k room R w in told s (passing room s) (leg_in n k room R s.world) (leg-within n s.world)
    where
      told : (s : Stepped) (t : Bool) (a : Leg) → a.steps ≤ n → (begun t a w s).steps ≤ suc n
      told s true a h = omega arith
      told s false a h = omega (arith, at_most_one s.went)

  pub leg-moves : (n : ℕ) (w : World) → 0 < n → goes_on (leg_in n k room R w).went ≡ true → 0 < (leg_in n k room R w).steps
  unfolding leg_in
  leg-moves zero w h e = absurd (omega arith)
  leg-moves (suc n) w h e = let s = step_in k room R w in told s (passing room s) (leg_in n k room R s.world) e
    where
      told : (s : Stepped) (t : Bool) (a : Leg) → goes_on (begun t a w s).went ≡ true → 0 < (begun t a w s).steps
      told s true a e = omega arith
      told s false a e = counts s.went e
