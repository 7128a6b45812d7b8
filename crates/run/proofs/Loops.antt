-- The run's laws.
--     loop-is-legs     a run is its first leg, the listing of its checks, and the run from there
--     unlent-leg       with no list lent it is one leg
--     turned, falls    what a run on its way comes to is the same after a leg, and it comes nearer to its end
--     begins, ended    a run is what it comes to where it begins, and has come to its answer where it no longer goes on
use Rattle.std.proofs.Common.{◌≡◌, ℕ, zero, suc, ◌+◌, ◌-◌, ◌%◌, ◌^◌, ◌<◌, ◌≤◌, Bool, true, false, cond, not, ◌&&◌, ltb, List, [], ◌∷◌, sym, refl, ap, ◌∙◌, arith, ltb-true, lt-ltb}
use Rattle.refusal.specs.Stops.{refusal_of}
use Rattle.refusal.specs.declared.Stop.TheVariants as S
use Rattle.state.specs.declared.State.{State}
use Rattle.execute.specs.World.{World, world_of}
use Rattle.execute.specs.Execute.{admits}
use Rattle.execute.specs.Rules.{Rules, rules_of}
use Rattle.execute.specs.declared.Choices.{Choices}
use Rattle.execute.specs.declared.Mode.{Mode}
use Rattle.execute.specs.declared.Went.{Went}
use Rattle.execute.specs.declared.Went.TheVariants as W
use Rattle.pending.specs.Pending.{Lists, checks_of, lists_fit, room_of, listing}
use Rattle.pending.specs.declared.Check.{Check}
use Rattle.pending.specs.declared.Room.{Room}
use Rattle.pending.specs.declared.Room.TheVariants.{Unlent, Left}
use Rattle.pending.proofs.Lists.{unlent-stays}
use Rattle.step.specs.Step.{left, step_in, step_of, goes_on, counted}
use Rattle.step.specs.Leg.{Leg, leg, later, unlisted, leg_in, gone}
use Rattle.step.specs.declared.leg.Gone.{Gone}
use Rattle.step.proofs.Legs.{leg-within, leg-moves}
use Rattle.run.specs.Run.{Answer, answer, preceded, stop_of, following, loop, run}
use Rattle.run.specs.Legs.{begun, next, comes_to}
use Rattle.run.specs.declared.legs.Going.{Going}

-- what a leg leaves to be done of a run of n steps
abbrev onward : ℕ → Mode → Rules → Lists → Leg → Answer
onward n k R l a =
    let t = listing a.checks a.pc l in
    cond (goes_on a.went) (preceded a.steps (loop (n - a.steps) k R a.world t)) (answer (stop_of a.went) a.steps a.world t)

-- a step before a leg
onward-later : (n : ℕ) (k : Mode) (R : Rules) (l : Lists) (a : Leg) → preceded 1 (onward n k R l a) ≡ onward (suc n) k R l (later 1 a)
onward-later n k R l a = told (goes_on a.went)
  where
    t : Lists
    t = listing a.checks a.pc l

    rest : Answer
    rest = loop (n - a.steps) k R a.world t

    told : (b : Bool) → preceded 1 (cond b (preceded a.steps (loop (n - a.steps) k R a.world t)) (answer (stop_of a.went) a.steps a.world t))
        ≡ cond b (preceded (1 + a.steps) (loop (suc n - (1 + a.steps)) k R a.world t)) (answer (stop_of a.went) (1 + a.steps) a.world t)
    told true = let z : suc n - (1 + a.steps) ≡ n - a.steps = omega arith in rw z (ap (λ (i : ℕ). answer rest.stop i rest.world rest.lists) (omega arith))
    told false = refl

module _ (k : Mode) (R : Rules) (l : Lists) (pc : ℕ) where
  first_step : (n : ℕ) (g : Went) (cs : List Check) (room : Room) (v : World) → room_of l ≡ room → loop n k R v l ≡ onward n k R l (leg_in n k room R v)
      → following (left g v (listing cs pc l)) (loop n k R)
      ≡ onward (suc n) k R l (cond (goes_on g && unlisted cs room) (later 1 (leg_in n k room R v)) (leg g (counted g) v cs pc))
  unfolding following goes_on unlisted counted stop_of listing
  first_step n W.On [] room v e h = ap (λ (x : Answer). preceded 1 x) h ∙ onward-later n k R l (leg_in n k room R v)
  first_step n W.On (c ∷ cs) Unlent v e h =
      rw (unlent-stays (c ∷ cs) pc l e) (ap (λ (x : Answer). preceded 1 x) h ∙ onward-later n k R l (leg_in n k Unlent R v))
  first_step n W.On (c ∷ cs) (Left j) v e h = let z : suc n - 1 ≡ n = omega arith in rw z
  first_step n W.Ebreak cs room v e h = refl
  first_step n W.Ecall cs room v e h = refl
  first_step n (W.Refused r) cs room v e h = refl

loop-is-legs : (n : ℕ) (k : Mode) (R : Rules) (w : World) (l : Lists) → loop n k R w l ≡ onward n k R l (leg_in n k (room_of l) R w)
unfolding loop leg_in goes_on step_of listing
loop-is-legs zero k R w l = refl
loop-is-legs (suc n) k R w l =
    let s = step_in k (room_of l) R w in
    first_step k R l w.pc n s.went s.checks (room_of l) s.world refl (loop-is-legs n k R s.world l)

-- with no list lent
abbrev answered : Leg → Lists → Answer
answered a l = answer (stop_of a.went) a.steps a.world l

pub unlent-leg : (n : ℕ) (k : Mode) (R : Rules) (w : World) (l : Lists) → room_of l ≡ Unlent → answered (leg_in n k Unlent R w) l ≡ loop n k R w l
unfolding leg_in loop step_of stop_of goes_on unlisted following counted
unlent-leg zero k R w l u = refl
unlent-leg (suc n) k R w l u =
    let s = step_in k Unlent R w in
    rw (u, unlent-stays s.checks w.pc l u) (told (λ (v : World). unlent-leg n k R v l u) s.went s.checks s.world)
  where
    told : ((v : World) → answered (leg_in n k Unlent R v) l ≡ loop n k R v l) → (g : Went) (cs : List Check) (v : World)
        → answered (cond (goes_on g && unlisted cs Unlent) (later 1 (leg_in n k Unlent R v)) (leg g (counted g) v cs w.pc)) l
        ≡ following (left g v l) (loop n k R)
    told rest W.On [] v = ap (λ (x : Answer). preceded 1 x) (rest v)
    told rest W.On (c ∷ cs) v = ap (λ (x : Answer). preceded 1 x) (rest v)
    told rest W.Ebreak cs v = refl
    told rest W.Ecall cs v = refl
    told rest (W.Refused r) cs v = refl

-- the entry
pub begins : (c : Choices) (s : State) (fuel : ℕ) (m : List ℕ) (l : Lists) (taken : Bool) → taken ≡ (admits c.mode s.registers && lists_fit l)
    → comes_to (begun c s fuel taken) m l ≡ run c.mode (rules_of c) fuel (world_of s m) l
unfolding run
begins c s fuel m l taken e = rw (← e) (told taken s.halted)
  where
    rest : Answer
    rest = loop fuel c.mode (rules_of c) (world_of s m) l

    told : (t h : Bool)
        → cond (t && not h) (preceded 0 rest) (answer (cond t S.Ebreak (S.Refused (refusal_of 9 0))) 0 (world_of s m) l)
        ≡ cond t (cond h (answer S.Ebreak 0 (world_of s m) l) rest) (answer (S.Refused (refusal_of 9 0)) 0 (world_of s m) l)
    told true true = refl
    told true false = ap (λ (i : ℕ). answer rest.stop i rest.world rest.lists) (omega arith)
    told false true = refl
    told false false = refl

-- a leg after `before` steps, and what is left of the run
joined : (k : Mode) (R : Rules) (g : Went) (before steps left : ℕ) (w : World) (l : Lists)
    → cond (goes_on g && ltb 0 left) (preceded (before + steps) (loop left k R w l)) (answer (stop_of g) (before + steps) w l)
    ≡ preceded before (cond (goes_on g) (preceded steps (loop left k R w l)) (answer (stop_of g) steps w l))
unfolding goes_on stop_of loop
joined k R W.On before steps zero w l = ap (λ (i : ℕ). answer S.Fuel i w l) (omega arith)
joined k R W.On before steps (suc left) w l =
    let rest = loop (suc left) k R w l in
    rw (lt-ltb 0 (suc left) (omega arith)) (ap (λ (i : ℕ). answer rest.stop i rest.world rest.lists) (omega arith))
joined k R W.Ebreak before steps left w l = refl
joined k R W.Ecall before steps left w l = refl
joined k R (W.Refused r) before steps left w l = refl

-- what falls with each leg
abbrev pub ahead : Going → ℕ
ahead r = r.left + cond r.on 1 0

module _ (r : Going) (m m' : List ℕ) (room : Room) (g : Gone) (on : r.on ≡ true)
    (one : gone g m' ≡ leg_in r.left r.choices.mode room (rules_of r.choices) (world_of r.state m)) where
  within : g.steps ≤ r.left
  within =
      omega (arith, ap (λ (a : Leg). a.steps) one, leg-within r.choices.mode room (rules_of r.choices) r.left (world_of r.state m))

  pub fits : r.steps + r.left < 2 ^ 64 → (next r g).steps + (next r g).left < 2 ^ 64
  fits h = omega (arith, within, h)

  pub turned : (l : Lists) → room_of l ≡ room → r.steps + r.left < 2 ^ 64
      → comes_to (next r g) m' (listing (checks_of g.checks) g.pc l) ≡ comes_to r m l
  turned l e h =
      let sum : (r.steps + g.steps) % 2 ^ 64 ≡ r.steps + g.steps = omega (arith, within, h) in
      rw (sum, on, loop-is-legs r.left r.choices.mode (rules_of r.choices) (world_of r.state m) l, e, ← one)
      (joined r.choices.mode (rules_of r.choices) g.went r.steps g.steps (r.left - g.steps) (world_of g.state m') (listing (checks_of g.checks) g.pc l))

  pub falls : ahead (next r g) < ahead r
  falls = rw on (told (goes_on g.went) (ltb 0 (r.left - g.steps)) refl refl)
    where
      told : (t u : Bool) → goes_on g.went ≡ t → ltb 0 (r.left - g.steps) ≡ u → r.left - g.steps + cond (t && u) 1 0 < r.left + 1
      told true true p q =
          let some : 0 < r.left - g.steps = ltb-true _ _ q in
          let moves = leg-moves r.choices.mode room (rules_of r.choices) r.left (world_of r.state m) (omega arith) (ap (λ (a : Leg). goes_on a.went) (sym one) ∙ p) in
          omega (arith, moves, ap (λ (a : Leg). a.steps) one)
      told true false p q = omega arith
      told false u p q = omega arith

-- and where it no longer goes on
pub ended : (r : Going) (m : List ℕ) (l : Lists) → r.on ≡ false → answer r.stop r.steps (world_of r.state m) l ≡ comes_to r m l
ended r m l e = rw e
