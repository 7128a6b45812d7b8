-- Inner: a leg of a run, at most so many steps, up to and with the first that asks for checks where a list is lent. They are given
-- back and not listed, so that whoever calls it lists in its own form.
use Rattle.std.specs.Prelude.{ℕ, zero, suc, ◌+◌, Bool, true, false, cond, ◌&&◌, List, [], ◌∷◌}
use Rattle.execute.specs.World.{World, world_of, Stepped}
use Rattle.execute.specs.Rules.{Rules}
use Rattle.execute.specs.declared.Mode.{Mode}
use Rattle.execute.specs.declared.Went.{Went}
use Rattle.execute.specs.declared.Went.TheVariants as W
use Rattle.pending.specs.Pending.{checks_of}
use Rattle.pending.specs.declared.Check.{Check}
use Rattle.pending.specs.declared.Room.{Room}
use Rattle.pending.specs.declared.Room.TheVariants.{Unlent, Left}
use Rattle.step.specs.Step.{step_in, goes_on, counted}
use Rattle.step.specs.declared.leg.Gone.{Gone}

-- how the last step went, the steps, the world after them, the checks that the last one asks for, and its pc
pub record Leg : Type 0 where
  pub went : Went
  pub steps : ℕ
  pub world : World
  pub checks : List Check
  pub pc : ℕ

abbrev pub leg : Went → ℕ → World → List Check → ℕ → Leg
leg g n w cs pc = record { went = g; steps = n; world = w; checks = cs; pc = pc }

-- a leg with n steps before it
abbrev pub later : ℕ → Leg → Leg
later n a = leg a.went (n + a.steps) a.world a.checks a.pc

-- whether there is nothing to be listed
unfoldable pub unlisted : List Check → Room → Bool
unlisted [] room = true
unlisted (c ∷ cs) Unlent = true
unlisted (c ∷ cs) (Left n) = false

abbrev pub passing : Room → Stepped → Bool
passing room s = goes_on s.went && unlisted s.checks room

-- at most n steps
unfoldable pub leg_in : ℕ → Mode → Room → Rules → World → Leg
leg_in zero k room R w = leg W.On 0 w [] w.pc
leg_in (suc n) k room R w =
    let s = step_in k room R w in
    cond (passing room s) (later 1 (leg_in n k room R s.world)) (leg s.went (counted s.went) s.world s.checks w.pc)

-- what the code gives back, with the memory that was lent to it
abbrev pub gone : Gone → List ℕ → Leg
gone r m = leg r.went r.steps (world_of r.state m) (checks_of r.checks) r.pc
