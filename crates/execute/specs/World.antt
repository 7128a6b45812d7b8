-- All that a step can change, what a step leaves of it, and an effect carried out.
use Rattle.std.specs.Prelude.{ℕ, Bool, true, cond, List, [], ◌∷◌, length}
use Rattle.refusal.specs.Stops.{refusal_of}
use Rattle.refusal.specs.declared.Refusal.{Refusal}
use Rattle.memory.specs.Memory.{memory_after}
use Rattle.state.specs.Held.{Whole}
use Rattle.state.specs.declared.registers.Registers.{Registers}
use Rattle.state.specs.Registers.{put}
use Rattle.state.specs.declared.State.{State}
use Rattle.effect.specs.Outcomes.{Goes, Stores, Nothing, Bytes, Effect, Outcome, Does, Refuses}
use Rattle.effect.specs.Outcomes as G
use Rattle.execute.specs.declared.Went.{Went}
use Rattle.execute.specs.declared.Went.TheVariants as W
use Rattle.pending.specs.Pending.{check, lacks}
use Rattle.pending.specs.declared.Check.{Check}
use Rattle.pending.specs.declared.Room.{Room}

pub record World : Type 0 where
  pub pc : ℕ
  pub halted : Bool
  pub registers : Registers
  pub memory : List ℕ

abbrev pub world : ℕ → Bool → Registers → List ℕ → World
world pc halted R m = record { pc = pc; halted = halted; registers = R; memory = m }

abbrev pub world_of : State → List ℕ → World
world_of s m = world s.pc s.halted s.registers m

-- how the step went, the world after it, and the checks that it asks for
pub record Stepped : Type 0 where
  pub went : Went
  pub world : World
  pub checks : List Check

abbrev pub stepped : Went → World → List Check → Stepped
stepped g w cs = record { went = g; world = w; checks = cs }

-- a refused step leaves everything as it was
abbrev pub refused : Refusal → World → Stepped
refused r w = stepped (W.Refused r) w []

abbrev pub went_of : Goes → Went
went_of G.On = W.On
went_of G.Ebreak = W.Ebreak
went_of G.Ecall = W.Ecall

-- "Ebreak keeps the pc and marks the halt"; a mark that is set stays
abbrev pub marked : Goes → Bool → Bool
marked G.On halted = halted
marked G.Ebreak halted = true
marked G.Ecall halted = halted

abbrev pub keeping : Stores → List ℕ → List ℕ
keeping Nothing m = m
keeping (Bytes size address v) m = memory_after size m address v

-- "the result's value, bound and pc"
abbrev pub checks_for : Effect → List Check
checks_for e = cond e.checked (check e.value e.bound ∷ []) []

-- an effect on the registers R: the register that it writes is whole
abbrev pub does : Effect → Bool → Registers → List ℕ → Stepped
does e halted R m =
    stepped
    (went_of e.goes)
    (world e.next (marked e.goes halted) (put R e.rd (Whole e.value) e.bound) (keeping e.stores m))
    (checks_for e)

-- "8: check needed, pending list full", which comes after 1, 3 and 2
unfoldable pub done : Room → Outcome → World → Registers → Stepped
done room (Refuses r) w R = refused r w
done room (Does e) w R = cond (lacks room (length (checks_for e))) (refused (refusal_of 8 w.pc) w) (does e w.halted R w.memory)
