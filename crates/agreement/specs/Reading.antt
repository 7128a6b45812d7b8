-- Registers read as values: what "the plain and the deferred run agree" compares.
use Rattle.std.specs.Prelude.{ℕ, ◌≤◌, Bool, false, List, [], ◌∷◌, length}
use Rattle.state.specs.Held.{value_of, held_of}
use Rattle.state.specs.declared.registers.Registers.{Registers}
use Rattle.state.specs.Registers.{registers}
use Rattle.execute.specs.World.{World, world, world_of, Stepped, stepped}
use Rattle.run.specs.Run.{Answer, answer}
use Rattle.layout.specs.Layout.{state_in}
use Rattle.host.specs.Call.{Called}

-- each register's value; one that has no mark is whole
unfoldable pub read_values : List ℕ → List Bool → List ℕ
read_values [] fs = []
read_values (v ∷ vs) [] = v ∷ read_values vs []
read_values (v ∷ vs) (f ∷ fs) = value_of (held_of f v) ∷ read_values vs fs

unfoldable pub no_marks : List Bool → List Bool
no_marks [] = []
no_marks (f ∷ fs) = false ∷ no_marks fs

-- all of them whole, at their values, with their bounds
abbrev pub read_all : Registers → Registers
read_all R = registers (read_values R.values R.accumulated) (no_marks R.accumulated) R.bounds

abbrev pub read_world : World → World
read_world w = world w.pc w.halted (read_all w.registers) w.memory

-- "in a deferred run only Mul" asks for checks: so the checks are not compared
abbrev pub unchecked : Stepped → Stepped
unchecked s = stepped s.went s.world []

abbrev pub read_step : Stepped → Stepped
read_step s = stepped s.went (read_world s.world) []

-- a mark for each of the sixteen, as every state has
abbrev pub Sized : Registers → Type 0
Sized R = 16 ≤ length R.accumulated

-- and a number
abbrev pub Full : Registers → Type 0
Full R = Sized R × (16 ≤ length R.values)

-- a run's answer: the stop with its particulars, the steps, the pc, the halt mark, the memory, the bounds and the values
abbrev pub read_answer : Answer → Answer
read_answer a = answer a.stop a.steps (read_world a.world) a.lists

-- what a host's call leaves, its state bytes read: the result, the pc, the halt mark, the memory, the bounds, the values and the answer's bytes
pub record ReadCall : Type 0 where
  pub code : ℕ
  pub world : World
  pub answer : List ℕ

abbrev pub read_call : Called → ReadCall
read_call c = record { code = c.code; world = read_world (world_of (state_in c.state) c.memory); answer = c.answer }
