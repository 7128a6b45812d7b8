-- Document 01 on the host's call: "state, memory, a 24-byte answer, fuel, and a mode number, 0 plain or 1 deferred".
use Rattle.std.specs.Prelude.{ℕ, Bool, cond, ◌&&◌, List, length, leb, eqb}
use Rattle.refusal.specs.Stops.{code_of, particular_at}
use Rattle.state.specs.declared.State.{State}
use Rattle.execute.specs.World.{World, world_of}
use Rattle.execute.specs.Execute.{admits}
use Rattle.execute.specs.declared.Mode.{Mode}
use Rattle.execute.specs.declared.Mode.TheVariants.{Plain, Deferred}
use Rattle.pending.specs.Pending.{no_lists}
use Rattle.execute.specs.Rules.{document_rules}
use Rattle.run.specs.Run.{Answer, run}
use Rattle.layout.specs.Layout.{state_bytes, state_in, well_laid, written}
use Rattle.layout.specs.Answer.{ANSWER_BYTES, answer_bytes}

unfoldable pub mode_of : ℕ → Mode
mode_of n = cond (eqb n 0) Plain Deferred

abbrev pub ran_on : ℕ → ℕ → State → List ℕ → Answer
ran_on mode fuel s m = run (mode_of mode) document_rules fuel (world_of s m) no_lists

-- a state by value again
abbrev pub state_of : World → State
state_of w = record { pc = w.pc; halted = w.halted; registers = w.registers }

-- what a call leaves: its result, and the three lent slices
pub record Called : Type 0 where
  pub code : ℕ
  pub state : List ℕ
  pub memory : List ℕ
  pub answer : List ℕ

abbrev pub called : ℕ → List ℕ → List ℕ → List ℕ → Called
called code st m an = record { code = code; state = st; memory = m; answer = an }

-- "A wrong length, mode or any state these rules forbid, its header too, gives 9": a state is taken if the mode's run admits it
unfoldable pub call_taken : List ℕ → List ℕ → ℕ → Bool
call_taken st an mode = eqb (length an) ANSWER_BYTES && leb mode 1 && well_laid st && admits (mode_of mode) (state_in st).registers

-- "code, steps, particular"; "The call also returns the code"
abbrev pub call_served : Answer → Called
call_served a =
    called
    (code_of a.stop)
    (state_bytes (state_of a.world))
    a.world.memory
    (answer_bytes (code_of a.stop) a.steps (particular_at a.stop))

-- "Then a 24-byte answer holds 9, 0, 0; one of another length isn't written"
unfoldable pub call_of : List ℕ → List ℕ → List ℕ → ℕ → ℕ → Called
call_of st m an fuel mode =
    cond (call_taken st an mode) (call_served (ran_on mode fuel (state_in st) m)) (called 9 st m (written ANSWER_BYTES (answer_bytes 9 0 0) an))
