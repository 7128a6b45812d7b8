-- A step of a state that is lent as a record of numbers.
use Rattle.std.specs.Prelude.{ℕ, Bool, false, cond, ◌&&◌, List, leb, eqb, get_or}
use Rattle.refusal.specs.Stops.{refusal_of, code_of, particular_at}
use Rattle.state.specs.Formed.{all_below}
use Rattle.state.specs.Registers.{registers}
use Rattle.state.specs.declared.State.{State}
use Rattle.execute.specs.World.{world_of}
use Rattle.execute.specs.Rules.{document_rules}
use Rattle.execute.specs.declared.Went.{Went}
use Rattle.execute.specs.declared.Went.TheVariants as W
use Rattle.pending.specs.Pending.{Lists}
use Rattle.step.specs.Step.{Left, step}
use Rattle.run.specs.Run.{stop_of}
use Rattle.memory.specs.Bytes.{bit}
use Rattle.layout.specs.Layout.{table}
use Rattle.host.specs.Call.{mode_of, state_of}
use Rattle.lent.specs.declared.exported.Lent.{Lent}
use Rattle.lent.specs.declared.exported.StepAnswer.{StepAnswer}

-- "halt mark 0 or 1", "kind 0 or 1"; what else the rules forbid of a state, its step refuses
abbrev pub mark_fits : List ℕ → ℕ → Bool
mark_fits kinds i = leb (get_or kinds i 0) 1

unfoldable pub laid : Lent → Bool
laid r = leb r.halted 1 && all_below (mark_fits r.kinds) 16

-- a state's numbers, and the state of such numbers
unfoldable pub state_of_lent : Lent → State
state_of_lent r =
    record {
      pc = r.pc;
      halted = eqb r.halted 1;
      registers = registers r.values (table 16 0 (λ i. eqb (get_or r.kinds i 0) 1)) r.bounds;
    }

unfoldable pub lent_of : State → Lent
lent_of s =
    record {
      pc = s.pc;
      halted = bit s.halted;
      kinds = table 16 0 (λ i. bit (get_or s.registers.accumulated i false));
      bounds = s.registers.bounds;
      values = s.registers.values;
    }

-- a refused step leaves the record as it was
unfoldable pub record_after : Lent → Went → State → Lent
record_after r W.On s = lent_of s
record_after r W.Ebreak s = lent_of s
record_after r W.Ecall s = lent_of s
record_after r (W.Refused x) s = r

-- what the call leaves
pub record LentStep : Type 0 where
  pub answer : StepAnswer
  pub state : Lent
  pub memory : List ℕ
  pub lists : Lists

abbrev pub lent_step : StepAnswer → Lent → List ℕ → Lists → LentStep
lent_step a r m l = record { answer = a; state = r; memory = m; lists = l }

-- code and particular are those of the stop that ends a run there; 0 where it goes on
abbrev pub answer_of : Went → ℕ → StepAnswer
answer_of g n = record { code = code_of (stop_of g); particular = particular_at (stop_of g); count = n }

abbrev pub lent_served : Lent → Left → LentStep
lent_served r s = lent_step (answer_of s.went s.lists.count) (record_after r s.went (state_of s.world)) s.world.memory s.lists

unfoldable pub step_lent : ℕ → Lent → List ℕ → Lists → LentStep
step_lent mode r m l =
    cond (leb mode 1 && laid r) (lent_served r (step (mode_of mode) document_rules (world_of (state_of_lent r) m) l)) (lent_step (answer_of (W.Refused (refusal_of 9 0)) l.count) r m l)
