-- Inner: one given instruction, one step and a run with lists over the bytes of a state, for the comparison.
use Rattle.std.specs.Prelude.{ℕ, Bool, cond, ◌&&◌, List, [], ◌∷◌, leb}
use Rattle.refusal.specs.Stops.{refusal_of, code_of, particular_at}
use Rattle.refusal.specs.declared.Stop.{Stop}
use Rattle.refusal.specs.declared.Stop.TheVariants as S
use Rattle.instruction.specs.declared.Instruction.{Instruction}
use Rattle.effect.specs.Notes.{document_notes}
use Rattle.execute.specs.World.{World, world_of, Stepped}
use Rattle.given.specs.Given.{execute_one}
use Rattle.execute.specs.Rules.{document_rules}
use Rattle.execute.specs.declared.Went.{Went}
use Rattle.pending.specs.Pending.{Lists}
use Rattle.pending.specs.declared.Check.{Check}
use Rattle.step.specs.Step.{Left, step}
use Rattle.run.specs.Run.{Answer, stop_of, run}
use Rattle.layout.specs.Layout.{STATE_BYTES, state_bytes, state_in, well_laid, written}
use Rattle.layout.specs.Answer.{ANSWER_BYTES, answer_bytes}
use Rattle.host.specs.Call.{mode_of, state_of}
use Rattle.exports.specs.declared.triple.Triple.{Triple}
use Rattle.exports.specs.Triples.{triple, tripled, refusal_triple}

-- the bytes are a state's, and the number a mode's: 9 otherwise, and then nothing but answers is written
unfoldable pub legible : List ℕ → ℕ → Bool
legible st mode = leb mode 1 && well_laid st

-- code, 0, particular, as of the stop that it would be: 0 where it goes on
abbrev pub went_triple : Went → Triple
went_triple g = triple (code_of (stop_of g)) 0 (particular_at (stop_of g))

-- 1, the value and the bound of the first; or zeros
abbrev pub check_triple : List Check → Triple
check_triple [] = triple 0 0 0
check_triple (c ∷ cs) = triple 1 c.value c.bound

-- "code, steps, particular"
abbrev pub stop_bytes : Stop → ℕ → List ℕ
stop_bytes p steps = answer_bytes (code_of p) steps (particular_at p)

-- what is lent to a given instruction
pub record GivenCall : Type 0 where
  pub state : List ℕ
  pub memory : List ℕ
  pub answer : List ℕ
  pub check : List ℕ

abbrev pub given_call : List ℕ → List ℕ → List ℕ → List ℕ → GivenCall
given_call st m an ck = record { state = st; memory = m; answer = an; check = ck }

abbrev pub executed_in : Stepped → GivenCall → GivenCall
executed_in s g =
    given_call
    (written STATE_BYTES (state_bytes (state_of s.world)) g.state)
    s.world.memory
    (tripled (went_triple s.went) g.answer)
    (tripled (check_triple s.checks) g.check)

unfoldable pub executing : ℕ → Instruction → GivenCall → GivenCall
executing mode i g =
    cond (legible g.state mode)
    (executed_in (execute_one (mode_of mode) document_notes i (world_of (state_in g.state) g.memory)) g)
    (given_call g.state g.memory (tripled (refusal_triple (refusal_of 9 0)) g.answer) (tripled (check_triple []) g.check))

-- what is lent to a step or a run
pub record MachineCall : Type 0 where
  pub state : List ℕ
  pub memory : List ℕ
  pub answer : List ℕ
  pub lists : Lists

abbrev pub machine_call : List ℕ → List ℕ → List ℕ → Lists → MachineCall
machine_call st m an l = record { state = st; memory = m; answer = an; lists = l }

abbrev pub leaving : World → List ℕ → Lists → MachineCall → MachineCall
leaving w an l b = machine_call (written STATE_BYTES (state_bytes (state_of w)) b.state) w.memory an l

abbrev pub stepped_in : Left → MachineCall → MachineCall
stepped_in s b = leaving s.world (tripled (went_triple s.went) b.answer) s.lists b

unfoldable pub stepping : ℕ → MachineCall → MachineCall
stepping mode b =
    cond (legible b.state mode)
    (stepped_in (step (mode_of mode) document_rules (world_of (state_in b.state) b.memory) b.lists) b)
    (machine_call b.state b.memory (tripled (refusal_triple (refusal_of 9 0)) b.answer) b.lists)

abbrev pub ran_in : Answer → MachineCall → MachineCall
ran_in a b = leaving a.world (written ANSWER_BYTES (stop_bytes a.stop a.steps) b.answer) a.lists b

unfoldable pub running : ℕ → ℕ → MachineCall → MachineCall
running mode fuel b =
    cond (legible b.state mode)
    (ran_in (run (mode_of mode) document_rules fuel (world_of (state_in b.state) b.memory) b.lists) b)
    (machine_call b.state b.memory (written ANSWER_BYTES (stop_bytes (S.Refused (refusal_of 9 0)) 0) b.answer) b.lists)
