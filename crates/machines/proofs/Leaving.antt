-- What a call leaves, from what the calls inside it leave: over plain variables, so that nothing of a run is computed.
use Prim.Native.Nat.{ℕ}
use mathlib.Core.Path.{◌≡◌}
use mathlib.Core.Bool.{true, false}
use mathlib.Core.List.{List, []}
use Rattle.refusal.specs.Stops.{refusal_of}
use Rattle.refusal.specs.declared.Stop.TheVariants as S
use Rattle.state.specs.declared.State.{State}
use Rattle.effect.specs.Notes.{document_notes}
use Rattle.execute.specs.World.{world_of, Stepped}
use Rattle.given.specs.Given.{execute_one}
use Rattle.execute.specs.Rules.{document_rules}
use Rattle.execute.specs.declared.Mode.{Mode}
use Rattle.instruction.specs.declared.Instruction.{Instruction}
use Rattle.pending.specs.Pending.{Lists}
use Rattle.step.specs.Step.{Left, step}
use Rattle.run.specs.Run.{Answer, run}
use Rattle.layout.specs.Layout.{STATE_BYTES, state_bytes, state_in, written}
use Rattle.layout.specs.Answer.{ANSWER_BYTES}
use Rattle.host.specs.Call.{mode_of, state_of}
use Rattle.exports.specs.declared.triple.Triple.{Triple}
use Rattle.exports.specs.Triples.{tripled, refusal_triple}
use Rattle.machines.specs.Machine.{legible, went_triple, check_triple, stop_bytes, given_call, executing, machine_call, stepping, running}

module _ (st m an an' : List ℕ) (mode : ℕ) where
  module _ (ck ck' : List ℕ) (j : Instruction) (u : Triple) where
    pub execute-refused : (t : Triple) → legible st mode ≡ false → t ≡ refusal_triple (refusal_of 9 0) → an' ≡ tripled t an
        → u ≡ check_triple [] → ck' ≡ tripled u ck → given_call st m an' ck' ≡ executing mode j (given_call st m an ck)
    unfolding executing
    execute-refused t b e f g h = rw (b, f, e, h, g)

    pub execute-left : (k : Mode) (s : State) (i : Instruction) (r : Stepped) (st' : List ℕ) → legible st mode ≡ true
        → k ≡ mode_of mode → s ≡ state_in st → i ≡ j → r ≡ execute_one k document_notes i (world_of s m)
        → st' ≡ written STATE_BYTES (state_bytes (state_of r.world)) st → an' ≡ tripled (went_triple r.went) an
        → u ≡ check_triple r.checks → ck' ≡ tripled u ck
        → given_call st' r.world.memory an' ck' ≡ executing mode j (given_call st m an ck)
    unfolding executing
    execute-left k s i r st' b e f g h p q t v = rw (b, ← e, ← f, ← g, ← h, p, q, v, t)

  module _ (l : Lists) where
    pub step-refused : (t : Triple) → legible st mode ≡ false → t ≡ refusal_triple (refusal_of 9 0) → an' ≡ tripled t an
        → machine_call st m an' l ≡ stepping mode (machine_call st m an l)
    unfolding stepping
    step-refused t b e f = rw (b, f, e)

    pub step_left : (k : Mode) (s : State) (r : Left) (st' : List ℕ) → legible st mode ≡ true → k ≡ mode_of mode → s ≡ state_in st
        → r ≡ step k document_rules (world_of s m) l → st' ≡ written STATE_BYTES (state_bytes (state_of r.world)) st
        → an' ≡ tripled (went_triple r.went) an → machine_call st' r.world.memory an' r.lists ≡ stepping mode (machine_call st m an l)
    unfolding stepping
    step_left k s r st' b e f h p q = rw (b, ← e, ← f, ← h, p, q)

    pub run-refused : (fuel : ℕ) → legible st mode ≡ false → an' ≡ written ANSWER_BYTES (stop_bytes (S.Refused (refusal_of 9 0)) 0) an
        → machine_call st m an' l ≡ running mode fuel (machine_call st m an l)
    unfolding running
    run-refused fuel b f = rw (b, f)

    pub run-left : (fuel : ℕ) (k : Mode) (s : State) (a : Answer) (st' : List ℕ) → legible st mode ≡ true → k ≡ mode_of mode
        → s ≡ state_in st → a ≡ run k document_rules fuel (world_of s m) l → st' ≡ written STATE_BYTES (state_bytes (state_of a.world)) st
        → an' ≡ written ANSWER_BYTES (stop_bytes a.stop a.steps) an
        → machine_call st' a.world.memory an' a.lists ≡ running mode fuel (machine_call st m an l)
    unfolding running
    run-left fuel k s a st' b e f h p q = rw (b, ← e, ← f, ← h, p, q)
