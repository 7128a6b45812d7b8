-- A step that goes on keeps the halt mark.
use mathlib.Core.Path.{◌≡◌, refl}
use lib.ListN.{length}
use Rattle.state.specs.declared.registers.Registers.{Registers}
use Rattle.effect.specs.Outcomes.{Goes, Outcome, Does, Refuses}
use Rattle.effect.specs.Outcomes as G
use Rattle.instruction.specs.declared.Instruction.{Instruction}
use Rattle.execute.specs.World.{World, Stepped, refused, does, went_of, marked, checks_for, done}
use Rattle.execute.specs.Execute.{onward, wholly, finish, execute}
use Rattle.execute.specs.Modes.{limbs_in, settle_sources}
use Rattle.execute.specs.Rules.{Rules}
use Rattle.execute.specs.declared.Mode.{Mode}
use Rattle.execute.specs.declared.Went.{Went}
use Rattle.execute.specs.declared.Went.TheVariants as W
use Rattle.pending.specs.Pending.{Lists, room_of, lacks}
use Rattle.pending.specs.declared.Room.{Room}
use Rattle.step.specs.Step.{step_of}
use Rattle.agreement.proofs.Cases.{cond-case, step_case}

abbrev Keeps : World → Went → World → Type 0
Keeps w W.On v = v.halted ≡ w.halted
Keeps w W.Ebreak v = Unit {0}
Keeps w W.Ecall v = Unit {0}
Keeps w (W.Refused r) v = Unit {0}

abbrev Kept : World → Stepped → Type 0
Kept w s = Keeps w s.went s.world

goes-keep : (g : Goes) (w v : World) → v.halted ≡ marked g w.halted → Keeps w (went_of g) v
goes-keep G.On w v e = e
goes-keep G.Ebreak w v e = tt
goes-keep G.Ecall w v e = tt

done-keeps : (room : Room) (o : Outcome) (w : World) (R : Registers) → Kept w (done room o w R)
unfolding done
done-keeps room (Refuses r) w R = tt
done-keeps room (Does e) w R =
    cond-case (Kept w) (lacks room (length (checks_for e))) (refused _ w) (does e w.halted R w.memory)
    (λ _. tt)
    (λ _. goes-keep e.goes w _ refl)

module _ (k : Mode) (R : Rules) where
  execute-keeps : (room : Room) (i : Instruction) (w : World) → Kept w (execute k room R.notes i w)
  unfolding execute finish
  execute-keeps room i w =
      let l = limbs_in k R.notes i w.registers in
      cond-case (Kept w) l.waits (onward w l.registers) (wholly room R.notes i w (settle_sources k i w.registers))
      (λ _. refl)
      (λ _. done-keeps room _ w _)

  pub mark-kept : (w : World) (l : Lists) → (step_of k R w l).went ≡ W.On → (step_of k R w l).world.halted ≡ w.halted
  unfolding step_of
  mark-kept w l e = rw e at (step_case Kept k (room_of l) R (λ r w. tt) (execute-keeps (room_of l)) w)
