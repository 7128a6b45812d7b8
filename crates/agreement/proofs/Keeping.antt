-- What normalising and the writes of each form keep, every instruction keeps, and every step and run.
use Prim.Native.Nat.{ℕ, zero, suc}
use mathlib.Core.Path.{◌≡◌, refl}
use mathlib.Core.Bool.{◌&&◌}
use mathlib.Core.List.{List, [], ◌∷◌}
use lib.ListN.{length}
use Rattle.state.specs.Held.{Held, Whole}
use Rattle.state.specs.declared.registers.Registers.{Registers}
use Rattle.state.specs.Registers.{put, normalise}
use Rattle.effect.specs.Notes.{Notes}
use Rattle.effect.specs.Effects.{Seen, effect}
use Rattle.effect.specs.Outcomes.{Effect, Outcome, Does, Refuses}
use Rattle.instruction.specs.declared.Instruction.{Instruction}
use Rattle.execute.specs.World.{World, Stepped, refused, checks_for, does, done}
use Rattle.deferred.specs.Limbs.{sum_into, subtracted}
use Rattle.deferred.specs.Sources.{sources, normalise_each}
use Rattle.execute.specs.Modes.{limbs_in, settle_sources}
use Rattle.execute.specs.Execute.{onward, finish, execute, admits}
use Rattle.execute.specs.declared.Mode.{Mode}
use Rattle.execute.specs.declared.Mode.TheVariants.{Plain, Deferred}
use Rattle.pending.specs.Pending.{Lists, lists_fit, room_of}
use Rattle.execute.specs.Rules.{Rules}
use Rattle.pending.specs.Pending.{lacks}
use Rattle.pending.specs.declared.Room.{Room}
use Rattle.step.specs.Step.{Left, left, step_of, step, goes_on}
use Rattle.run.specs.Run.{Answer, answer, preceded, following, loop, run}
use Rattle.agreement.proofs.Cases.{cond-case, limb-cases, step_case}

module _ (Q : Registers → Type 0) (N : Notes)
    (whole : (i : Instruction) (v : Seen) (m : List ℕ) (e : Effect) (R : Registers) → effect N i v m ≡ Does e → Q R → Q (put R e.rd (Whole e.value) e.bound)) where
  done-keeps : (room : Room) (i : Instruction) (v : Seen) (o : Outcome) (w : World) (R : Registers) → effect N i v w.memory ≡ o → Q w.registers
      → Q R → Q (done room o w R).world.registers
  unfolding done
  done-keeps room i v (Refuses r) w R p z h = z
  done-keeps room i v (Does e) w R p z h =
      cond-case (λ (s : Stepped). Q s.world.registers) (lacks room (length (checks_for e))) (refused _ w) (does e w.halted R w.memory)
      (λ _. z)
      (λ _. whole i v w.memory e R p h)

  -- the plain mode normalises nothing and has no limb forms
  pub plain-keeps : (room : Room) (i : Instruction) (w : World) → Q w.registers → Q (execute Plain room N i w).world.registers
  unfolding execute finish limbs_in settle_sources
  plain-keeps room i w h = done-keeps room i _ _ w _ refl h h

module _ (Q : Registers → Type 0) (N : Notes)
    (normal : (n : ℕ) (R : Registers) → Q R → Q (normalise n R))
    (sum : (rd : ℕ) (x y : Held) (a b : ℕ) (R T : Registers) → Q R → Q T → Q (sum_into rd x y (N.sum a b) R T))
    (difference : (rd rs1 rs2 : ℕ) (R : Registers) → Q R → Q (subtracted N rd rs1 rs2 R)) where
  each_keeps : (ns : List ℕ) (R : Registers) → Q R → Q (normalise_each ns R)
  unfolding normalise_each
  each_keeps [] R h = h
  each_keeps (n ∷ ns) R h = each_keeps ns _ (normal n R h)

  pub settle-keeps : (k : Mode) (i : Instruction) (R : Registers) → Q R → Q (settle_sources k i R)
  unfolding settle_sources
  settle-keeps Plain i R h = h
  settle-keeps Deferred i R h = each_keeps (sources i) R h

  pub limbs-keep : (k : Mode) (i : Instruction) (R : Registers) → Q R → Q (limbs_in k N i R).registers
  unfolding limbs_in
  limbs-keep Plain i R h = h
  limbs-keep Deferred i R h =
      limb-cases N R (λ _ l. Q l.registers)
      (λ rd rs1 rs2. sum rd _ _ _ _ R _ h (normal rs2 _ (normal rs1 R h)))
      (λ rd rs1 imm. sum rd _ _ _ _ R _ h (normal rs1 R h))
      (λ rd rs1 rs2 _. difference rd rs1 rs2 R h)
      (λ _. h)
      i

  pub execute-keeps : ((i : Instruction) (v : Seen) (m : List ℕ) (e : Effect) (R : Registers) → effect N i v m ≡ Does e → Q R → Q (put R e.rd (Whole e.value) e.bound))
      → (k : Mode) (room : Room) (i : Instruction) (w : World) → Q w.registers → Q (execute k room N i w).world.registers
  unfolding execute finish
  execute-keeps whole k room i w h =
      let l = limbs_in k N i w.registers in
      cond-case (λ (s : Stepped). Q s.world.registers) l.waits (onward w l.registers) _
      (λ _. limbs-keep k i w.registers h)
      (λ _. done-keeps Q N whole room i _ _ w _ refl h (settle-keeps k i w.registers h))

module _ (Q : World → Type 0) (k : Mode) (R : Rules)
    (keeps : (room : Room) (i : Instruction) (w : World) → Q w → Q (execute k room R.notes i w).world) where
  pub inner-step-keeps : (w : World) (l : Lists) → Q w → Q (step_of k R w l).world
  unfolding step_of
  inner-step-keeps w l = step_case (λ (w : World) (s : Stepped). Q w → Q s.world) k (room_of l) R (λ r w h. h) (keeps (room_of l)) w

  pub step_keeps : (w : World) (l : Lists) → Q w → Q (step k R w l).world
  unfolding step
  step_keeps w l h =
      cond-case (λ (s : Left). Q s.world) (admits k w.registers && lists_fit l) (step_of k R w l) (left _ w l)
      (λ _. inner-step-keeps w l h)
      (λ _. h)

  abbrev QAfter : Answer → Type 0
  QAfter a = Q a.world

  loop-keeps : (n : ℕ) (w : World) (l : Lists) → Q w → QAfter (loop n k R w l)
  unfolding loop following
  loop-keeps zero w l h = h
  loop-keeps (suc n) w l h =
      let s = step_of k R w l in
      let z = inner-step-keeps w l h in
      cond-case QAfter (goes_on s.went) (preceded 1 (loop n k R s.world s.lists)) (answer _ _ s.world _)
      (λ _. loop-keeps n s.world s.lists z)
      (λ _. z)

  pub run-keeps : (fuel : ℕ) (w : World) (l : Lists) → Q w → QAfter (run k R fuel w l)
  unfolding run
  run-keeps fuel w l h =
      cond-case QAfter (admits k w.registers && lists_fit l) _ (answer _ _ w _)
      (λ _. cond-case QAfter w.halted (answer _ _ w _) (loop fuel k R w l) (λ _. h) (λ _. loop-keeps fuel w l h))
      (λ _. h)
