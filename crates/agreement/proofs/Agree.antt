-- An instruction in either mode, its accumulated registers read as their values, is the plain instruction on the values.
use Prim.Native.Nat.{ℕ, ◌+◌, ◌%◌}
use mathlib.Core.Path.{◌≡◌, refl, ap, ◌∙◌}
use mathlib.Core.Bool.{Bool, true, false}
use lib.ListN.{get_or}
use native.Mathlib.Omega.{arith}
use Rattle.value.specs.Forty.{add40, sub40}
use Rattle.state.specs.Held.{Held, Whole, value_of, low_of, high_of, settled}
use Rattle.state.specs.declared.registers.Registers.{Registers}
use Rattle.state.specs.Registers.{put, holds, noted}
use Rattle.effect.specs.Operations.{plus64}
use Rattle.effect.specs.Notes.{Notes}
use Rattle.effect.specs.Effects.{seen, writing, effect}
use Rattle.effect.specs.Outcomes.{Outcome, Does, Refuses}
use Rattle.execute.specs.World.{World, Stepped, done}
use Rattle.deferred.specs.Limbs.{sum_of, sum_fits, sum_into, added, added_imm, covers, subtracted, limbs}
use Rattle.execute.specs.Modes.{limbs_in, settle_sources}
use Rattle.execute.specs.Execute.{wholly, onward, finish, execute}
use Rattle.pending.specs.declared.Room.TheVariants.{Unlent}
use Rattle.pending.specs.Pending.{lacks}
use Rattle.execute.specs.declared.Mode.{Mode}
use Rattle.execute.specs.declared.Mode.TheVariants.{Plain, Deferred}
use Rattle.deferred.proofs.Waiting.{fits-true, covers-true}
use Rattle.instruction.specs.declared.Instruction.{Instruction}
use Rattle.instruction.specs.declared.Instruction.TheVariants.{Add, Sub, Addi}
use Rattle.agreement.specs.Reading.{read_all, read_world, unchecked, read_step, Sized}
use Rattle.agreement.specs.Statements.{InstructionsAgree}
use Rattle.agreement.proofs.Cases.{cond-case, limb-cases}
use Rattle.agreement.proofs.Values.{low_small, sum-value, settled-sum, settled-sum-value, difference-value}
use Rattle.agreement.proofs.Reading.{seen_read, read_whole, read-put, read-normalise, read-settle}
use Rattle.agreement.proofs.Sized.{sized-normalise}

-- ---- on whole values, after what the mode normalises
done-reads : (o : Outcome) (w : World) (R : Registers) → read_step (done Unlent o w R) ≡ unchecked (done Unlent o (read_world w) (read_all R))
unfolding done lacks
done-reads (Refuses r) w R = refl
done-reads (Does e) w R = rw read_whole

wholly-reads : (N : Notes) (i : Instruction) (w : World) (R : Registers) → read_step (wholly Unlent N i w R) ≡ unchecked (wholly Unlent N i (read_world w) (read_all R))
wholly-reads N i w R = rw (seen_read w.pc R) (done-reads _ w R)

settled-reads : (k : Mode) (N : Notes) (i : Instruction) (w : World)
    → read_step (wholly Unlent N i w (settle_sources k i w.registers)) ≡ unchecked (wholly Unlent N i (read_world w) (read_all w.registers))
settled-reads k N i w = rw (wholly-reads N i w (settle_sources k i w.registers), read-settle k i w.registers)

-- ---- on limbs: the registers, read
sum-reads : (rd : ℕ) (x y : Held) (b : ℕ) (R T : Registers) → Sized R → Sized T → read_all T ≡ read_all R
    → read_all (sum_into rd x y b R T) ≡ put (read_all R) rd (Whole (add40 (value_of x) (value_of y))) b
unfolding sum_into low_of
sum-reads rd x y b R T z u e =
    cond-case (λ (S : Registers). read_all S ≡ put (read_all R) rd (Whole (add40 (value_of x) (value_of y))) b) (sum_fits x y)
    (put R rd (sum_of x y) b)
    (put T rd (sum_of (settled x) (settled y)) b)
    (λ f. read-put R rd (sum_of x y) b (fits-true (low_of x + low_of y) (high_of x + high_of y) f).0 z ∙ rw (sum-value x y))
    (λ _. read-put T rd (sum_of (settled x) (settled y)) b (settled-sum x y).0 u ∙ rw (settled-sum-value x y, e))

difference-reads : (N : Notes) (rd rs1 rs2 : ℕ) (R : Registers) → Sized R → covers (holds R rs1) (holds R rs2) ≡ true
    → read_all (subtracted N rd rs1 rs2 R)
    ≡ put (read_all R) rd (Whole (sub40 (value_of (holds R rs1)) (value_of (holds R rs2)))) (N.difference (noted R rs1) (noted R rs2))
unfolding low_of
difference-reads N rd rs1 rs2 R z e =
    let t = covers-true (holds R rs1) (holds R rs2) e in
    let s = low_small (get_or R.accumulated (rs1 % 16) false) (get_or R.values (rs1 % 16) 0) in
    read-put R rd _ _ (omega arith) z ∙ rw (difference-value (holds R rs1) (holds R rs2) t.0 t.1)

module _ (N : Notes) (w : World) (z : Sized w.registers) where
  -- the plain instruction on the values
  abbrev plainly : Instruction → Stepped
  plainly i = unchecked (wholly Unlent N i (read_world w) (read_all w.registers))

  -- one that only writes
  plainly-writes : (i : Instruction) (t : Bool) (rd v b : ℕ) → effect N i (seen w.pc w.registers) w.memory ≡ writing t rd v b (plus64 w.pc 4)
      → onward (read_world w) (put (read_all w.registers) rd (Whole v) b) ≡ plainly i
  unfolding done lacks
  plainly-writes i t rd v b e = rw (seen_read w.pc w.registers, e)

  -- the limb forms, with registers S that read so
  limbs-read : (i : Instruction) (S : Registers) (t : Bool) (rd v b : ℕ) → read_all S ≡ put (read_all w.registers) rd (Whole v) b
      → effect N i (seen w.pc w.registers) w.memory ≡ writing t rd v b (plus64 w.pc 4) → read_step (onward w S) ≡ plainly i
  limbs-read i S t rd v b p e = ap (onward (read_world w)) p ∙ plainly-writes i t rd v b e

  limbs-agree : (i : Instruction) → read_step (finish Deferred Unlent N i w (limbs N i w.registers)) ≡ plainly i
  unfolding finish effect seen value_of
  limbs-agree =
      limb-cases N w.registers (λ i l. read_step (finish Deferred Unlent N i w l) ≡ plainly i)
      (λ rd rs1 rs2.
      limbs-read (Add rd rs1 rs2) (added N rd rs1 rs2 w.registers) _ rd _ _
      (sum-reads rd _ _ _ w.registers _ z (sized-normalise rs2 _ (sized-normalise rs1 _ z)) (read-normalise rs2 _ ∙ read-normalise rs1 _))
      refl)
      (λ rd rs1 imm.
      limbs-read (Addi rd rs1 imm) (added_imm N rd rs1 imm w.registers) _ rd _ _
      (sum-reads rd _ (Whole imm) _ w.registers _ z (sized-normalise rs1 _ z) (read-normalise rs1 _))
      refl)
      (λ rd rs1 rs2 e. limbs-read (Sub rd rs1 rs2) (subtracted N rd rs1 rs2 w.registers) _ rd _ _ (difference-reads N rd rs1 rs2 w.registers z e) refl)
      (λ i. settled-reads Deferred N i w)

pub instructions-agree : InstructionsAgree
unfolding execute limbs_in finish settle_sources
instructions-agree Plain N i w z = wholly-reads N i w w.registers
instructions-agree Deferred N i w z = limbs-agree N w z i
