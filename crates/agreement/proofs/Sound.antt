-- Every instruction keeps well-formed registers well-formed, in either mode, a pending list full or not; and so do steps and runs.
use Prim.Native.Nat.{ℕ, ◌≤◌}
use mathlib.Core.Path.{◌≡◌}
use mathlib.Core.Bool.{true}
use native.Mathlib.Omega.{arith}
use Rattle.state.specs.Held.{Held, low_of, high_of, settled}
use Rattle.state.specs.declared.registers.Registers.{Registers}
use Rattle.state.specs.Formed.{well_formed}
use Rattle.effect.specs.Notes.{Notes}
use Rattle.execute.specs.World.{World}
use Rattle.deferred.specs.Limbs.{sum_of, sum_fits, sum_into, subtracted}
use Rattle.execute.specs.Execute.{execute}
use Rattle.pending.specs.declared.Room.{Room}
use Rattle.execute.specs.declared.Mode.{Mode}
use Rattle.deferred.proofs.Waiting.{fits-true}
use Rattle.instruction.specs.declared.Instruction.{Instruction}
use Rattle.agreement.specs.Keeping.{Capped}
use Rattle.agreement.specs.Statements.{InstructionsKeep, StepsKeep, RunsKeep}
use Rattle.agreement.proofs.Cases.{cond-case}
use Rattle.agreement.proofs.Values.{settled-sum}
use Rattle.agreement.proofs.Formed.{Formed, formed, well-formed, formed-put, formed-whole, formed-normalise}
use Rattle.agreement.proofs.Capped.{effect-bound}
use Rattle.agreement.proofs.Keeping.{execute-keeps, step_keeps, run-keeps}

-- a sum that fits, or one of normalised limbs, which are below 2^20
formed-sum : (rd : ℕ) (x y : Held) (b : ℕ) (R T : Registers) → b ≤ 64 → Formed R → Formed T → Formed (sum_into rd x y b R T)
unfolding sum_into low_of high_of
formed-sum rd x y b R T l h t =
    cond-case Formed (sum_fits x y) _ _
    (λ e. formed-put R rd (sum_of x y) b (fits-true _ _ e) l h)
    (λ _. formed-put T rd (sum_of (settled x) (settled y)) b (settled-sum x y) l t)

module _ (N : Notes) (c : Capped N) where
  -- a difference of limbs below 2^30
  formed-difference : (rd rs1 rs2 : ℕ) (R : Registers) → Formed R → Formed (subtracted N rd rs1 rs2 R)
  unfolding low_of high_of
  formed-difference rd rs1 rs2 R h = formed-put R rd _ _ (let s = h.small rs1 in omega arith) (c.difference _ _) h

  formed-execute : (k : Mode) (room : Room) (i : Instruction) (w : World) → Formed w.registers → Formed (execute k room N i w).world.registers
  formed-execute =
      execute-keeps Formed N formed-normalise
      (λ rd x y a b R T. formed-sum rd x y _ R T (c.sum a b))
      formed-difference
      (λ i v m e R p. formed-whole R _ _ _ (effect-bound N c i v m e p))

pub formed-after : InstructionsKeep
formed-after N c k room i w e = well-formed _ (formed-execute N c k room i w (formed w.registers e))

pub formed-after-step : StepsKeep
formed-after-step R c k = step_keeps (λ w. well_formed w.registers ≡ true) k R (formed-after R.notes c k)

pub formed-after-run : RunsKeep
formed-after-run R c k = run-keeps (λ w. well_formed w.registers ≡ true) k R (formed-after R.notes c k)
