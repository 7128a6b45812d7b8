-- Every instruction keeps a mark for each register.
use Prim.Native.Nat.{ℕ, zero, suc, ◌%◌}
use mathlib.Core.Bool.{Bool}
use lib.ListN.{length-set}
use Rattle.state.specs.Held.{Held, settled}
use Rattle.state.specs.declared.registers.Registers.{Registers}
use Rattle.state.specs.Registers.{place, put, normalise}
use Rattle.effect.specs.Notes.{Notes}
use Rattle.instruction.specs.declared.Instruction.{Instruction}
use Rattle.execute.specs.World.{World}
use Rattle.deferred.specs.Limbs.{sum_of, sum_fits, sum_into}
use Rattle.execute.specs.Execute.{execute}
use Rattle.pending.specs.declared.Room.{Room}
use Rattle.execute.specs.declared.Mode.{Mode}
use Rattle.agreement.specs.Reading.{Sized}
use Rattle.agreement.proofs.Cases.{cond-case}
use Rattle.agreement.proofs.Keeping.{execute-keeps}

sized-place : (k v : ℕ) (f : Bool) (b : ℕ) (R : Registers) → Sized R → Sized (place k v f b R)
unfolding place
sized-place zero v f b R z = z
sized-place (suc k) v f b R z = rw length-set z

sized-put : (R : Registers) (rd : ℕ) (x : Held) (b : ℕ) → Sized R → Sized (put R rd x b)
sized-put R rd x b z = sized-place (rd % 16) _ _ b R z

pub sized-normalise : (n : ℕ) (R : Registers) → Sized R → Sized (normalise n R)
unfolding normalise
sized-normalise n R z = sized-put R n _ _ z

sized-sum : (rd : ℕ) (x y : Held) (b : ℕ) (R T : Registers) → Sized R → Sized T → Sized (sum_into rd x y b R T)
unfolding sum_into
sized-sum rd x y b R T z u =
    cond-case (λ (S : Registers). Sized S) (sum_fits x y) (put R rd (sum_of x y) b) (put T rd (sum_of (settled x) (settled y)) b)
    (λ _. sized-put R rd _ b z)
    (λ _. sized-put T rd _ b u)

pub sized-after : (N : Notes) (k : Mode) (room : Room) (i : Instruction) (w : World) → Sized w.registers → Sized (execute k room N i w).world.registers
sized-after N =
    execute-keeps (λ (S : Registers). Sized S) N sized-normalise
    (λ rd x y a b R T. sized-sum rd x y _ R T)
    (λ rd rs1 rs2 R. sized-put R rd _ _)
    (λ i v m e R p. sized-put R _ _ _)
