-- The cases of a test, of the instructions by their limb forms, and of a step.
use Rattle.std.specs.Prelude.{Err, Ok, Result}
use Prim.Native.Nat.{ℕ}
use mathlib.Core.Path.{◌≡◌, refl}
use mathlib.Core.Bool.{Bool, true, false, cond}
use Rattle.refusal.specs.declared.Refusal.{Refusal}
use Rattle.memory.specs.Memory.{fetch_of}
use Rattle.state.specs.declared.registers.Registers.{Registers}
use Rattle.state.specs.Registers.{holds}
use Rattle.effect.specs.Notes.{Notes}
use Rattle.deferred.specs.Limbs.{Limbed, limbed, added, added_imm, covers, subtracted, limbs}
use Rattle.words.specs.Words.{decode_in}
use Rattle.execute.specs.World.{World, Stepped, refused}
use Rattle.execute.specs.Execute.{execute}
use Rattle.execute.specs.Rules.{Rules, obey}
use Rattle.execute.specs.declared.Mode.{Mode}
use Rattle.pending.specs.declared.Room.{Room}
use Rattle.step.specs.Step.{fetched, step_in}
use Rattle.instruction.specs.declared.Instruction.{Instruction}
use Rattle.instruction.specs.declared.Instruction.TheVariants.{Add, Sub, Addi, Mul, Divide, Op, OpImm, Move, Load, Store, Branch, Jal, Jalr, Ecall, Ebreak}

pub cond-case : {A : Type 0} (P : A → Type 0) (t : Bool) (a b : A) → (t ≡ true → P a) → (t ≡ false → P b) → P (cond t a b)
cond-case P true a b f g = f refl
cond-case P false a b f g = g refl

pub test-case : {P : Type 0} (t : Bool) → (t ≡ true → P) → (t ≡ false → P) → P
test-case true f g = f refl
test-case false f g = g refl

-- only Add, Addi and Sub have one
module _ (N : Notes) (R : Registers) (P : Instruction → Limbed → Type 0)
    (add : (rd rs1 rs2 : ℕ) → P (Add rd rs1 rs2) (limbed true (added N rd rs1 rs2 R)))
    (addi : (rd rs1 imm : ℕ) → P (Addi rd rs1 imm) (limbed true (added_imm N rd rs1 imm R)))
    (sub : (rd rs1 rs2 : ℕ) → covers (holds R rs1) (holds R rs2) ≡ true → P (Sub rd rs1 rs2) (limbed true (subtracted N rd rs1 rs2 R)))
    (other : (i : Instruction) → P i (limbed false R)) where
  pub limb-cases : (i : Instruction) → P i (limbs N i R)
  unfolding limbs
  limb-cases (Add rd rs1 rs2) = add rd rs1 rs2
  limb-cases (Sub rd rs1 rs2) = cond-case (P (Sub rd rs1 rs2)) _ _ _ (sub rd rs1 rs2) (λ _. other (Sub rd rs1 rs2))
  limb-cases (Addi rd rs1 imm) = addi rd rs1 imm
  limb-cases (Mul rd rs1 rs2) = other _
  limb-cases (Divide op rd rs1 rs2) = other _
  limb-cases (Op op rd rs1 rs2) = other _
  limb-cases (OpImm op rd rs1 imm) = other _
  limb-cases (Move op rd rs1 rs2) = other _
  limb-cases (Load op rd rs1 imm) = other _
  limb-cases (Store op rs1 rs2 imm) = other _
  limb-cases (Branch op rs1 rs2 imm) = other _
  limb-cases (Jal rd imm) = other _
  limb-cases (Jalr rd rs1 imm) = other _
  limb-cases Ecall = other _
  limb-cases Ebreak = other _

-- refused as its word is fetched or decoded, or an instruction
module _ (P : World → Stepped → Type 0) (k : Mode) (room : Room) (R : Rules)
    (refuses : (r : Refusal) (w : World) → P w (refused r w))
    (executes : (i : Instruction) (w : World) → P w (execute k room R.notes i w)) where
  obey-case : (d : Result Instruction Refusal) (w : World) → P w (obey k room R d w)
  unfolding obey
  obey-case (Ok i) w = executes i w
  obey-case (Err r) w = refuses r w

  fetched-case : (f : Result ℕ Refusal) (w : World) → P w (fetched k room R f w)
  unfolding fetched
  fetched-case (Ok x) w = obey-case (decode_in R.number x) w
  fetched-case (Err r) w = refuses r w

  pub step_case : (w : World) → P w (step_in k room R w)
  step_case w = fetched-case (fetch_of w.memory w.pc) w
