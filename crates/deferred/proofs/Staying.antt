-- What is not done on limbs leaves the registers.
use mathlib.Core.Path.{◌≡◌, refl}
use mathlib.Core.Bool.{Bool, true, false, cond}
use Rattle.state.specs.declared.registers.Registers.{Registers}
use Rattle.state.specs.Registers.{holds}
use Rattle.effect.specs.Notes.{Notes}
use Rattle.deferred.specs.Limbs.{limbed, covers, subtracted, limbs}
use Rattle.instruction.specs.declared.Instruction.{Instruction}
use Rattle.instruction.specs.declared.Instruction.TheVariants.{Add, Sub, Addi, Mul, Divide, Op, OpImm, Move, Load, Store, Branch, Jal, Jalr, Ecall, Ebreak}

not-waiting : (t : Bool) (R S : Registers) → (cond t (limbed true S) (limbed false R)).waits ≡ false → cond t (limbed true S) (limbed false R) ≡ limbed false R
not-waiting true R S e = cc
not-waiting false R S e = refl

pub unlimbed : (N : Notes) (i : Instruction) (R : Registers) → (limbs N i R).waits ≡ false → limbs N i R ≡ limbed false R
unfolding limbs
unlimbed N (Add rd rs1 rs2) R e = cc
unlimbed N (Sub rd rs1 rs2) R e = not-waiting (covers (holds R rs1) (holds R rs2)) R (subtracted N rd rs1 rs2 R) e
unlimbed N (Addi rd rs1 imm) R e = cc
unlimbed N (Mul rd rs1 rs2) R e = refl
unlimbed N (Divide op rd rs1 rs2) R e = refl
unlimbed N (Op op rd rs1 rs2) R e = refl
unlimbed N (OpImm op rd rs1 imm) R e = refl
unlimbed N (Move op rd rs1 rs2) R e = refl
unlimbed N (Load op rd rs1 imm) R e = refl
unlimbed N (Store op rs1 rs2 imm) R e = refl
unlimbed N (Branch op rs1 rs2 imm) R e = refl
unlimbed N (Jal rd imm) R e = refl
unlimbed N (Jalr rd rs1 imm) R e = refl
unlimbed N Ecall R e = refl
unlimbed N Ebreak R e = refl
