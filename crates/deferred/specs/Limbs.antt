-- Document 01, "Limbs": Add, Sub and Addi on limbs, as deferred.rs has them with 01's changes.
use Rattle.std.specs.Prelude.{ℕ, ◌+◌, ◌-◌, ◌^◌, Bool, true, false, cond, ◌&&◌, leb, ltb}
use Rattle.state.specs.Held.{Held, Whole, Limbs, low_of, high_of, settled}
use Rattle.state.specs.declared.registers.Registers.{Registers}
use Rattle.state.specs.Registers.{holds, noted, put, normalise}
use Rattle.effect.specs.Notes.{Notes}
use Rattle.instruction.specs.declared.Instruction.{Instruction}
use Rattle.instruction.specs.declared.Instruction.TheVariants.{Add, Sub, Addi, Mul, Divide, Op, OpImm, Move, Load, Store, Branch, Jal, Jalr, Ecall, Ebreak}

abbrev pub sum_of : Held → Held → Held
sum_of x y = Limbs (low_of x + low_of y) (high_of x + high_of y)

-- neither limb sum reaches 2^30
abbrev pub sum_fits : Held → Held → Bool
sum_fits x y = ltb (low_of x + low_of y) (2 ^ 30) && ltb (high_of x + high_of y) (2 ^ 30)

-- "Add and Addi normalise their sources when a limb sum reaches 2^30, then add again": T is R with the sources normalised
unfoldable pub sum_into : ℕ → Held → Held → ℕ → Registers → Registers → Registers
sum_into rd x y bound R T = cond (sum_fits x y) (put R rd (sum_of x y) bound) (put T rd (sum_of (settled x) (settled y)) bound)

abbrev pub added : Notes → ℕ → ℕ → ℕ → Registers → Registers
added N rd rs1 rs2 R =
    sum_into rd (holds R rs1) (holds R rs2) (N.sum (noted R rs1) (noted R rs2)) R (normalise rs2 (normalise rs1 R))

-- an immediate's limbs are those of a whole register
abbrev pub added_imm : Notes → ℕ → ℕ → ℕ → Registers → Registers
added_imm N rd rs1 imm R = sum_into rd (holds R rs1) (Whole imm) (N.sum (noted R rs1) (N.immediate imm)) R (normalise rs1 R)

-- "Sub subtracts limb by limb if neither limb of rs1 is smaller than that of rs2"
abbrev pub covers : Held → Held → Bool
covers x y = leb (low_of y) (low_of x) && leb (high_of y) (high_of x)

abbrev pub subtracted : Notes → ℕ → ℕ → ℕ → Registers → Registers
subtracted N rd rs1 rs2 R =
    put R rd (Limbs (low_of (holds R rs1) - low_of (holds R rs2)) (high_of (holds R rs1) - high_of (holds R rs2)))
    (N.difference (noted R rs1) (noted R rs2))

-- whether the instruction is done on limbs, and the registers then
pub record Limbed : Type 0 where
  pub waits : Bool
  pub registers : Registers

abbrev pub limbed : Bool → Registers → Limbed
limbed t R = record { waits = t; registers = R }

unfoldable pub limbs : Notes → Instruction → Registers → Limbed
limbs N (Add rd rs1 rs2) R = limbed true (added N rd rs1 rs2 R)
limbs N (Sub rd rs1 rs2) R = cond (covers (holds R rs1) (holds R rs2)) (limbed true (subtracted N rd rs1 rs2 R)) (limbed false R)
limbs N (Addi rd rs1 imm) R = limbed true (added_imm N rd rs1 imm R)
limbs N (Mul rd rs1 rs2) R = limbed false R
limbs N (Divide op rd rs1 rs2) R = limbed false R
limbs N (Op op rd rs1 rs2) R = limbed false R
limbs N (OpImm op rd rs1 imm) R = limbed false R
limbs N (Move op rd rs1 rs2) R = limbed false R
limbs N (Load op rd rs1 imm) R = limbed false R
limbs N (Store op rs1 rs2 imm) R = limbed false R
limbs N (Branch op rs1 rs2 imm) R = limbed false R
limbs N (Jal rd imm) R = limbed false R
limbs N (Jalr rd rs1 imm) R = limbed false R
limbs N Ecall R = limbed false R
limbs N Ebreak R = limbed false R

-- the limb form, if one is asked for
abbrev pub limbs_if : Bool → Notes → Instruction → Registers → Limbed
limbs_if t N i R = cond t (limbs N i R) (limbed false R)
