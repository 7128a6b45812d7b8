-- "In a deferred run every other instruction first normalises its rs1, then rs2, as far as it has them; Ecall normalises R1 to R15;
-- Ebreak none."
use Rattle.std.specs.Prelude.{ℕ, List, [], ◌∷◌}
use Rattle.state.specs.declared.registers.Registers.{Registers}
use Rattle.state.specs.Registers.{normalise}
use Rattle.instruction.specs.declared.Instruction.{Instruction}
use Rattle.instruction.specs.declared.Instruction.TheVariants.{Add, Sub, Addi, Mul, Divide, Op, OpImm, Move, Load, Store, Branch, Jal, Jalr, Ecall, Ebreak}

unfoldable pub sources : Instruction → List ℕ
sources (Add rd rs1 rs2) = rs1 ∷ rs2 ∷ []
sources (Sub rd rs1 rs2) = rs1 ∷ rs2 ∷ []
sources (Addi rd rs1 imm) = rs1 ∷ []
sources (Mul rd rs1 rs2) = rs1 ∷ rs2 ∷ []
sources (Divide op rd rs1 rs2) = rs1 ∷ rs2 ∷ []
sources (Op op rd rs1 rs2) = rs1 ∷ rs2 ∷ []
sources (OpImm op rd rs1 imm) = rs1 ∷ []
sources (Move op rd rs1 rs2) = rs1 ∷ rs2 ∷ []
sources (Load op rd rs1 imm) = rs1 ∷ []
sources (Store op rs1 rs2 imm) = rs1 ∷ rs2 ∷ []
sources (Branch op rs1 rs2 imm) = rs1 ∷ rs2 ∷ []
sources (Jal rd imm) = []
sources (Jalr rd rs1 imm) = rs1 ∷ []
sources Ecall = 1 ∷ 2 ∷ 3 ∷ 4 ∷ 5 ∷ 6 ∷ 7 ∷ 8 ∷ 9 ∷ 10 ∷ 11 ∷ 12 ∷ 13 ∷ 14 ∷ 15 ∷ []
sources Ebreak = []

-- one after another
unfoldable pub normalise_each : List ℕ → Registers → Registers
normalise_each [] R = R
normalise_each (n ∷ ns) R = normalise_each ns (normalise n R)
