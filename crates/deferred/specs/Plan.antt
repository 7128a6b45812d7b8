-- Inner: what the code decides on before anything changes: what it reads of a source, and what a limb form then does to the registers.
use Rattle.std.specs.Prelude.{ℕ, ◌%◌, ◌^◌, ◌<◌, ◌≡◌, true, false, cond}
use Rattle.state.specs.Held.{Held, Limbs, low_of, high_of}
use Rattle.state.specs.declared.registers.Registers.{Registers}
use Rattle.state.specs.Registers.{place, normalise}
use Rattle.deferred.specs.Limbs.{Limbed, limbed}
use Rattle.deferred.specs.declared.sums.Operand.{Operand}
use Rattle.deferred.specs.declared.sums.Plan.{Plan}

-- an operand is the limbs of what a register holds, and its bound
abbrev pub operand : Held → ℕ → Operand
operand h b = record { low = low_of h; high = high_of h; bound = b }

abbrev pub limbs_of : Operand → Held
limbs_of o = Limbs o.low o.high

abbrev pub Small : Operand → Type 0
Small o = (o.low < 2 ^ 30) × (o.high < 2 ^ 34)

abbrev pub settled_for : Plan → ℕ → Registers → Registers
settled_for k rs1 R = cond k.forced (normalise k.rs2 (normalise rs1 R)) R

abbrev pub planned_into : Plan → ℕ → ℕ → Registers → Registers
planned_into k rd rs1 R = place (rd % 16) k.kept true k.bound (settled_for k rs1 R)

abbrev pub planned : Plan → ℕ → ℕ → Registers → Limbed
planned k rd rs1 R = cond k.waits (limbed true (planned_into k rd rs1 R)) (limbed false R)

-- of whatever rd, rs1 and registers, since it is decided from the operands alone
abbrev pub Plans : Plan → (ℕ → ℕ → Registers → Limbed) → Type 0
Plans k f = (rd rs1 : ℕ) (R : Registers) → planned k rd rs1 R ≡ f rd rs1 R
