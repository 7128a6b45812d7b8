-- What the deferred mode does beside the instruction on whole values, and the plain one does not.
use Rattle.std.specs.Prelude.{false}
use Rattle.state.specs.declared.registers.Registers.{Registers}
use Rattle.effect.specs.Notes.{Notes}
use Rattle.deferred.specs.Limbs.{Limbed, limbed, limbs}
use Rattle.deferred.specs.Sources.{sources, normalise_each}
use Rattle.instruction.specs.declared.Instruction.{Instruction}
use Rattle.execute.specs.declared.Mode.{Mode}
use Rattle.execute.specs.declared.Mode.TheVariants.{Plain, Deferred}

unfoldable pub limbs_in : Mode → Notes → Instruction → Registers → Limbed
limbs_in Plain N i R = limbed false R
limbs_in Deferred N i R = limbs N i R

unfoldable pub settle_sources : Mode → Instruction → Registers → Registers
settle_sources Plain i R = R
settle_sources Deferred i R = normalise_each (sources i) R
