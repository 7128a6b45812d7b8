-- An instruction executed, in the plain and in the deferred mode.
use Rattle.std.specs.Prelude.{Bool, cond, ◌&&◌, []}
use Rattle.state.specs.declared.registers.Registers.{Registers}
use Rattle.state.specs.Formed.{well_formed, all_whole}
use Rattle.effect.specs.Operations.{plus64}
use Rattle.effect.specs.Notes.{Notes}
use Rattle.effect.specs.Effects.{seen, effect}
use Rattle.execute.specs.World.{World, world, Stepped, stepped, done}
use Rattle.deferred.specs.Limbs.{Limbed}
use Rattle.execute.specs.Modes.{limbs_in, settle_sources}
use Rattle.instruction.specs.declared.Instruction.{Instruction}
use Rattle.execute.specs.declared.Mode.{Mode}
use Rattle.execute.specs.declared.Mode.TheVariants.{Plain, Deferred}
use Rattle.execute.specs.declared.Went.TheVariants as W
use Rattle.pending.specs.declared.Room.{Room}

-- the instruction on whole values, which it reads from the registers R and writes there
abbrev pub wholly : Room → Notes → Instruction → World → Registers → Stepped
wholly room N i w R = done room (effect N i (seen w.pc R) w.memory) w R

-- "Results of the limb forms are accumulated. .. The deferred forms list no pending check."
abbrev pub onward : World → Registers → Stepped
onward w R = stepped W.On (world (plus64 w.pc 4) w.halted R w.memory) []

-- the limb form, where the mode has one, or else the instruction on whole values after what the mode normalises
unfoldable pub finish : Mode → Room → Notes → Instruction → World → Limbed → Stepped
finish k room N i w l = cond l.waits (onward w l.registers) (wholly room N i w (settle_sources k i w.registers))

unfoldable pub execute : Mode → Room → Notes → Instruction → World → Stepped
execute k room N i w = finish k room N i w (limbs_in k N i w.registers)

-- "A plain step or run given an accumulated register is refused (9)"
unfoldable pub admits : Mode → Registers → Bool
admits Plain R = well_formed R && all_whole R.accumulated
admits Deferred R = well_formed R
