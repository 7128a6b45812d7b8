-- Executing one given instruction.
use Rattle.std.specs.Prelude.{ℕ, cond, ◌&&◌, List}
use Rattle.refusal.specs.Stops.{refusal_of}
use Rattle.instruction.specs.declared.Instruction.{Instruction}
use Rattle.words.specs.Words.{fits_of}
use Rattle.pending.specs.Pending.{checks_of}
use Rattle.pending.specs.declared.Room.TheVariants.{Unlent}
use Rattle.effect.specs.Notes.{Notes}
use Rattle.execute.specs.World.{World, world_of, Stepped, stepped, refused}
use Rattle.execute.specs.Execute.{execute, admits}
use Rattle.execute.specs.declared.Mode.{Mode}
use Rattle.given.specs.declared.Executed.{Executed}

-- it "ignores the mark", "skips 6, 7, 4 and 5 and refuses (9) an instruction that the encoder refuses";
-- no list is lent
unfoldable pub execute_one : Mode → Notes → Instruction → World → Stepped
execute_one k N i w = cond (admits k w.registers && fits_of i) (execute k Unlent N i w) (refused (refusal_of 9 0) w)

-- what the code gives back, with the memory that was lent to it
abbrev pub executed : Executed → List ℕ → Stepped
executed r m = stepped r.went (world_of r.state m) (checks_of r.checks)
