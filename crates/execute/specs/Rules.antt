-- The choices of a run as document 01's definitions take them, and a word obeyed by them.
use Rattle.instruction.specs.declared.Instruction.{Instruction}
use Rattle.refusal.specs.declared.Refusal.{Refusal}
use Rattle.std.specs.Prelude.{Err, Ok, Result, ℕ}
use Rattle.opcode.specs.Opcodes.{opcode_number}
use Rattle.opcode.specs.declared.Opcode.{Opcode}
use Rattle.pending.specs.declared.Room.{Room}
use Rattle.effect.specs.Notes.{Notes, document_notes}
use Rattle.execute.specs.World.{World, Stepped, refused}
use Rattle.execute.specs.Execute.{execute}
use Rattle.execute.specs.declared.Mode.{Mode}
use Rattle.execute.specs.declared.Choices.{Choices}

-- the numbers of the opcodes, and the notes of bounds
pub record Rules : Type 0 where
  pub number : Opcode → ℕ
  pub notes : Notes

abbrev pub document_rules : Rules
document_rules = record { number = opcode_number; notes = document_notes }

-- a run can choose its mode alone
abbrev pub rules_of : Choices → Rules
rules_of c = document_rules

-- "A step tests 9, 6, 7, 4, 5, then 1, or 3 and 2, then 8": 4 and 5 as the word is decoded
unfoldable pub obey : Mode → Room → Rules → Result Instruction Refusal → World → Stepped
obey k room R (Ok i) w = execute k room R.notes i w
obey k room R (Err r) w = refused r w
