-- Inner: the room that `measure` leaves, the lines that `put_lines` writes, and what each writer of a piece of text promises.
use Rattle.instruction.specs.declared.Instruction.{Instruction}
use Rattle.std.specs.Prelude.{ℕ, zero, suc, ◌+◌, ◌-◌, ◌/◌, ◌%◌, ◌<◌, ◌≡◌, List, [], ◌∷◌, ◌++◌, length, Result, Ok, Err}
use Rattle.std.proofs.lemmas.List.Edits.{sets}
use Rattle.refusal.specs.declared.Refusal.{Refusal}
use Rattle.opcode.specs.Opcodes.{opcode_number}
use Rattle.instruction.specs.Operands.{parts_of}
use Rattle.instruction.specs.declared.Parts.{Parts}
use Rattle.words.specs.Words.{decode_in}
use Rattle.names.specs.Names.{register_text}
use Rattle.printing.specs.Print.{Printed, text, undecodable, print_line, words_in}

abbrev pub all_words : List ℕ → List ℕ
all_words bs = words_in (length bs / 4) bs

abbrev pub taken_of : Result Instruction Refusal → Result Parts Refusal
taken_of (Ok i) = Ok (parts_of i)
taken_of (Err r) = Err r

-- what is left of a room, 0 if the text is longer
abbrev pub room_after : Printed → ℕ → Result ℕ Refusal
room_after (text t) room = Ok (room - length t)
room_after (undecodable r) room = Err r

-- the lowest n places of a number in a base, the lowest last, where 0 is written as the byte `first`
unfoldable pub places : ℕ → ℕ → ℕ → ℕ → List ℕ
places base first zero number = []
places base first (suc n) number = places base first n (number / base) ++ ((first + number % base) ∷ [])

-- the operands that most lines begin with
abbrev pub two_registers : ℕ → ℕ → List ℕ
two_registers a b = 32 ∷ (register_text a ++ (44 ∷ (32 ∷ register_text b)))

-- a line with its line feed
abbrev pub fed : Parts → List ℕ
fed p = print_line p ++ (10 ∷ [])

-- the lines of words, up to the first that does not decode
abbrev pub and_lines : Result Parts Refusal → List ℕ → List ℕ
and_lines (Ok p) rest = fed p ++ rest
and_lines (Err r) rest = []

unfoldable pub printed_lines : List ℕ → List ℕ
printed_lines [] = []
printed_lines (w ∷ ws) = and_lines (taken_of (decode_in opcode_number w)) (printed_lines ws)

-- a piece of text stands at a place, and it ends where the writer says
pub record Put (old new : List ℕ) (at end : ℕ) (piece : List ℕ) : Type 0 where
  pub stop : end ≡ at + length piece
  pub left : new ≡ sets old at piece

pub record ShortRegisters (p : Parts) : Type 0 where
  pub a : p.a < 16
  pub b : p.b < 16
  pub c : p.c < 16
