-- One word more of a program: what it takes of the room, and the line that it adds.
use Rattle.instruction.specs.declared.Instruction.{Instruction}
use Prim.Native.Nat.{ℕ, ◌-◌}
use mathlib.Core.List.{List, [], ◌∷◌, ◌++◌}
use mathlib.Core.Path.{◌≡◌, refl, ap}
use native.Mathlib.Omega.{arith}
use lib.ListN.{length, length-append}
use Rattle.refusal.specs.declared.Refusal.{Refusal}
use Rattle.memory.specs.Bytes.{number_at}
use Rattle.opcode.specs.Opcodes.{opcode_number}
use Rattle.instruction.specs.Operands.{parts_of}
use Rattle.instruction.specs.declared.Parts.{Parts}
use Rattle.words.specs.Words.{decode_in}
use Rattle.std.specs.Prelude.{Result, Ok, Err}
use Rattle.printing.specs.Print.{Printed, text, undecodable, print_line, printed_by, print_of}
use Rattle.printing.specs.Passes.{all_words, taken_of, room_after, fed, printed_lines}
use Rattle.printing.proofs.Words.{words_more}

module _ (s x t : List ℕ) (cut : s ≡ x ++ t) (long : length x ≡ 4) where
  module _ (p : Parts) (is : taken_of (decode_in opcode_number (number_at 4 x 0)) ≡ Ok p) where
    pub room-more : (room : ℕ) → room_after (print_of (all_words s)) room ≡ room_after (print_of (all_words t)) (room - length (fed p))
    unfolding print_of
    room-more room = rw (words_more s x t cut long) (by (decode_in opcode_number (number_at 4 x 0)) (print_of (all_words t)) is)
      where
        by : (d : Result Instruction Refusal) (rest : Printed) → taken_of d ≡ Ok p → room_after (printed_by d rest) room ≡ room_after rest (room - length (fed p))
        by (Ok i) (text lines) e =
            let same : parts_of i ≡ p = cc in
            let one = length-append (print_line p) (10 ∷ []) in
            let all = length-append (print_line p) (10 ∷ lines) in
            rw same (ap Ok (omega arith))
        by (Ok i) (undecodable r) e = refl
        by (Err r) rest e = absurd (let z : ◌≡◌ {A = ℕ} 0 1 = cc in omega arith)

    pub lines_more : printed_lines (all_words s) ≡ fed p ++ printed_lines (all_words t)
    unfolding printed_lines
    lines_more = rw (words_more s x t cut long, is)

  module _ (r : Refusal) (is : taken_of (decode_in opcode_number (number_at 4 x 0)) ≡ Err r) where
    pub room-none : (room : ℕ) → room_after (print_of (all_words s)) room ≡ Err r
    unfolding print_of
    room-none room = rw (words_more s x t cut long) (by (decode_in opcode_number (number_at 4 x 0)) is)
      where
        by : (d : Result Instruction Refusal) → taken_of d ≡ Err r → room_after (printed_by d (print_of (all_words t))) room ≡ Err r
        by (Ok i) e = absurd (let z : ◌≡◌ {A = ℕ} 0 1 = cc in omega arith)
        by (Err s) e = let same : s ≡ r = cc in ap Err same

    pub lines_none : printed_lines (all_words s) ≡ []
    unfolding printed_lines
    lines_none = rw (words_more s x t cut long, is)
