-- What the call answers and leaves, by the room that the first pass found.
use Rattle.std.specs.Prelude.{Err, Ok, Result}
use Rattle.instruction.specs.declared.Instruction.{Instruction}
use Prim.Native.Nat.{ℕ, ◌+◌, ◌-◌, ◌%◌, ◌≤◌}
use mathlib.Core.List.{List, [], ◌∷◌, ◌++◌, append_assoc}
use mathlib.Core.Path.{◌≡◌, refl, ◌∙◌}
use native.Mathlib.Nat.{zero-add}
use native.Mathlib.Omega.{arith}
use borrow.Author.Tests.{eq-eqb, ne_eqb, lt-ltb, le-ltb}
use lib.ListN.{length}
use lib.Seq.{sets-eq}
use Rattle.refusal.specs.Stops.{number_of, particular_of}
use Rattle.refusal.specs.declared.Refusal.{Refusal}
use Rattle.opcode.specs.Opcodes.{opcode_number}
use Rattle.instruction.specs.Operands.{parts_of}
use Rattle.words.specs.Words.{decode_in}
use Rattle.told.specs.Told.{done_told, refused_told}
use Rattle.told.specs.declared.Told.{Told}
use Rattle.std.specs.Prelude.{Ok, Err}
use Rattle.printing.specs.Print.{Printed, text, undecodable, print_line, printed_by, print_of, told_of, left_by, print_told, print_leaves}
use Rattle.printing.specs.Passes.{all_words, taken_of, room_after, and_lines, printed_lines, Put}

-- the lines of words that all decode are their text
lines_are : (ws t : List ℕ) → print_of ws ≡ text t → printed_lines ws ≡ t
unfolding print_of printed_lines
lines_are [] t e = cc
lines_are (w ∷ ws) t e = by (decode_in opcode_number w) (print_of ws) (lines_are ws) e
  where
    by : (d : Result Instruction Refusal) (rest : Printed) → ((s : List ℕ) → rest ≡ text s → printed_lines ws ≡ s) → printed_by d rest ≡ text t → and_lines (taken_of d) (printed_lines ws) ≡ t
    by (Ok i) (text s) more e =
        let is : print_line (parts_of i) ++ (10 ∷ s) ≡ t = cc in
        rw (more s refl, append_assoc) is
    by (Ok i) (undecodable r) more e = absurd (let z : ◌≡◌ {A = ℕ} 0 1 = cc in omega arith)
    by (Err r) rest more e = absurd (let z : ◌≡◌ {A = ℕ} 0 1 = cc in omega arith)

module _ (words old : List ℕ) where
  abbrev Answered : Told → List ℕ → Type 0
  Answered r new = (r ≡ print_told words old) × (new ≡ print_leaves words old)

  pub broken : (length words % 4 ≡ 0 → ⊥) → Answered (refused_told 9 0) old
  unfolding print_told print_leaves
  broken h = let e = ne_eqb (length words % 4) 0 h in (rw e, rw e)

  module _ (whole_words : length words % 4 ≡ 0) where
    answered : (p : Printed) → print_of (all_words words) ≡ p → Answered (told_of p (length old)) (left_by p old)
    unfolding print_told print_leaves
    answered p is = let e = eq-eqb (length words % 4) 0 whole_words in (rw (e, is), rw (e, is))

    pub stopped : (room : ℕ) (r : Refusal) → room_after (print_of (all_words words)) room ≡ Err r → Answered (refused_told (number_of r) (particular_of r)) old
    stopped room r = by (print_of (all_words words)) refl
      where
        by : (p : Printed) → print_of (all_words words) ≡ p → room_after p room ≡ Err r → Answered (refused_told (number_of r) (particular_of r)) old
        by (text t) is e = absurd (let z : ◌≡◌ {A = ℕ} 0 1 = cc in omega arith)
        by (undecodable s) is e = let same : s ≡ r = cc in rw (← same) (answered (undecodable s) is)

    module _ (left : ℕ) (e : room_after (print_of (all_words words)) (length old + 1) ≡ Ok left) where
      text-is : (t : List ℕ) × (print_of (all_words words) ≡ text t) × (length old + 1 - length t ≡ left)
      text-is = by (print_of (all_words words)) refl e
        where
          by : (p : Printed) → print_of (all_words words) ≡ p → room_after p (length old + 1) ≡ Ok left → (t : List ℕ) × (print_of (all_words words) ≡ text t) × (length old + 1 - length t ≡ left)
          by (text t) is e = (t, is, cc)
          by (undecodable r) is e = absurd (let z : ◌≡◌ {A = ℕ} 0 1 = cc in omega arith)

      pub short : left ≡ 0 → Answered (refused_told 9 0) old
      short h =
          let t = text-is.0 in
          let long = lt-ltb (length old) (length t) (omega (arith, text-is.2)) in
          rw long at (answered (text t) text-is.1)

      module _ (h : left ≡ 0 → ⊥) where
        pub room-enough : length (printed_lines (all_words words)) ≤ length old
        room-enough = rw (lines_are (all_words words) text-is.0 text-is.1) (omega (arith, text-is.2))

        pub written : (new : List ℕ) (end : ℕ) → Put old new 0 end (printed_lines (all_words words)) → Answered (done_told end) new
        written new end put =
            let t = text-is.0 in
            let lines = lines_are (all_words words) t text-is.1 in
            let all = rw lines at put in
            let enough = le-ltb (length old) (length t) (omega (arith, text-is.2)) in
            let told = rw enough at (answered (text t) text-is.1) in
            (rw (all.stop, zero-add) told.0, all.left ∙ sets-eq t old 0 (omega (arith, text-is.2)) ∙ rw zero-add told.1)
