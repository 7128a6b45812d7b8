-- Inner: what a line is read as, from the text that is left. Lines.antt says what is right.
use Rattle.opcode.specs.declared.Opcode.{Opcode}
use Rattle.std.specs.Prelude.{Option, None, Some, ℕ, ◌-◌, Bool, true, false, cond, ◌&&◌, List, [], ◌∷◌, ℤ, pos, ◌==◌, nat_le}
use Rattle.opcode.specs.Opcodes.{opcode_in, form_of}
use Rattle.opcode.specs.declared.Form.{Form}
use Rattle.names.specs.Names.{name_key}
use Rattle.labels.specs.Bytes.{is_digit, is_letter, is_part, head_of, key_of}
use Rattle.labels.specs.Reading.{tail_of, run_of, past, skip}
use Rattle.sums.specs.Reader.{Got, got, bad, onto, sum_read}
use Rattle.lines.specs.Lines.{Kind, register, immediate, kinds_of, pushed, word_for, Saying, empty, named, wrong, saying_of}

-- "R" and one digit, or two: the second is one that makes it 10 to 15
abbrev pub is_teen : List ℕ → Bool
is_teen t = head_of t == 49 && (nat_le 48 (head_of (tail_of t)) && nat_le (head_of (tail_of t)) 53)

unfoldable pub register_read : List ℕ → Got
register_read t =
    cond (head_of t == 82)
    (cond (is_teen (tail_of t)) (got (pos (head_of (tail_of (tail_of t)) - 38)) (tail_of (tail_of (tail_of t))))
    (cond (is_digit (head_of (tail_of t))) (got (pos (head_of (tail_of t) - 48)) (tail_of (tail_of t))) bad))
    bad

-- an operand and the spaces after it
unfoldable pub operand_read : Kind → (List ℕ → Option ℤ) → List ℕ → Got
operand_read register look t = onto (λ v u. got v (skip u)) (register_read t)
operand_read immediate look t = sum_read 16 look t

abbrev pub nothing : List ℕ → Bool
nothing [] = true
nothing (b ∷ t) = false

abbrev pub with : Got → (ℤ → List ℕ → Option (List ℤ)) → Option (List ℤ)
with (got v t) go = go v t
with bad go = None

unfoldable pub operands_read : List Kind → (List ℕ → Option ℤ) → List ℕ → Option (List ℤ)
operands_read [] look t = cond (nothing (skip t)) (Some []) None
operands_read (k ∷ []) look t = with (operand_read k look (skip t)) (λ v u. cond (nothing u) (Some (v ∷ [])) None)
operands_read (k ∷ (j ∷ ks)) look t =
    with (operand_read k look (skip t)) (λ v u. cond (head_of u == 44) (pushed (Some v) (operands_read (j ∷ ks) look (tail_of u))) None)

abbrev pub instruction_read : Option Opcode → (Form → List ℕ → Option ℤ) → List ℕ → Saying
instruction_read (Some op) look t = saying_of (word_for op (operands_read (kinds_of (form_of op)) (look (form_of op)) t))
instruction_read None look t = wrong

-- what a line says that begins with a letter
unfoldable pub word_read : (Form → List ℕ → Option ℤ) → List ℕ → Saying
word_read look t =
    cond (head_of (skip (past is_part t)) == 58)
    (cond (nothing (skip (tail_of (skip (past is_part t))))) (named (run_of is_part t)) wrong)
    (instruction_read (opcode_in name_key (key_of (run_of is_part t))) look (past is_part t))

unfoldable pub line_read : (Form → List ℕ → Option ℤ) → List ℕ → Saying
line_read look t = cond (nothing (skip t)) empty (cond (is_letter (head_of (skip t))) (word_read look (skip t)) wrong)
