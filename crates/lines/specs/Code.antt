-- Inner: what the answers say of the line that was read.
use Rattle.std.specs.Prelude.{Option, ℕ, ◌+◌, ◌≤◌, Bool, true, false, cond, ◌&&◌, ◌||◌, List, length, drop, ℤ, pos, ◌==◌, nat_le, Option as RustOption, Some, None}
use Rattle.opcode.specs.declared.Form.{Form}
use Rattle.opcode.specs.declared.Form.TheVariants.{R, I, Shift, S, B, J, Alone}
use Rattle.labels.specs.Bytes.{is_space, is_letter, is_part, head_of, key_of}
use Rattle.labels.specs.Reading.{tail_of, run_of, skip, name_at}
use Rattle.sums.specs.Reader.{Got, got, bad, onto}
use Rattle.sums.specs.Code.{look_in}
use Rattle.lines.specs.Lines.{Kind, Saying, empty, named, word, wrong, base_of}
use Rattle.lines.specs.Reader.{operand_read, nothing}
use Rattle.lines.specs.declared.Said.{Said}
use Rattle.lines.specs.declared.Start.{Start}

abbrev pub is_two : ℕ → ℕ → Bool
is_two a b = a == 49 && (nat_le 48 b && nat_le b 53)

-- an operand with what must follow it: a comma, or the end
unfoldable pub comma_read : Kind → (List ℕ → Option ℤ) → List ℕ → Got
comma_read k look t = onto (λ v u. cond (head_of u == 44) (got v (tail_of u)) bad) (operand_read k look (skip t))

unfoldable pub last_read : Kind → (List ℕ → Option ℤ) → List ℕ → Got
last_read k look t = onto (λ v u. cond (nothing u) (got v u) bad) (operand_read k look (skip t))

abbrev pub reg_seen : List ℕ → RustOption (ℕ × ℕ) → Got
reg_seen s (Some (r, n)) = got (pos r) (drop n s)
reg_seen s None = bad

abbrev pub Within : List ℕ → RustOption (ℕ × ℕ) → Type 0
Within s (Some (r, n)) = n ≤ length s
Within s None = Unit {0}

abbrev pub labels_in : List ℕ → List ℕ → ℕ → Form → List ℕ → Option ℤ
labels_in text table own f = look_in text table (base_of f own)

abbrev pub said_of : List ℕ → Said → Saying
said_of s Said.Blank = empty
said_of s Said.Name = named (run_of is_part (skip s))
said_of s (Said.Word w) = word w
said_of s Said.Bad = wrong

-- a word, if the line is right
abbrev pub word_or_wrong : RustOption ℕ → Saying
word_or_wrong (Some w) = word w
word_or_wrong None = wrong

abbrev pub said_by : RustOption ℕ → Said
said_by (Some w) = Said.Word w
said_by None = Said.Bad

-- the forms with two registers and a number
abbrev pub is_numbered : Form → Bool
is_numbered R = false
is_numbered I = true
is_numbered Shift = true
is_numbered S = true
is_numbered B = true
is_numbered J = false
is_numbered Alone = false

-- how a line begins: its name stands from `at` to e
abbrev pub named_at : List ℕ → ℕ → ℕ → Start
named_at s at e =
    cond (head_of (skip (drop e s)) == 58) (cond (nothing (skip (tail_of (skip (drop e s))))) (Start.Label at) Start.Other)
    (Start.Word (key_of (name_at s at)) (e + length (run_of is_space (drop e s))))

abbrev pub start_at : List ℕ → ℕ → Start
start_at s at =
    cond (nothing (drop at s)) Start.Blank (cond (is_letter (head_of (drop at s))) (named_at s at (at + length (name_at s at))) Start.Other)

-- a line that ends in another byte is neither blank nor a definition
abbrev pub is_end : ℕ → Bool
is_end b = is_space b || b == 58

unfoldable pub start_of : List ℕ → Start
start_of s = start_at s (length (run_of is_space s))
