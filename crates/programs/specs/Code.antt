-- Inner: what the passes over a text find, line by line, as the code does: it reads each line.
use Rattle.std.specs.Prelude.{None, Option, Some, ℕ, ◌+◌, ◌-◌, ◌*◌, ◌<◌, ◌≤◌, Bool, true, false, cond, not, List, [], ◌∷◌, ◌++◌, map, ◌≡◌, eqb, leb, length, get_or, take, drop, Result, Ok, Err}
use Rattle.labels.specs.Bytes.{key_of}
use Rattle.labels.specs.Reading.{name_at}
use Rattle.labels.specs.Table.{slots_of, search_in, index_in, with_label}
use Rattle.labels.specs.declared.table.Slot.{Slot}
use Rattle.lines.specs.Lines.{Saying}
use Rattle.lines.specs.Reader.{line_read}
use Rattle.lines.specs.Code.{is_end, start_of, labels_in}
use Rattle.lines.specs.declared.Start.{Start}
use Rattle.programs.specs.Programs.{lines_of, Teller, Label, label_at, on_saying, no_labels, labels_from, index_of}
use Rattle.told.specs.Told.{done_told, refused_told}
use Rattle.told.specs.declared.Told.{Told}
use Rattle.programs.specs.Promise.{left_cleared, left_of}
use Rattle.programs.specs.declared.spans.Span.{Span}
use Rattle.programs.specs.declared.spans.TextLine.{TextLine}
use Rattle.programs.specs.declared.spans.TextLines.{TextLines}
use Rattle.std.specs.Option.{MatchOption}
use Rattle.programs.specs.declared.noting.Tally.{Tally}
use Rattle.programs.specs.declared.Failure.{Failure}

abbrev pub reader : List ℕ → Teller
reader t = λ look. line_read look t

abbrev pub tellers_of : List ℕ → List Teller
tellers_of text = map reader (lines_of text)

-- ---- lines: every byte but an LF is text
abbrev pub is_text : ℕ → Bool
is_text b = not (eqb b 10)

-- a line without the CR before its LF, if it has one
unfoldable pub stripped : Bool → List ℕ → List ℕ
stripped false t = t
stripped true [] = []
stripped true (b ∷ []) = cond (eqb b 13) [] (b ∷ [])
stripped true (b ∷ (d ∷ t)) = b ∷ stripped true (d ∷ t)

-- a line from a place, and the place of the next
pub record Spans (s : List ℕ) (at : ℕ) (r : Span) : Type 0 where
  pub lines : lines_of (drop at s) ≡ take (r.stop - at) (drop at s) ∷ lines_of (drop r.next s)
  pub from : at ≤ r.stop
  pub stops : r.stop ≤ r.next
  pub on : at < r.next
  pub within : r.next ≤ length s

-- what a text's lines give one after another
abbrev pub line_steps : TextLines → Option TextLine → TextLines → Type 0
line_steps s r t =
    (t.text ≡ s.text)
    × MatchOption r ((length s.text.now ≤ s.at) × (t.at ≡ s.at) × (t.before ≡ s.before))
    (λ l. (l.at ≡ s.at) × (l.number ≡ s.before + 1) × (t.before ≡ l.number)
    × ((r : Span) × Spans s.text.now s.at r × (l.bytes.now ≡ take (r.stop - s.at) (drop s.at s.text.now)) × (t.at ≡ r.next)))

-- ---- labels: the number of the first line that defines one again, or 0; `own` instructions and the labels `seen` stand before a line
abbrev pub unless_seen : Option ℕ → ℕ → ℕ → ℕ
unless_seen None a b = a
unless_seen (Some i) a b = b

unfoldable pub second_from : List Teller → ℕ → ℕ → List Label → ℕ
second_from [] line own seen = 0
second_from (t ∷ ts) line own seen =
    on_saying (t no_labels)
    (second_from ts (line + 1) own seen)
    (λ name. unless_seen (index_of seen name) (second_from ts (line + 1) own (seen ++ (label_at name own ∷ []))) line)
    (λ w. second_from ts (line + 1) (own + 1) seen)
    (second_from ts (line + 1) (own + 1) seen)

-- what is met of a line, and the table after it
abbrev pub one_more : Tally → Tally
one_more t = record { own = t.own + 1; count = t.count; second = t.second }

abbrev pub second_by : ℕ → ℕ → ℕ
second_by second line = cond (eqb second 0) line second

pub record After : Type 0 where
  pub met : Result Tally Failure
  pub table : List ℕ

abbrev pub after : Result Tally Failure → List ℕ → After
after met table = record { met = met; table = table }

abbrev pub defined : ℕ → Tally → Result Tally Failure
defined second t = Ok (record { own = t.own; count = t.count + 1; second = second })

abbrev pub slot_after : Slot → List ℕ → ℕ → ℕ → ℕ → Tally → After
slot_after (Slot.Held k) table place key line t = after (defined (second_by t.second line) t) table
slot_after (Slot.Free k) table place key line t = after (defined t.second t) (with_label (Slot.Free k) table place key t.own)
slot_after Slot.Full table place key line t = after (Err Failure.NoRoom) table

abbrev pub label_after : List ℕ → List ℕ → ℕ → ℕ → Tally → After
label_after text table place line t =
    cond (leb (slots_of table) t.count) (after (Err Failure.NoRoom) table)
    (slot_after (search_in text table (name_at text place)) table place (key_of (name_at text place)) line t)

abbrev pub start_after : List ℕ → List ℕ → Start → ℕ → ℕ → Tally → After
start_after text table Start.Blank at line t = after (Ok t) table
start_after text table (Start.Label p) at line t = label_after text table (at + p) line t
start_after text table (Start.Word p e) at line t = after (Ok (one_more t)) table
start_after text table Start.Other at line t = after (Ok (one_more t)) table

-- a line that is not empty and ends in neither a space nor a colon
abbrev pub is_plain : List ℕ → Bool
is_plain s = cond (eqb (length s) 0) false (not (is_end (get_or s (length s - 1) 0)))

unfoldable pub line_after : List ℕ → List ℕ → List ℕ → ℕ → ℕ → Tally → After
line_after text table s at line t = start_after text table (start_of s) at line t

-- a table has room for the labels of a text, and gives them
pub record Gives (text table : List ℕ) (second : ℕ) : Type 0 where
  pub room : 3 * length (labels_from (tellers_of text) 0) ≤ length table
  pub gives : (name : List ℕ) → index_in text table name ≡ index_of (labels_from (tellers_of text) 0) name
  pub second_is : second ≡ second_from (tellers_of text) 1 0 []

abbrev pub NotedAll : List ℕ → List ℕ → Result ℕ Failure → Type 0
NotedAll text table (Ok second) = Gives text table second
NotedAll text table (Err Failure.NoRoom) = length table < 3 * length (labels_from (tellers_of text) 0)
NotedAll text table (Err (Failure.BadLine n)) = ⊥

-- ---- the first bad line: one that is wrong, or defines a label again
abbrev pub step_by : Bool → ℕ → ℕ → Saying → Result ℕ Failure
step_by again line own x = on_saying x (Ok own) (λ name. cond again (Err (Failure.BadLine line)) (Ok own)) (λ w. Ok (own + 1)) (Err (Failure.BadLine line))

unfoldable pub line_step : List ℕ → List ℕ → Bool → ℕ → List ℕ → ℕ → Result ℕ Failure
line_step text table again line t own = step_by again line own (line_read (labels_in text table own) t)

abbrev pub on_step : Result ℕ Failure → (ℕ → Result ℕ Failure) → Result ℕ Failure
on_step (Ok own) go = go own
on_step (Err f) go = Err f

unfoldable pub check_from : List ℕ → List ℕ → ℕ → List (List ℕ) → ℕ → ℕ → Result ℕ Failure
check_from text table second [] line own = Ok own
check_from text table second (t ∷ ts) line own =
    on_step (line_step text table (eqb line second) line t own) (λ o. check_from text table second ts (line + 1) o)

-- ---- the words of the lines that are instructions
unfoldable pub words_from : List ℕ → List ℕ → List (List ℕ) → ℕ → List ℕ
words_from text table [] own = []
words_from text table (t ∷ ts) own =
    on_saying (line_read (labels_in text table own) t) (words_from text table ts own) (λ name. words_from text table ts own)
    (λ w. w ∷ words_from text table ts (own + 1)) (words_from text table ts own)

-- ---- what is answered, and left in `words`
abbrev pub ended_told : Result ℕ Failure → Told
ended_told (Ok length) = done_told length
ended_told (Err Failure.NoRoom) = refused_told 9 0
ended_told (Err (Failure.BadLine line)) = refused_told 10 line

abbrev pub Leaves : List ℕ → List ℕ → List ℕ → Result ℕ Failure → List ℕ → Type 0
Leaves text words table r new = left_cleared (ended_told r) new table ≡ left_of (tellers_of text) words table
