-- A program's text, line by line, and the words that it stands for.
use Rattle.std.specs.Prelude.{None, Option, Some, ℕ, ◌+◌, cond, ◌&&◌, List, [], ◌∷◌, ◌++◌, ◌≡◌, eqb, ℤ}
use Rattle.opcode.specs.declared.Form.{Form}
use Rattle.labels.specs.Bytes.{eq_bytes, head_of}
use Rattle.sums.specs.Sums.{distance}
use Rattle.lines.specs.Lines.{Line, line_text, line_saying, Saying, empty, named, word, wrong, base_of}

-- ---- the lines: an LF ends one, with a CR right before it; a text that ends in a line end has no further line
abbrev pub with_byte : ℕ → List (List ℕ) → List (List ℕ)
with_byte b [] = (b ∷ []) ∷ []
with_byte b (t ∷ ts) = (b ∷ t) ∷ ts

unfoldable pub lines_of : List ℕ → List (List ℕ)
lines_of [] = []
lines_of (b ∷ t) = cond (eqb b 10) ([] ∷ lines_of t) (cond (eqb b 13 && eqb (head_of t) 10) (lines_of t) (with_byte b (lines_of t)))

-- ---- what each line says, once it is known what the labels mean there: what a tree with its text says, and that it is wrong if
-- no tree with its text says anything else
abbrev pub Teller : Type 0
Teller = (Form → List ℕ → Option ℤ) → Saying

pub data LineSays (look : Form → List ℕ → Option ℤ) (t : List ℕ) : Saying → Type 0 where
  says : (l : Line) → line_text l ≡ t → LineSays look t (line_saying l look)
  unsaid : ((l : Line) → line_text l ≡ t → line_saying l look ≡ wrong) → LineSays look t wrong

pub data Tells : List (List ℕ) → List Teller → Type 0 where
  end : Tells [] []
  next : {t : List ℕ} {f : Teller} {ts : List (List ℕ)} {fs : List Teller} → ((look : Form → List ℕ → Option ℤ) → LineSays look t (f look)) → Tells ts fs → Tells (t ∷ ts) (f ∷ fs)

-- ---- labels: a name, and how many instructions stand before it. A line that says nothing right counts as an instruction
pub record Label : Type 0 where
  pub name : List ℕ
  pub index : ℕ

abbrev pub no_labels : Form → List ℕ → Option ℤ
no_labels f name = None

abbrev pub on_saying : {A : Type 0} → Saying → A → (List ℕ → A) → (ℕ → A) → A → A
on_saying empty a b c d = a
on_saying (named name) a b c d = b name
on_saying (word w) a b c d = c w
on_saying wrong a b c d = d

abbrev pub label_at : List ℕ → ℕ → Label
label_at name n = record { name = name; index = n }

unfoldable pub labels_from : List Teller → ℕ → List Label
labels_from [] n = []
labels_from (t ∷ ts) n =
    on_saying (t no_labels) (labels_from ts n) (λ name. label_at name n ∷ labels_from ts n) (λ w. labels_from ts (n + 1)) (labels_from ts (n + 1))

-- the first label that has a name
unfoldable pub index_of : List Label → List ℕ → Option ℕ
index_of [] name = None
index_of (l ∷ ls) name = cond (eq_bytes l.name name) (Some l.index) (index_of ls name)

abbrev pub look_at : List Label → ℕ → Form → List ℕ → Option ℤ
look_at labels own f name = distance (base_of f own) (index_of labels name)

-- ---- the words, or the number of the first bad line
pub data Assembly : Type 0 where
  refused : ℕ → Assembly
  made : List ℕ → Assembly

abbrev pub and_word : ℕ → Assembly → Assembly
and_word w (refused n) = refused n
and_word w (made ws) = made (w ∷ ws)

abbrev pub unless : Option ℕ → Assembly → Assembly → Assembly
unless None a b = a
unless (Some i) a b = b

-- from a line on: `own` instructions stand before it, and the labels `seen`
unfoldable pub assemble_from : List Teller → List Label → ℕ → ℕ → List Label → Assembly
assemble_from [] labels line own seen = made []
assemble_from (t ∷ ts) labels line own seen =
    on_saying (t (look_at labels own))
    (assemble_from ts labels (line + 1) own seen)
    (λ name. unless (index_of seen name) (assemble_from ts labels (line + 1) own (seen ++ (label_at name own ∷ []))) (refused line))
    (λ w. and_word w (assemble_from ts labels (line + 1) (own + 1) seen))
    (refused line)

abbrev pub assemble_of : List Teller → Assembly
assemble_of ts = assemble_from ts (labels_from ts 0) 1 0 []
