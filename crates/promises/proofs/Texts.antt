-- What a promise says of an answer about a text, taken back to the answer. f: all that a call leaves, read off it.
use Prim.Native.Nat.{ℕ, ◌-◌}
use mathlib.Core.Path.{◌≡◌, refl, sym, ap, ◌∙◌}
use mathlib.Core.List.{List}
use native.Mathlib.Omega.{arith}
use lib.IntN.{ℤ}
use Rattle.std.specs.Prelude.{Option, Some, None}
use lib.ListN.{length, length-drop}
use Rattle.sums.specs.Reader.{Got, got, bad}
use Rattle.sums.specs.Code.{read_to, Past}
use Rattle.lines.specs.Lines.{Saying, empty, named, word, wrong}
use Rattle.lines.specs.Code.{said_of}
use Rattle.lines.specs.declared.Said.{Said}
use Rattle.programs.specs.Promise.{AllLeft, Assembled}
use Rattle.programs.proofs.Top.{one_answer}

-- ---- a sum: its value, and how much of the text was read
abbrev read_in : List ℕ → Got → Option (ℤ × ℕ)
read_in text (got v rest) = Some (v, length text - length rest)
read_in text bad = None

read_back : (text : List ℕ) (at : ℕ) (r : Option (ℤ × ℕ)) → Past text at r → read_in text (read_to text r) ≡ r
read_back text at (Some (v, n)) p = let h = p.1 in let k = length-drop n text in ap (λ (m : ℕ). Some (v, m)) (omega arith)
read_back text at None p = refl

pub one-read : {B : Type 0} {v : Got} (text : List ℕ) (at : ℕ) (f : Option (ℤ × ℕ) → B) (r s : Option (ℤ × ℕ)) → (v ≡ read_to text r) × Past text at r
    → (v ≡ read_to text s) × Past text at s → f r ≡ f s
one-read text at f r s p q = ap f (sym (read_back text at r p.1) ∙ ap (read_in text) (sym p.0 ∙ q.0) ∙ read_back text at s q.1)

-- ---- what a line says
abbrev said_in : Saying → Said
said_in empty = Said.Blank
said_in (named name) = Said.Name
said_in (word w) = Said.Word w
said_in wrong = Said.Bad

said-back : (line : List ℕ) (r : Said) → said_in (said_of line r) ≡ r
said-back line Said.Blank = refl
said-back line Said.Name = refl
said-back line (Said.Word w) = refl
said-back line Said.Bad = refl

pub one-said : {B : Type 0} {v : Saying} (line : List ℕ) (f : Said → B) (r s : Said) → v ≡ said_of line r → v ≡ said_of line s → f r ≡ f s
one-said line f r s p q = ap f (sym (said-back line r) ∙ ap said_in (sym p ∙ q) ∙ said-back line s)

-- ---- what is left of a text that was assembled
pub one_left : {B : Type 0} (text words labels : List ℕ) (f : AllLeft → B) (l m : AllLeft) → Assembled text words labels l → Assembled text words labels m
    → f l ≡ f m
one_left text words labels f l m p q = ap f (one_answer text words labels l m p q)
