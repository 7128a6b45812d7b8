-- The pass that writes the words, line by line. Assumes nothing.
use mathlib.Core.Path.{◌≡◌, refl, sym, ap, ◌∙◌}
use mathlib.Core.List.{List, [], ◌∷◌, ◌++◌}
use Prim.Native.Nat.{ℕ, suc, ◌+◌, ◌≤◌}
use native.Mathlib.Nat.{add-zero}
use native.Mathlib.Omega.{arith}
use lib.ListN.{length, set, drop, drop_of_length-le}
use lib.Seq.{sets}
use Rattle.memory.specs.Bytes.{bytes}
use Rattle.lines.specs.Lines.{Saying, empty, word, wrong}
use Rattle.lines.specs.Reader.{line_read}
use Rattle.lines.specs.Code.{labels_in, said_of}
use Rattle.lines.specs.declared.Said.{Said}
use Rattle.programs.specs.Programs.{lines_of, on_saying}
use Rattle.programs.specs.Promise.{bytes_of_words}
use Rattle.programs.specs.Code.{words_from}

-- one run of stores after another
pub sets-append : (l : List ℕ) (i : ℕ) (xs ys : List ℕ) → sets l i (xs ++ ys) ≡ sets (sets l i xs) (i + length xs) ys
sets-append l i [] ys = ap (λ (n : ℕ). sets l n ys) (sym (add-zero i))
sets-append l i (x ∷ xs) ys = sets-append (set l i x) (suc i) xs ys ∙ ap (λ (n : ℕ). sets (sets (set l i x) (suc i) xs) n ys) (omega arith)

pub put_word : (l : List ℕ) (to w : ℕ) (ws : List ℕ) → sets l to (bytes_of_words (w ∷ ws)) ≡ sets (sets l to (bytes 4 w)) (to + 4) (bytes_of_words ws)
unfolding bytes_of_words bytes
put_word l to w ws = sets-append l to (bytes 4 w) (bytes_of_words ws)

module _ (text table : List ℕ) (own : ℕ) where
  pub words-end : (s : List ℕ) (at : ℕ) → length s ≤ at → words_from text table (lines_of (drop at s)) own ≡ []
  unfolding lines_of words_from
  words-end s at h = ap (λ (t : List ℕ). words_from text table (lines_of t) own) (drop_of_length-le s h)

  module _ (ls : List (List ℕ)) (t : List ℕ) (ts : List (List ℕ)) (e : ls ≡ t ∷ ts) where
    words_are : (x : Saying) → line_read (labels_in text table own) t ≡ x
        → words_from text table ls own ≡ on_saying x (words_from text table ts own) (λ name. words_from text table ts own) (λ w. w ∷ words_from text table ts (own + 1)) (words_from text table ts own)
    unfolding words_from
    words_are x r =
        ap (λ (l : List (List ℕ)). words_from text table l own) e
        ∙ ap (λ (x : Saying). on_saying x (words_from text table ts own) (λ name. words_from text table ts own) (λ w. w ∷ words_from text table ts (own + 1)) (words_from text table ts own)) r

    pub words-word : (w : ℕ) → line_read (labels_in text table own) t ≡ word w → words_from text table ls own ≡ w ∷ words_from text table ts (own + 1)
    words-word w r = words_are (word w) r

    -- whatever is said but a word
    pub words-none : (s : List ℕ) (r : Said) → line_read (labels_in text table own) t ≡ said_of s r → ((w : ℕ) → r ≡ Said.Word w → ⊥) → words_from text table ls own ≡ words_from text table ts own
    words-none s Said.Blank r n = words_are empty r
    words-none s Said.Name r n = words_are (said_of s Said.Name) r
    words-none s (Said.Word w) r n = absurd (n w refl)
    words-none s Said.Bad r n = words_are wrong r
