-- The promise of `assemble(text, words, labels)`: what it answers and leaves, for each text and all that is lent.
use Rattle.std.specs.Prelude.{ℕ, ◌*◌, cond, List, [], ◌∷◌, ◌++◌, ◌≡◌, ltb, length, drop, replicate}
use Rattle.memory.specs.Bytes.{bytes}
use Rattle.told.specs.Told.{done_told, refused_told}
use Rattle.told.specs.declared.Told.{Told}
use Rattle.programs.specs.Programs.{lines_of, Teller, Tells, labels_from, Assembly, refused, made, assemble_of}

pub record AllLeft : Type 0 where
  pub told : Told
  pub words : List ℕ
  pub labels : List ℕ

abbrev pub leaves : Told → List ℕ → List ℕ → AllLeft
leaves told words labels = record { told = told; words = words; labels = labels }

-- `labels` is handed back cleared in every case
abbrev pub left_cleared : Told → List ℕ → List ℕ → AllLeft
left_cleared told words labels = leaves told words (replicate (length labels) 0)

-- four bytes for each word, little-endian
unfoldable pub bytes_of_words : List ℕ → List ℕ
bytes_of_words [] = []
bytes_of_words (w ∷ ws) = bytes 4 w ++ bytes_of_words ws

-- "10 for a bad line, with the first such line's number; then 9 if the output buffer is too small"
unfoldable pub outcome : Assembly → List ℕ → List ℕ → AllLeft
outcome (refused line) words labels = left_cleared (refused_told 10 line) words labels
outcome (made ws) words labels =
    cond (ltb (length words) (4 * length ws)) (left_cleared (refused_told 9 0) words labels)
    (left_cleared (done_told (4 * length ws)) (bytes_of_words ws ++ drop (4 * length ws) words) labels)

-- first of all 9 if `labels` lacks the three numbers for each label
unfoldable pub left_of : List Teller → List ℕ → List ℕ → AllLeft
left_of fs words labels =
    cond (ltb (length labels) (3 * length (labels_from fs 0))) (left_cleared (refused_told 9 0) words labels) (outcome (assemble_of fs) words labels)

-- whatever the lines of the text tell, that is what is left
abbrev pub Assembled : List ℕ → List ℕ → List ℕ → AllLeft → Type 0
Assembled text words labels l = (fs : List Teller) → Tells (lines_of text) fs → l ≡ left_of fs words labels
