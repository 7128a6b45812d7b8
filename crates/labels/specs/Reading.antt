-- Inner: a text from a place on, as those functions see it that read names, sums and lines.
use Rattle.std.specs.Prelude.{ℕ, ◌≤◌, Bool, cond, List, [], ◌∷◌, ◌≡◌, length, drop}
use Rattle.labels.specs.Bytes.{is_space, is_part}

unfoldable pub tail_of : List ℕ → List ℕ
tail_of [] = []
tail_of (b ∷ t) = t

-- the bytes of a class at the start of a text, and the text after them
unfoldable pub run_of : (ℕ → Bool) → List ℕ → List ℕ
run_of p [] = []
run_of p (b ∷ t) = cond (p b) (b ∷ run_of p t) []

unfoldable pub past : (ℕ → Bool) → List ℕ → List ℕ
past p [] = []
past p (b ∷ t) = cond (p b) (past p t) (b ∷ t)

abbrev pub skip : List ℕ → List ℕ
skip t = past is_space t

abbrev pub name_at : List ℕ → ℕ → List ℕ
name_at s at = run_of is_part (drop at s)

-- from `at`, the bytes of a class end at r; beyond the end, at once
pub record Passed (p : ℕ → Bool) (s : List ℕ) (at r : ℕ) : Type 0 where
  pub rest : drop r s ≡ past p (drop at s)
  pub on : at ≤ r
  pub within : at ≤ length s → r ≤ length s
  pub beyond : length s ≤ at → r ≡ at
