-- What the passes lead to is what is promised. Assumes nothing.
use mathlib.Core.Path.{◌≡◌, refl, sym, ap, ◌∙◌}
use mathlib.Core.Bool.{Bool, cond}
use mathlib.Core.List.{List, [], ◌∷◌, ◌++◌}
use Prim.Native.Nat.{ℕ, ◌+◌, ◌*◌, ◌/◌, ◌≤◌, ◌<◌}
use native.Mathlib.Omega.{arith}
use native.Mathlib.Nat.{zero-add}
use lib.Dec.{ltb}
use lib.ListN.{length, drop, replicate, length-append, length-replicate}
use lib.Seq.{sets, sets-eq}
use borrow.Author.Tests.{lt-ltb, le-ltb}
use Rattle.memory.specs.Bytes.{bytes}
use Rattle.told.specs.Told.{done_told, refused_told}
use Rattle.told.specs.declared.Told.{Told}
use Rattle.programs.specs.Programs.{Teller, Assembly, refused, made, assemble_of, labels_from, lines_of}
use Rattle.programs.specs.Promise.{leaves, left_cleared, bytes_of_words, outcome, left_of, Assembled}
use Rattle.programs.specs.Code.{tellers_of, Gives, NotedAll, ended_told, check_from, words_from}
use Rattle.programs.specs.declared.Failure.{Failure}
use Rattle.std.specs.Prelude.{Ok, Err}
use Rattle.programs.proofs.Top.{met}
use Rattle.programs.proofs.Passes.{count, check-right, words_right}

bytes-length : (ws : List ℕ) → length (bytes_of_words ws) ≡ 4 * length ws
unfolding bytes_of_words bytes
bytes-length [] = refl
bytes-length (w ∷ ws) = let e = bytes-length ws in length-append (bytes 4 w) (bytes_of_words ws) ∙ omega arith

front : (words ws : List ℕ) → 4 * length ws ≤ length words → sets words 0 (bytes_of_words ws) ≡ bytes_of_words ws ++ drop (4 * length ws) words
front words ws h =
    let e = bytes-length ws in
    sets-eq (bytes_of_words ws) words 0 (omega arith) ∙ ap (λ (n : ℕ). bytes_of_words ws ++ drop n words) (zero-add (length (bytes_of_words ws)) ∙ e)

count-bad : (o : Assembly) (f : Failure) → count 0 o ≡ Err f → (n : ℕ) × ((o ≡ refused n) × (f ≡ Failure.BadLine n))
unfolding count
count-bad (refused m) f e = (m, (refl, cc))
count-bad (made ws) f e = absurd (let z : ◌≡◌ {A = ℕ} 0 1 = cc in omega arith)

count-made : (o : Assembly) (n : ℕ) → count 0 o ≡ Ok n → (ws : List ℕ) × ((o ≡ made ws) × (length ws ≡ n))
unfolding count
count-made (refused m) n e = absurd (let z : ◌≡◌ {A = ℕ} 0 1 = cc in omega arith)
count-made (made ws) n e = let q : 0 + length ws ≡ n = cc in (ws, (refl, sym (zero-add (length ws)) ∙ q))

module _ (text words labels : List ℕ) where
  pub left-short : (table : List ℕ) (f : Failure) → NotedAll text table (Err f) → length table ≡ length labels → left_cleared (ended_told (Err f)) words labels ≡ left_of (tellers_of text) words labels
  unfolding left_of
  left-short table Failure.NoRoom h l =
      sym (ap (λ (b : Bool). cond b (left_cleared (refused_told 9 0) words labels) (outcome (assemble_of (tellers_of text)) words labels)) (lt-ltb (length labels) (3 * length (labels_from (tellers_of text) 0)) (omega arith)))
  left-short table (Failure.BadLine n) h l = absurd h

  module _ (table : List ℕ) (second : ℕ) (g : Gives text table second) (l : length table ≡ length labels) where
    left_by : (o : Assembly) → assemble_of (tellers_of text) ≡ o → outcome o words labels ≡ left_of (tellers_of text) words labels
    unfolding left_of
    left_by o e =
        ap (λ (o : Assembly). outcome o words labels) (sym e)
        ∙ sym (ap (λ (b : Bool). cond b (left_cleared (refused_told 9 0) words labels) (outcome (assemble_of (tellers_of text)) words labels)) (le-ltb (length labels) (3 * length (labels_from (tellers_of text) 0)) (let r = g.room in omega arith)))

    pub left-bad : (f : Failure) → check_from text table second (lines_of text) 1 0 ≡ Err f → left_cleared (ended_told (Err f)) words labels ≡ left_of (tellers_of text) words labels
    unfolding outcome
    left-bad f e =
        let bad = count-bad (assemble_of (tellers_of text)) f (sym (check-right text table second g) ∙ e) in
        rw bad.1.1 (left_by (refused bad.0) bad.1.0)

    module _ (n : ℕ) (e : check_from text table second (lines_of text) 1 0 ≡ Ok n) where
      found : (ws : List ℕ) × ((assemble_of (tellers_of text) ≡ made ws) × (length ws ≡ n))
      found = count-made (assemble_of (tellers_of text)) n (sym (check-right text table second g) ∙ e)

      pub left-small : length words / 4 < n → left_cleared (refused_told 9 0) words labels ≡ left_of (tellers_of text) words labels
      unfolding outcome
      left-small h =
          let ws = found.0 in
          let k = found.1.1 in
          sym (ap (λ (b : Bool). cond b (left_cleared (refused_told 9 0) words labels) (left_cleared (done_told (4 * length ws)) (bytes_of_words ws ++ drop (4 * length ws) words) labels)) (lt-ltb (length words) (4 * length ws) (omega arith)))
          ∙ left_by (made ws) found.1.0

      pub words-fit : n ≤ length words / 4 → 4 * length (words_from text table (lines_of text) 0) ≤ length words
      words-fit h = let k = ap length (words_right text table second g found.0 found.1.0) ∙ found.1.1 in omega arith

      pub left-done : n ≤ length words / 4 → left_cleared (done_told (4 * n)) (sets words 0 (bytes_of_words (words_from text table (lines_of text) 0))) labels ≡ left_of (tellers_of text) words labels
      unfolding outcome
      left-done h =
          let ws = found.0 in
          let k = found.1.1 in
          let fits : 4 * length ws ≤ length words = omega arith in
          ap (λ (m : ℕ). left_cleared (done_told (4 * m)) (sets words 0 (bytes_of_words (words_from text table (lines_of text) 0))) labels) (sym k)
          ∙ ap (λ (new : List ℕ). left_cleared (done_told (4 * length ws)) new labels) (ap (λ (v : List ℕ). sets words 0 (bytes_of_words v)) (words_right text table second g ws found.1.0) ∙ front words ws fits)
          ∙ sym (ap (λ (b : Bool). cond b (left_cleared (refused_told 9 0) words labels) (left_cleared (done_told (4 * length ws)) (bytes_of_words ws ++ drop (4 * length ws) words) labels)) (le-ltb (length words) (4 * length ws) fits))
          ∙ left_by (made ws) found.1.0

-- ---- only the length of `labels` matters
outcome-length : (o : Assembly) (words a b : List ℕ) → length a ≡ length b → outcome o words a ≡ outcome o words b
unfolding outcome
outcome-length (refused line) words a b e = ap (λ (n : ℕ). leaves (refused_told 10 line) words (replicate n 0)) e
outcome-length (made ws) words a b e =
    ap (λ (n : ℕ). cond (ltb (length words) (4 * length ws)) (leaves (refused_told 9 0) words (replicate n 0))
    (leaves (done_told (4 * length ws)) (bytes_of_words ws ++ drop (4 * length ws) words) (replicate n 0))) e

left-length : (fs : List Teller) (words a b : List ℕ) → length a ≡ length b → left_of fs words a ≡ left_of fs words b
unfolding left_of
left-length fs words a b e =
    ap (λ (n : ℕ). cond (ltb n (3 * length (labels_from fs 0))) (leaves (refused_told 9 0) words (replicate n 0)) (outcome (assemble_of fs) words a)) e
    ∙ ap (cond (ltb (length b) (3 * length (labels_from fs 0))) (left_cleared (refused_told 9 0) words b)) (outcome-length (assemble_of fs) words a b e)

-- cleared before and after
pub left-cleared : (text words labels : List ℕ) (told : Told) (new first second last : List ℕ) → first ≡ replicate (length labels) 0
    → left_cleared told new first ≡ left_of (tellers_of text) words first → length second ≡ length first → last ≡ replicate (length second) 0
    → Assembled text words labels (leaves told new last)
left-cleared text words labels told new first second last c e l d =
    met text words labels (leaves told new last)
    (ap (leaves told new) (d ∙ ap (λ (n : ℕ). replicate n 0) l) ∙ e ∙ left-length (tellers_of text) words first labels (ap length c ∙ length-replicate (length labels) 0))
