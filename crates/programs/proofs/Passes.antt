-- What the passes find is what the definitions say, where the table gives the labels of the text. Assumes nothing.
use mathlib.Core.Path.{◌≡◌, refl, sym, ap, ◌∙◌, fun_ext}
use mathlib.Core.Bool.{Bool, false, cond}
use mathlib.Core.List.{List, [], ◌∷◌, ◌++◌, map}
use mathlib.Core.Logic.{◌⊎◌, inl, inr}
use Prim.Native.Nat.{ℕ, ◌+◌, ◌≤◌, ◌<◌}
use native.Mathlib.Omega.{arith}
use lib.Dec.{eqb}
use lib.IntN.{ℤ}
use lib.ListN.{length, drop}
use borrow.Author.Tests.{eq-eqb, ne_eqb}
use Rattle.opcode.specs.Opcodes.{opcode_in}
use Rattle.opcode.specs.declared.Form.{Form}
use Rattle.names.specs.Names.{name_key}
use Rattle.labels.specs.Reading.{name_at}
use Rattle.sums.specs.Sums.{distance}
use Rattle.sums.specs.Code.{look_in}
use Rattle.lines.specs.Lines.{Saying, empty, named, word, wrong, base_of}
use Rattle.lines.specs.Reader.{line_read, instruction_read}
use Rattle.lines.specs.Code.{start_of, labels_in}
use Rattle.lines.specs.declared.Start.{Start}
use Rattle.lines.proofs.Starts.{began}
use Rattle.programs.specs.Programs.{Teller, Label, label_at, on_saying, no_labels, labels_from, index_of, look_at, Assembly, refused, made, and_word, unless, assemble_from, assemble_of, lines_of}
use Rattle.programs.specs.Code.{reader, tellers_of, unless_seen, second_from, Gives, step_by, line_step, on_step, check_from, words_from}
use Rattle.programs.specs.declared.Failure.{Failure}
use Rattle.std.specs.Prelude.{None, Option, Some, Result, Ok, Err}
use Rattle.programs.proofs.Notes.{Counts, by-counts, second-by}
use Rattle.programs.proofs.Meets.{instruction-counts}

unfoldable pub count : ℕ → Assembly → Result ℕ Failure
count own (refused n) = Err (Failure.BadLine n)
count own (made ws) = Ok (own + length ws)

count_word : (own w : ℕ) (o : Assembly) → count (own + 1) o ≡ count own (and_word w o)
unfolding count
count_word own w (refused n) = refl
count_word own w (made ws) = ap Ok (omega arith)

-- a second definition stands in no line before the first that is looked at
second-later : (ts : List Teller) (line own : ℕ) (seen : List Label) → (second_from ts line own seen ≡ 0) ⊎ (line ≤ second_from ts line own seen)
unfolding second_from
second-later [] line own seen = inl refl
second-later (t ∷ ts) line own seen = go (t no_labels) (second-later ts (line + 1))
  where
    weaker : (n : ℕ) → (n ≡ 0) ⊎ (line + 1 ≤ n) → (n ≡ 0) ⊎ (line ≤ n)
    weaker n (inl z) = inl z
    weaker n (inr h) = inr (omega arith)

    go : (x : Saying) → ((own : ℕ) (seen : List Label) → (second_from ts (line + 1) own seen ≡ 0) ⊎ (line + 1 ≤ second_from ts (line + 1) own seen))
        → (on_saying x (second_from ts (line + 1) own seen) (λ name. unless_seen (index_of seen name) (second_from ts (line + 1) own (seen ++ (label_at name own ∷ []))) line)
        (λ w. second_from ts (line + 1) (own + 1) seen) (second_from ts (line + 1) (own + 1) seen) ≡ 0)
        ⊎ (line ≤ on_saying x (second_from ts (line + 1) own seen) (λ name. unless_seen (index_of seen name) (second_from ts (line + 1) own (seen ++ (label_at name own ∷ []))) line)
        (λ w. second_from ts (line + 1) (own + 1) seen) (second_from ts (line + 1) (own + 1) seen))
    go empty ih = weaker _ (ih own seen)
    go (named name) ih = by (index_of seen name) ih
      where
        by : (o : Option ℕ) → ((own : ℕ) (seen : List Label) → (second_from ts (line + 1) own seen ≡ 0) ⊎ (line + 1 ≤ second_from ts (line + 1) own seen))
            → (unless_seen o (second_from ts (line + 1) own (seen ++ (label_at name own ∷ []))) line ≡ 0) ⊎ (line ≤ unless_seen o (second_from ts (line + 1) own (seen ++ (label_at name own ∷ []))) line)
        by None ih = weaker _ (ih own (seen ++ (label_at name own ∷ [])))
        by (Some i) ih = inr (omega arith)
    go (word w) ih = weaker _ (ih (own + 1) seen)
    go wrong ih = weaker _ (ih (own + 1) seen)

not-second : (ts : List Teller) (line own second : ℕ) (seen : List Label) → 0 < line → second ≡ second_from ts (line + 1) own seen → eqb line second ≡ false
not-second ts line own second seen h e = ne_eqb line second (λ z. go (second-later ts (line + 1) own seen) z)
  where
    go : (second_from ts (line + 1) own seen ≡ 0) ⊎ (line + 1 ≤ second_from ts (line + 1) own seen) → line ≡ second → ⊥
    go (inl n) z = omega arith
    go (inr n) z = omega arith

-- ---- the pass that finds the first bad line
module _ (text table : List ℕ) (labels : List Label) (looks : (own : ℕ) → labels_in text table own ≡ look_at labels own) (second : ℕ) where
  Pass : List (List ℕ) → Type 0
  Pass ts = (line own : ℕ) (seen : List Label) → 0 < line → second ≡ second_from (map reader ts) line own seen
      → check_from text table second ts line own ≡ count own (assemble_from (map reader ts) labels line own seen)

  module _ (t : List ℕ) (ts : List (List ℕ)) (ih : Pass ts) (line own : ℕ) (seen : List Label) (h : 0 < line) where
    Checks : Saying → Result ℕ Failure
    Checks x = on_step (step_by (eqb line second) line own x) (λ o. check_from text table second ts (line + 1) o)

    Makes : Saying → Assembly
    Makes x = on_saying x (assemble_from (map reader ts) labels (line + 1) own seen)
        (λ name. unless (index_of seen name) (assemble_from (map reader ts) labels (line + 1) own (seen ++ (label_at name own ∷ []))) (refused line))
        (λ w. and_word w (assemble_from (map reader ts) labels (line + 1) (own + 1) seen)) (refused line)

    blank : second ≡ second_from (map reader ts) (line + 1) own seen → Checks empty ≡ count own (Makes empty)
    unfolding Pass Checks Makes
    blank e = ih (line + 1) own seen (omega arith) e

    label : (name : List ℕ) → second ≡ unless_seen (index_of seen name) (second_from (map reader ts) (line + 1) own (seen ++ (label_at name own ∷ []))) line → Checks (named name) ≡ count own (Makes (named name))
    unfolding Pass Checks Makes count
    label name = go (index_of seen name)
      where
        go : (o : Option ℕ) → second ≡ unless_seen o (second_from (map reader ts) (line + 1) own (seen ++ (label_at name own ∷ []))) line
            → on_step (cond (eqb line second) (Err (Failure.BadLine line)) (Ok own)) (λ o. check_from text table second ts (line + 1) o)
            ≡ count own (unless o (assemble_from (map reader ts) labels (line + 1) own (seen ++ (label_at name own ∷ []))) (refused line))
        go None e =
            ap (λ (b : Bool). on_step (cond b (Err (Failure.BadLine line)) (Ok own)) (λ o. check_from text table second ts (line + 1) o)) (not-second (map reader ts) line own second (seen ++ (label_at name own ∷ [])) h e)
            ∙ ih (line + 1) own (seen ++ (label_at name own ∷ [])) (omega arith) e
        go (Some i) e = ap (λ (b : Bool). on_step (cond b (Err (Failure.BadLine line)) (Ok own)) (λ o. check_from text table second ts (line + 1) o)) (eq-eqb line second (sym e))

    counts : (x : Saying) → Counts x → second ≡ second_from (map reader ts) (line + 1) (own + 1) seen → Checks x ≡ count own (Makes x)
    unfolding Pass Checks Makes count
    counts empty c e = absurd c
    counts (named name) c e = absurd c
    counts (word w) c e = ih (line + 1) (own + 1) seen (omega arith) e ∙ count_word own w (assemble_from (map reader ts) labels (line + 1) (own + 1) seen)
    counts wrong c e = refl

    read : second ≡ second_from (reader t ∷ map reader ts) line own seen → Checks (line_read (look_at labels own) t) ≡ count own (Makes (line_read (look_at labels own) t))
    read e = go (start_of t) refl
      where
        by : (x : Saying) → line_read no_labels t ≡ x → second ≡ on_saying x (second_from (map reader ts) (line + 1) own seen)
            (λ name. unless_seen (index_of seen name) (second_from (map reader ts) (line + 1) own (seen ++ (label_at name own ∷ []))) line)
            (λ w. second_from (map reader ts) (line + 1) (own + 1) seen) (second_from (map reader ts) (line + 1) (own + 1) seen)
        by x q = e ∙ second-by t (map reader ts) own line seen x q

        told-as : (x : Saying) → line_read (look_at labels own) t ≡ x → Checks x ≡ count own (Makes x) → Checks (line_read (look_at labels own) t) ≡ count own (Makes (line_read (look_at labels own) t))
        told-as x q r = ap Checks q ∙ r ∙ sym (ap (λ (y : Saying). count own (Makes y)) q)

        go : (x : Start) → start_of t ≡ x → Checks (line_read (look_at labels own) t) ≡ count own (Makes (line_read (look_at labels own) t))
        go Start.Blank q = let s = began t (start_of t) Start.Blank refl q in told-as empty (s (look_at labels own)) (blank (by empty (s no_labels)))
        go (Start.Label p) q = let s = began t (start_of t) (Start.Label p) refl q in told-as (named (name_at t p)) (s.0 (look_at labels own)) (label (name_at t p) (by (named (name_at t p)) (s.0 no_labels)))
        go (Start.Word key n) q =
            let s = began t (start_of t) (Start.Word key n) refl q in
            let f = opcode_in name_key key in
            let c = instruction-counts f no_labels (drop n t) in
            told-as (instruction_read f (look_at labels own) (drop n t)) (s (look_at labels own))
            (counts (instruction_read f (look_at labels own) (drop n t)) (instruction-counts f (look_at labels own) (drop n t)) (by (instruction_read f no_labels (drop n t)) (s no_labels) ∙ by-counts (instruction_read f no_labels (drop n t)) c _ _ _))
        go Start.Other q = let s = began t (start_of t) Start.Other refl q in told-as wrong (s (look_at labels own)) (counts wrong tt (by wrong (s no_labels)))

  pass : (ts : List (List ℕ)) → Pass ts
  unfolding Pass check_from assemble_from count line_step Checks Makes
  pass [] line own seen h e = ap Ok (omega arith)
  pass (t ∷ ts) line own seen h e =
      ap (λ (l : Form → List ℕ → Option ℤ). on_step (step_by (eqb line second) line own (line_read l t)) (λ o. check_from text table second ts (line + 1) o)) (looks own)
      ∙ read t ts (pass ts) line own seen h e

  -- ---- the words
  wrote : (ts : List (List ℕ)) (line own : ℕ) (seen : List Label) (ws : List ℕ) → assemble_from (map reader ts) labels line own seen ≡ made ws → words_from text table ts own ≡ ws
  unfolding assemble_from words_from
  wrote [] line own seen ws e = let q : [] ≡ ws = cc in q
  wrote (t ∷ ts) line own seen ws e =
      ap (λ (l : Form → List ℕ → Option ℤ). on_saying (line_read l t) (words_from text table ts own) (λ name. words_from text table ts own) (λ w. w ∷ words_from text table ts (own + 1)) (words_from text table ts own)) (looks own)
      ∙ go (line_read (look_at labels own) t) e (wrote ts (line + 1))
    where
      go : (x : Saying)
          → on_saying x (assemble_from (map reader ts) labels (line + 1) own seen)
          (λ name. unless (index_of seen name) (assemble_from (map reader ts) labels (line + 1) own (seen ++ (label_at name own ∷ []))) (refused line))
          (λ w. and_word w (assemble_from (map reader ts) labels (line + 1) (own + 1) seen)) (refused line) ≡ made ws
          → ((own : ℕ) (seen : List Label) (ws : List ℕ) → assemble_from (map reader ts) labels (line + 1) own seen ≡ made ws → words_from text table ts own ≡ ws)
          → on_saying x (words_from text table ts own) (λ name. words_from text table ts own) (λ w. w ∷ words_from text table ts (own + 1)) (words_from text table ts own) ≡ ws
      go empty e ih = ih own seen ws e
      go (named name) e ih = by (index_of seen name) e
        where
          by : (o : Option ℕ) → unless o (assemble_from (map reader ts) labels (line + 1) own (seen ++ (label_at name own ∷ []))) (refused line) ≡ made ws → words_from text table ts own ≡ ws
          by None e = ih own (seen ++ (label_at name own ∷ [])) ws e
          by (Some i) e = absurd (let z : ◌≡◌ {A = ℕ} 0 1 = cc in omega arith)
      go (word w) e ih = by (assemble_from (map reader ts) labels (line + 1) (own + 1) seen) refl e
        where
          by : (o : Assembly) → assemble_from (map reader ts) labels (line + 1) (own + 1) seen ≡ o → and_word w o ≡ made ws → w ∷ words_from text table ts (own + 1) ≡ ws
          by (refused n) q e = absurd (let z : ◌≡◌ {A = ℕ} 0 1 = cc in omega arith)
          by (made vs) q e = let r : w ∷ vs ≡ ws = cc in ap (w ∷◌) (ih (own + 1) seen vs q) ∙ r
      go wrong e ih = absurd (let z : ◌≡◌ {A = ℕ} 0 1 = cc in omega arith)

-- ---- of a text whose labels the table gives
module _ (text table : List ℕ) (second : ℕ) (g : Gives text table second) where
  labels : List Label
  labels = labels_from (tellers_of text) 0

  looks-right : (own : ℕ) → labels_in text table own ≡ look_at labels own
  unfolding look_in labels
  looks-right own = fun_ext (λ f. fun_ext (λ name. ap (distance (base_of f own)) (g.gives name)))

  pub check-right : check_from text table second (lines_of text) 1 0 ≡ count 0 (assemble_of (tellers_of text))
  unfolding Pass labels
  check-right = pass text table labels looks-right second (lines_of text) 1 0 [] (omega arith) g.second_is

  pub words_right : (ws : List ℕ) → assemble_of (tellers_of text) ≡ made ws → words_from text table (lines_of text) 0 ≡ ws
  unfolding labels
  words_right ws e = wrote text table labels looks-right second (lines_of text) 1 0 [] ws e
