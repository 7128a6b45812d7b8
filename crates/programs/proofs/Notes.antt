-- The pass that notes the labels of a text, line by line. Assumes nothing.
use Rattle.std.specs.Prelude.{None, Option, Some}
use mathlib.Core.Path.{◌≡◌, refl, sym, ap, ◌∙◌, subst}
use mathlib.Core.Bool.{Bool, true, false, cond}
use mathlib.Core.List.{List, [], ◌∷◌, ◌++◌, map, append_assoc, append-nil}
use Prim.Native.Nat.{ℕ, ◌+◌, ◌-◌, ◌*◌, ◌/◌, ◌≤◌, ◌<◌}
use native.Mathlib.Omega.{arith}
use lib.Dec.{eqb}
use lib.ListN.{length, take, drop, replicate, length-append, take-append-drop, drop_of_length-le}
use lib.Seq.{drop-drop, drop-append-le, length-sets}
use borrow.Author.Tests.{ne_eqb, eqb-true}
use Rattle.labels.specs.Bytes.{is_letter, is_part, head_of, eq_bytes, key_of}
use Rattle.labels.specs.Reading.{run_of, past, skip, name_at}
use Rattle.labels.specs.Table.{slots_of, search_in, with_label}
use Rattle.labels.specs.declared.table.Slot.{Slot}
use Rattle.labels.proofs.Spans.{run_past, every-run, run-append, past_head}
use Rattle.labels.proofs.Steps.{class-inside}
use Rattle.labels.proofs.Noting.{bytes-equal}
use Rattle.labels.proofs.Tables.{Tabled, tabled-none, tabled-held, tabled-free, tabled-full, tabled-new}
use Rattle.lines.specs.Lines.{Saying, empty, named, word, wrong}
use Rattle.lines.specs.Reader.{line_read}
use Rattle.programs.specs.Programs.{Teller, Label, label_at, on_saying, no_labels, labels_from, index_of, lines_of}
use Rattle.programs.specs.Code.{reader, tellers_of, Spans, unless_seen, second_from, Gives}
use Rattle.programs.specs.declared.spans.Span.{Span}

-- ---- the name of a label's line is that of the text
head-append : (u v : List ℕ) → is_letter (head_of u) ≡ true → head_of (u ++ v) ≡ head_of u
unfolding head_of
head-append [] v h = absurd (let z : ◌≡◌ {A = ℕ} 0 1 = cc in omega arith)
head-append (b ∷ u) v h = refl

-- a colon stands somewhere after the name
run-line : (u v : List ℕ) → head_of (skip (past is_part u)) ≡ 58 → run_of is_part (u ++ v) ≡ run_of is_part u
unfolding head_of past
run-line u v c = ap (λ (w : List ℕ). run_of is_part (w ++ v)) (sym (run_past is_part u)) ∙ ap (run_of is_part) (append_assoc (run_of is_part u) (past is_part u) v)
    ∙ run-append is_part (run_of is_part u) (past is_part u ++ v) (every-run is_part u) (go (past is_part u) c (past_head is_part u refl))
  where
    go : (w : List ℕ) → head_of (skip w) ≡ 58 → is_part (head_of w) ≡ false → is_part (head_of (w ++ v)) ≡ false
    go [] c h = absurd (omega arith)
    go (b ∷ w) c h = h

module _ (text : List ℕ) (at k p : ℕ) (letter : is_letter (head_of (drop p (take k (drop at text)))) ≡ true) where
  inside-line : drop (at + p) text ≡ drop p (take k (drop at text)) ++ drop k (drop at text)
  inside-line =
      sym (drop-drop p at text) ∙ ap (drop p) (sym (take-append-drop k (drop at text)))
      ∙ drop-append-le p (take k (drop at text)) (drop k (drop at text)) (let i = class-inside is_letter (take k (drop at text)) p refl letter in omega arith)

  pub text-letter : is_letter (head_of (drop (at + p) text)) ≡ true
  text-letter = ap (λ (u : List ℕ). is_letter (head_of u)) inside-line ∙ ap is_letter (head-append _ (drop k (drop at text)) letter) ∙ letter

  pub text-name : head_of (skip (past is_part (drop p (take k (drop at text))))) ≡ 58 → name_at text (at + p) ≡ name_at (take k (drop at text)) p
  text-name c = ap (run_of is_part) inside-line ∙ run-line (drop p (take k (drop at text))) (drop k (drop at text)) c

-- ---- a line's part in the labels, and in the search for a second definition
module _ (t : List ℕ) (ts : List Teller) (own : ℕ) where
  labels-by : (x : Saying) → line_read no_labels t ≡ x → labels_from (reader t ∷ ts) own
      ≡ on_saying x (labels_from ts own) (λ name. label_at name own ∷ labels_from ts own) (λ w. labels_from ts (own + 1)) (labels_from ts (own + 1))
  unfolding labels_from
  labels-by x e = ap (λ (x : Saying). on_saying x (labels_from ts own) (λ name. label_at name own ∷ labels_from ts own) (λ w. labels_from ts (own + 1)) (labels_from ts (own + 1))) e

  pub second-by : (line : ℕ) (seen : List Label) (x : Saying) → line_read no_labels t ≡ x → second_from (reader t ∷ ts) line own seen
      ≡ on_saying x (second_from ts (line + 1) own seen) (λ name. unless_seen (index_of seen name) (second_from ts (line + 1) own (seen ++ (label_at name own ∷ []))) line)
      (λ w. second_from ts (line + 1) (own + 1) seen) (second_from ts (line + 1) (own + 1) seen)
  unfolding second_from
  second-by line seen x e =
      ap (λ (x : Saying). on_saying x (second_from ts (line + 1) own seen) (λ name. unless_seen (index_of seen name) (second_from ts (line + 1) own (seen ++ (label_at name own ∷ []))) line)
      (λ w. second_from ts (line + 1) (own + 1) seen) (second_from ts (line + 1) (own + 1) seen)) e

-- what counts as an instruction: a word, or something wrong
abbrev pub Counts : Saying → Type 0
Counts empty = ⊥
Counts (named name) = ⊥
Counts (word w) = Unit {0}
Counts wrong = Unit {0}

pub by-counts : {A : Type 0} (x : Saying) → Counts x → (a : A) (b : List ℕ → A) (c : A) → on_saying x a b (λ w. c) c ≡ c
by-counts empty h a b c = absurd h
by-counts (named name) h a b c = absurd h
by-counts (word w) h a b c = refl
by-counts wrong h a b c = refl

-- ---- labels with one more
abbrev or_else : Option ℕ → Option ℕ → Option ℕ
or_else None b = b
or_else (Some i) b = Some i

index-more : (seen : List Label) (l : Label) (m : List ℕ) (o : Option ℕ) → index_of seen m ≡ o → index_of (seen ++ (l ∷ [])) m ≡ or_else o (cond (eq_bytes l.name m) (Some l.index) None)
unfolding index_of
index-more [] l m o e = ap (λ (x : Option ℕ). or_else x (cond (eq_bytes l.name m) (Some l.index) None)) e
index-more (k ∷ seen) l m o e = go (eq_bytes k.name m) e (index-more seen l m)
  where
    go : (c : Bool) → cond c (Some k.index) (index_of seen m) ≡ o → ((o : Option ℕ) → index_of seen m ≡ o → index_of (seen ++ (l ∷ [])) m ≡ or_else o (cond (eq_bytes l.name m) (Some l.index) None))
        → cond c (Some k.index) (index_of (seen ++ (l ∷ [])) m) ≡ or_else o (cond (eq_bytes l.name m) (Some l.index) None)
    go true e ih = ap (λ (x : Option ℕ). or_else x (cond (eq_bytes l.name m) (Some l.index) None)) e
    go false e ih = ih o e

module _ (seen : List Label) (name : List ℕ) (own : ℕ) (m : List ℕ) where
  index-new : index_of seen name ≡ None → cond (eq_bytes name m) (Some own) (index_of seen m) ≡ index_of (seen ++ (label_at name own ∷ [])) m
  index-new n = go (eq_bytes name m) (index_of seen m) refl refl
    where
      go : (c : Bool) (o : Option ℕ) → eq_bytes name m ≡ c → index_of seen m ≡ o → cond c (Some own) (index_of seen m) ≡ index_of (seen ++ (label_at name own ∷ [])) m
      go c None ec eo = ap (cond c (Some own)) eo ∙ sym (index-more seen (label_at name own) m None eo ∙ ap (λ (b : Bool). cond b (Some own) None) ec)
      go true (Some i) ec eo = absurd (let e = sym n ∙ ap (index_of seen) (bytes-equal name m ec) ∙ eo in let z : ◌≡◌ {A = ℕ} 0 1 = cc in omega arith)
      go false (Some i) ec eo = eo ∙ sym (index-more seen (label_at name own) m (Some i) eo)

  index-again : (i : ℕ) → index_of seen name ≡ Some i → index_of seen m ≡ index_of (seen ++ (label_at name own ∷ [])) m
  index-again i n = go (eq_bytes name m) (index_of seen m) refl refl
    where
      go : (c : Bool) (o : Option ℕ) → eq_bytes name m ≡ c → index_of seen m ≡ o → index_of seen m ≡ index_of (seen ++ (label_at name own ∷ [])) m
      go c (Some j) ec eo = eo ∙ sym (index-more seen (label_at name own) m (Some j) eo)
      go true None ec eo = absurd (let e = sym n ∙ ap (index_of seen) (bytes-equal name m ec) ∙ eo in let z : ◌≡◌ {A = ℕ} 0 1 = cc in omega arith)
      go false None ec eo = eo ∙ sym (index-more seen (label_at name own) m None eo ∙ ap (λ (b : Bool). cond b (Some own) None) ec)

-- ---- what the pass keeps: the labels seen, and what is still to do gives the whole
pub record Noting (text table : List ℕ) (at before own count second : ℕ) : Type 0 where
  pub seen : List Label
  pub split : labels_from (tellers_of text) 0 ≡ seen ++ labels_from (tellers_of (drop at text)) own
  pub tabled : Tabled text table (index_of seen) (length seen)
  pub counted : count ≡ length seen
  pub room : count ≤ slots_of table
  pub again : second_from (tellers_of text) 1 0 [] ≡ cond (eqb second 0) (second_from (tellers_of (drop at text)) (before + 1) own seen) second

pub noting-none : (text table : List ℕ) → table ≡ replicate (length table) 0 → Noting text table 0 0 0 0 0
unfolding index_of
noting-none text table z = record {
  seen = [];
  split = refl;
  tabled = subst (λ (t : List ℕ). Tabled text t (λ _. None) 0) (sym z) (tabled-none text (length table));
  counted = refl;
  room = omega arith;
  again = refl;
}

module _ (text table : List ℕ) (at before own count second : ℕ) (g : Noting text table at before own count second) where
  pub noting-all : length text ≤ at → Gives text table second
  unfolding lines_of labels_from second_from
  noting-all h = record {
    room = let e = ap length all in let r = g.room in let c = g.counted in omega arith;
    gives = λ name. g.tabled.gives name ∙ ap (λ (l : List Label). index_of l name) (sym all);
    second_is = sym (g.again ∙ ap (λ (t : List ℕ). cond (eqb second 0) (second_from (tellers_of t) (before + 1) own g.seen) second) end ∙ zero_same second);
  }
    where
      end : drop at text ≡ []
      end = drop_of_length-le text h

      all : labels_from (tellers_of text) 0 ≡ g.seen
      all = g.split ∙ ap (λ (t : List ℕ). g.seen ++ labels_from (tellers_of t) own) end ∙ append-nil g.seen

      zero_same : (n : ℕ) → cond (eqb n 0) 0 n ≡ n
      zero_same n = go (eqb n 0) refl
        where
          go : (c : Bool) → eqb n 0 ≡ c → cond c 0 n ≡ n
          go true z = sym (eqb-true n 0 z)
          go false z = refl

  module _ (r : Span) (spans : Spans text at r) where
    t : List ℕ
    t = take (r.stop - at) (drop at text)

    tellers : tellers_of (drop at text) ≡ reader t ∷ tellers_of (drop r.next text)
    unfolding t
    tellers = ap (map reader) spans.lines

    rest : List Teller
    rest = tellers_of (drop r.next text)

    split_by : (x : Saying) → line_read no_labels t ≡ x → labels_from (tellers_of text) 0
        ≡ g.seen ++ on_saying x (labels_from rest own) (λ name. label_at name own ∷ labels_from rest own) (λ w. labels_from rest (own + 1)) (labels_from rest (own + 1))
    unfolding rest
    split_by x e = g.split ∙ ap (g.seen ++◌) (ap (λ (fs : List Teller). labels_from fs own) tellers ∙ labels-by t rest own x e)

    again_by : (x : Saying) → line_read no_labels t ≡ x → second_from (tellers_of text) 1 0 []
        ≡ cond (eqb second 0) (on_saying x (second_from rest (before + 1 + 1) own g.seen) (λ name. unless_seen (index_of g.seen name) (second_from rest (before + 1 + 1) own (g.seen ++ (label_at name own ∷ []))) (before + 1))
        (λ w. second_from rest (before + 1 + 1) (own + 1) g.seen) (second_from rest (before + 1 + 1) (own + 1) g.seen)) second
    unfolding rest
    again_by x e = g.again ∙ ap (λ (n : ℕ). cond (eqb second 0) n second) (ap (λ (fs : List Teller). second_from fs (before + 1) own g.seen) tellers ∙ second-by t rest own (before + 1) g.seen x e)

    pub noting-blank : line_read no_labels (take (r.stop - at) (drop at text)) ≡ empty → Noting text table r.next (before + 1) own count second
    unfolding t rest
    noting-blank e = record { seen = g.seen; split = split_by empty e; tabled = g.tabled; counted = g.counted; room = g.room; again = again_by empty e }

    pub noting-other : (x : Saying) → line_read no_labels (take (r.stop - at) (drop at text)) ≡ x → Counts x → Noting text table r.next (before + 1) (own + 1) count second
    unfolding t rest
    noting-other x e c = record {
      seen = g.seen;
      split = split_by x e ∙ ap (g.seen ++◌) (by-counts x c _ _ _);
      tabled = g.tabled;
      counted = g.counted;
      room = g.room;
      again = again_by x e ∙ ap (λ (n : ℕ). cond (eqb second 0) n second) (by-counts x c _ _ _);
    }

    module _ (name : List ℕ) (e : line_read no_labels (take (r.stop - at) (drop at text)) ≡ named name) where
      now-seen : List Label
      now-seen = g.seen ++ (label_at name own ∷ [])

      split-named : labels_from (tellers_of text) 0 ≡ now-seen ++ labels_from (tellers_of (drop r.next text)) own
      unfolding t rest now-seen
      split-named = split_by (named name) e ∙ sym (append_assoc g.seen (label_at name own ∷ []) (labels_from rest own))

      one_more : length now-seen ≡ length g.seen + 1
      unfolding now-seen
      one_more = length-append g.seen (label_at name own ∷ [])

      pub noting-short : slots_of table ≤ count → length table < 3 * length (labels_from (tellers_of text) 0)
      noting-short h =
          let a = ap length split-named ∙ length-append now-seen (labels_from (tellers_of (drop r.next text)) own) in
          let c = g.counted in
          omega (arith, one_more)

      pub noting-full : search_in text table name ≡ Slot.Full → length table < 3 * length (labels_from (tellers_of text) 0)
      noting-full f = noting-short (let h = tabled-full text table (index_of g.seen) (length g.seen) g.tabled name f in let c = g.counted in omega arith)

      pub noting-again : (h : ℕ) → search_in text table name ≡ Slot.Held h → count < slots_of table → Noting text table r.next (before + 1) own (count + 1) (cond (eqb second 0) (before + 1) second)
      unfolding t rest now-seen
      noting-again h f b = record {
        seen = now-seen;
        split = split-named;
        tabled = record {
          findable = g.tabled.findable;
          gives = λ m. g.tabled.gives m ∙ index-again g.seen name own m held.0 held.1;
          used = let u = g.tabled.used in omega (arith, one_more);
        };
        counted = let c = g.counted in omega (arith, one_more);
        room = omega arith;
        again =
            again_by (named name) e ∙ ap (λ (o : Option ℕ). cond (eqb second 0) (unless_seen o (second_from rest (before + 1 + 1) own now-seen) (before + 1)) second) held.1
            ∙ go (eqb second 0) refl;
      }
        where
          held : (i : ℕ) × (index_of g.seen name ≡ Some i)
          held = tabled-held text table (index_of g.seen) (length g.seen) g.tabled name h f

          go : (c : Bool) → eqb second 0 ≡ c → cond c (before + 1) second ≡ cond (eqb (cond c (before + 1) second) 0) (second_from (tellers_of (drop r.next text)) (before + 1 + 1) own now-seen) (cond c (before + 1) second)
          go true z = sym (ap (λ (b : Bool). cond b (second_from (tellers_of (drop r.next text)) (before + 1 + 1) own now-seen) (before + 1)) (ne_eqb (before + 1) 0 (λ z. omega arith)))
          go false z = sym (ap (λ (b : Bool). cond b (second_from (tellers_of (drop r.next text)) (before + 1 + 1) own now-seen) second) z)

      pub noting-new : (p j : ℕ) → is_letter (head_of (drop p text)) ≡ true → name_at text p ≡ name → search_in text table (name_at text p) ≡ Slot.Free j → count < slots_of table
          → Noting text (with_label (Slot.Free j) table p (key_of (name_at text p)) own) r.next (before + 1) own (count + 1) second
      unfolding t rest now-seen
      noting-new p j l n f b = record {
        seen = now-seen;
        split = split-named;
        tabled = record {
          findable = new.findable;
          gives = λ m. new.gives m ∙ ap (λ (q : List ℕ). cond (eq_bytes q m) (Some own) (index_of g.seen m)) n ∙ index-new g.seen name own m free;
          used = let u = new.used in omega (arith, one_more);
        };
        counted = let c = g.counted in omega (arith, one_more);
        room = let s = ap (λ (k : ℕ). k / 3) (length-sets table (3 * j) (p ∷ (key_of (name_at text p) ∷ (own ∷ [])))) in omega arith;
        again = again_by (named name) e ∙ ap (λ (o : Option ℕ). cond (eqb second 0) (unless_seen o (second_from rest (before + 1 + 1) own now-seen) (before + 1)) second) free;
      }
        where
          new : Tabled text (with_label (Slot.Free j) table p (key_of (name_at text p)) own) (λ m. cond (eq_bytes (name_at text p) m) (Some own) (index_of g.seen m)) (length g.seen + 1)
          new = tabled-new text table (index_of g.seen) (length g.seen) p own j g.tabled l f

          free : index_of g.seen name ≡ None
          free = ap (index_of g.seen) (sym n) ∙ tabled-free text table (index_of g.seen) (length g.seen) g.tabled (name_at text p) j f
