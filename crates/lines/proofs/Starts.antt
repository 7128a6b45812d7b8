-- How a line begins, and what it then says. Assumes nothing.
use Rattle.opcode.specs.declared.Opcode.{Opcode}
use Rattle.std.proofs.Common.{Option, ◌≡◌, ℕ, ◌+◌, ◌<◌, ◌≤◌, Bool, true, false, cond, eqb, List, [], ◌∷◌, length, drop, ℤ, sym, refl, ap, ◌∙◌, subst, Option as RustOption, Some, None, zero-add, eq-eqb, ne_eqb, eqb-true}
use Rattle.opcode.specs.Opcodes.{form_of, opcode_in}
use Rattle.opcode.specs.declared.Form.{Form}
use Rattle.names.specs.Names.{name_key}
use Rattle.labels.specs.Bytes.{is_space, is_letter, is_part, head_of, key_of}
use Rattle.labels.specs.Reading.{tail_of, run_of, past, skip, name_at, Passed}
use Rattle.labels.proofs.Spans.{tail-drop, past_stop, past_head}
use Rattle.labels.proofs.Steps.{passed}
use Rattle.lines.specs.Lines.{Kind, kinds_of, word_for, Saying, empty, named, wrong, saying_of}
use Rattle.lines.specs.Reader.{nothing, operands_read, instruction_read, word_read, line_read}
use Rattle.lines.specs.Code.{word_or_wrong, said_by, said_of, named_at, start_at, start_of}
use Rattle.lines.specs.declared.Start.{Start}
use Rattle.lines.proofs.Steps.{nothing-end, nothing-not}

abbrev Look : Type 0
Look = Form → List ℕ → Option ℤ

-- what a line that begins so is read as, whatever the labels mean
abbrev pub Started : List ℕ → Start → Type 0
Started s Start.Blank = (look : Look) → line_read look s ≡ empty
Started s (Start.Label at) = ((look : Look) → line_read look s ≡ named (name_at s at)) × ((name_at s at ≡ run_of is_part (skip s)) × ((is_letter (head_of (drop at s)) ≡ true) × (head_of (skip (past is_part (drop at s))) ≡ 58)))
Started s (Start.Word key n) = (look : Look) → line_read look s ≡ instruction_read (opcode_in name_key key) look (drop n s)
Started s Start.Other = (look : Look) → line_read look s ≡ wrong

-- spaces before the operands are passed over once or twice
operands-from : (ks : List Kind) (look : List ℕ → Option ℤ) (t : List ℕ) → operands_read ks look (skip t) ≡ operands_read ks look t
unfolding operands_read
operands-from ks look t = go ks
  where
    twice : skip (skip t) ≡ skip t
    twice = past_stop is_space (skip t) (past_head is_space t refl)

    go : (ks : List Kind) → operands_read ks look (skip t) ≡ operands_read ks look t
    go [] = rw twice
    go (k ∷ []) = rw twice
    go (k ∷ (j ∷ ks)) = rw twice

instruction-from : (f : Option Opcode) (look : Look) (t : List ℕ) → instruction_read f look (skip t) ≡ instruction_read f look t
instruction-from (Some op) look t = ap (λ (o : Option (List ℤ)). saying_of (word_for op o)) (operands-from (kinds_of (form_of op)) (look (form_of op)) t)
instruction-from None look t = refl

module _ (s : List ℕ) where
  at : ℕ
  at = length (run_of is_space s)

  e : ℕ
  e = at + length (name_at s at)

  spaces-end : Passed is_space s 0 at
  unfolding at
  spaces-end = passed is_space s 0 at (sym (zero-add (length (run_of is_space s))))

  name-end : Passed is_part s at e
  unfolding e
  name-end = passed is_part s at e refl

  next : ℕ
  next = e + length (run_of is_space (drop e s))

  there : drop next s ≡ skip (drop e s)
  unfolding next
  there = (passed is_space s e next refl).rest

  Read : Look → Bool → Bool → Bool → Bool → Saying
  Read look a b c d = cond a empty (cond b (cond c (cond d (named (name_at s at)) wrong) (instruction_read (opcode_in name_key (key_of (name_at s at))) look (drop next s))) wrong)

  read_is : (look : Look) → line_read look s
      ≡ Read look (nothing (drop at s)) (is_letter (head_of (drop at s))) (eqb (head_of (skip (drop e s))) 58) (nothing (skip (tail_of (skip (drop e s)))))
  unfolding line_read word_read Read
  read_is look =
      let f = opcode_in name_key (key_of (name_at s at)) in
      cc (spaces-end.rest, name-end.rest, ap (instruction_read f look) there ∙ instruction-from f look (drop e s))

  started : Started s (start_of s)
  unfolding start_of at e next Read
  started = go (nothing (drop at s)) (is_letter (head_of (drop at s))) (eqb (head_of (skip (drop e s))) 58) (nothing (skip (tail_of (skip (drop e s))))) refl refl read_is
    where
      go : (a b c d : Bool) → is_letter (head_of (drop at s)) ≡ b → eqb (head_of (skip (drop e s))) 58 ≡ c → ((look : Look) → line_read look s ≡ Read look a b c d)
          → Started s (cond a Start.Blank (cond b (cond c (cond d (Start.Label at) Start.Other) (Start.Word (key_of (name_at s at)) next)) Start.Other))
      go true b c d l n h = h
      go false true true true l n h = (h, (ap (run_of is_part) spaces-end.rest, (l, ap (λ (u : List ℕ). head_of (skip u)) (sym name-end.rest) ∙ eqb-true _ _ n)))
      go false true true false l n h = h
      go false true false d l n h = h
      go false false c d l n h = h

pub began : (s : List ℕ) (r x : Start) → r ≡ start_of s → r ≡ x → Started s x
began s r x e f = subst (Started s) (sym e ∙ f) (started s)

-- ---- the places that the code finds
module _ (s : List ℕ) (at : ℕ) (p : at ≡ 0 + length (run_of is_space (drop 0 s))) where
  from : start_at s at ≡ start_of s
  unfolding start_of
  from = ap (start_at s) (p ∙ zero-add (length (run_of is_space s)))

  worded : Bool → Start
  worded b = cond b (named_at s at (at + length (name_at s at))) Start.Other

  worded-from : at < length s → (b : Bool) → is_letter (head_of (drop at s)) ≡ b → worded b ≡ start_of s
  unfolding worded
  worded-from h b l = ap worded (sym l) ∙ sym (ap (λ (t : Bool). cond t Start.Blank (worded (is_letter (head_of (drop at s))))) (nothing-not s at h)) ∙ from

  pub start-blank : length s ≤ at → Start.Blank ≡ start_of s
  unfolding worded
  start-blank h = sym (ap (λ (t : Bool). cond t Start.Blank (worded (is_letter (head_of (drop at s))))) (nothing-end s at h)) ∙ from

  pub start-other : at < length s → is_letter (head_of (drop at s)) ≡ false → Start.Other ≡ start_of s
  unfolding worded
  start-other h l = worded-from h false l

  module _ (h : at < length s) (l : is_letter (head_of (drop at s)) ≡ true) (e n : ℕ) (q : e ≡ at + length (run_of is_part (drop at s))) (r : n ≡ e + length (run_of is_space (drop e s))) where
    named-from : named_at s at e ≡ start_of s
    unfolding worded
    named-from = ap (named_at s at) q ∙ worded-from h true l

    to : drop n s ≡ skip (drop e s)
    to = (passed is_space s e n r).rest

    worded-at : Start
    worded-at = Start.Word (key_of (name_at s at)) (e + length (run_of is_space (drop e s)))

    pub start_word : (head_of (drop n s) ≡ 58 → ⊥) → (key : ℕ) → key ≡ key_of (name_at s at) → Start.Word key n ≡ start_of s
    unfolding worded-at
    start_word c key k =
        cc (k, r)
        ∙ ap (λ (t : Bool). cond t (cond (nothing (skip (tail_of (skip (drop e s))))) (Start.Label at) Start.Other) worded-at) (sym (ap (λ (u : List ℕ). eqb (head_of u) 58) (sym to) ∙ ne_eqb _ _ c)) ∙ named-from

    colon : head_of (drop n s) ≡ 58 → cond (nothing (skip (drop (n + 1) s))) (Start.Label at) Start.Other ≡ start_of s
    unfolding worded-at
    colon c =
        ap (λ (u : List ℕ). cond (nothing (skip u)) (Start.Label at) Start.Other) (sym (tail-drop s n) ∙ ap tail_of to)
        ∙ ap (λ (t : Bool). cond t (cond (nothing (skip (tail_of (skip (drop e s))))) (Start.Label at) Start.Other) worded-at) (sym (ap (λ (u : List ℕ). eqb (head_of u) 58) (sym to) ∙ eq-eqb _ _ c))
        ∙ named-from

    pub start-more : head_of (drop n s) ≡ 58 → (m : ℕ) → m ≡ n + 1 + length (run_of is_space (drop (n + 1) s)) → m < length s → Start.Other ≡ start_of s
    start-more c m e b = ap (λ (t : Bool). cond t (Start.Label at) Start.Other) (sym (ap nothing (sym (passed is_space s (n + 1) m e).rest) ∙ nothing-not s m b)) ∙ colon c

    pub start-label : head_of (drop n s) ≡ 58 → (m : ℕ) → m ≡ n + 1 + length (run_of is_space (drop (n + 1) s)) → length s ≤ m → Start.Label at ≡ start_of s
    start-label c m e b = ap (λ (t : Bool). cond t (Start.Label at) Start.Other) (sym (ap nothing (sym (passed is_space s (n + 1) m e).rest) ∙ nothing-end s m b)) ∙ colon c

-- ---- an instruction's answer names no label
pub word-said : (s : List ℕ) (w : RustOption ℕ) → word_or_wrong w ≡ said_of s (said_by w)
word-said s (Some w) = refl
word-said s None = refl
