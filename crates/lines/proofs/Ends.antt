-- How a line ends that is blank or defines a label. Assumes nothing.
use Rattle.std.proofs.lemmas.Bool.{and_parts}
use Rattle.std.proofs.Common.{◌≡◌, ℕ, zero, suc, ◌+◌, ◌<◌, ◌≤◌, Bool, true, false, cond, ◌&&◌, eqb, List, [], ◌∷◌, length, get_or, drop, sym, refl, ap, ◌∙◌, zero-add, arith, eqb-true}
use Rattle.labels.specs.Bytes.{is_space, is_letter, every, head_of, key_of}
use Rattle.labels.specs.Reading.{tail_of, run_of, past, skip, name_at}
use Rattle.labels.proofs.Spans.{inside}
use Rattle.labels.proofs.Classes.{or-true}
use Rattle.labels.proofs.Steps.{passed}
use Rattle.lines.specs.Reader.{nothing}
use Rattle.lines.specs.Code.{is_end, start_of}
use Rattle.lines.specs.declared.Start.{Start}

none_left : (p : ℕ → Bool) (t : List ℕ) → nothing (past p t) ≡ true → every p t ≡ true
unfolding past every
none_left p [] h = refl
none_left p (b ∷ t) h = go (p b) refl (none_left p t) h
  where
    go : (c : Bool) → p b ≡ c → (nothing (past p t) ≡ true → every p t ≡ true) → nothing (cond c (past p t) (b ∷ t)) ≡ true → p b && every p t ≡ true
    go true e r h = simp (e, r h)
    go false e r h = absurd (cc)

spaces-end : (t : List ℕ) → every is_space t ≡ true → every is_end t ≡ true
unfolding every
spaces-end [] h = refl
spaces-end (b ∷ t) h = let k = and_parts (is_space b) (every is_space t) h in simp (or-true (is_space b) (eqb b 58) k.0, spaces-end t k.1)

colon-ends : (t : List ℕ) → head_of t ≡ 58 → nothing (skip (tail_of t)) ≡ true → every is_end t ≡ true
unfolding every head_of tail_of
colon-ends [] h k = refl
colon-ends (b ∷ t) h k = let i : is_end b ≡ true = ap is_end h in simp (i, spaces-end t (none_left is_space t k))

-- from a place on, such a line is spaces and colons
abbrev Ended : List ℕ → Start → Type 0
Ended s Start.Blank = every is_end s ≡ true
Ended s (Start.Label p) = (n : ℕ) × ((n < length s) × (every is_end (drop n s) ≡ true))
Ended s (Start.Word p e) = Unit {0}
Ended s Start.Other = Unit {0}

module _ (s : List ℕ) where
  at : ℕ
  at = length (run_of is_space s)

  e : ℕ
  e = at + length (name_at s at)

  n : ℕ
  n = e + length (run_of is_space (drop e s))

  to : drop n s ≡ skip (drop e s)
  unfolding n
  to = (passed is_space s e n refl).rest

  blank : nothing (drop at s) ≡ true → every is_end s ≡ true
  unfolding at
  blank h = spaces-end s (none_left is_space s (ap nothing (sym (passed is_space s 0 at (sym (zero-add at))).rest) ∙ h))

  defines : eqb (head_of (skip (drop e s))) 58 ≡ true → nothing (skip (tail_of (skip (drop e s)))) ≡ true → (n < length s) × (every is_end (drop n s) ≡ true)
  defines h k =
      let c : head_of (drop n s) ≡ 58 = ap head_of to ∙ eqb-true _ _ h in
      (inside s n (λ z. let w = sym c ∙ z in omega arith), colon-ends (drop n s) c (ap (λ (t : List ℕ). nothing (skip (tail_of t))) to ∙ k))

  ended : Ended s (start_of s)
  unfolding start_of at e n
  ended = go (nothing (drop at s)) (is_letter (head_of (drop at s))) (eqb (head_of (skip (drop e s))) 58) (nothing (skip (tail_of (skip (drop e s))))) refl refl refl
    where
      go : (a b c d : Bool) → nothing (drop at s) ≡ a → eqb (head_of (skip (drop e s))) 58 ≡ c → nothing (skip (tail_of (skip (drop e s)))) ≡ d
          → Ended s (cond a Start.Blank (cond b (cond c (cond d (Start.Label at) Start.Other) (Start.Word (key_of (name_at s at)) n)) Start.Other))
      go true b c d h i j = blank h
      go false true true true h i j = (n, defines i j)
      go false true true false h i j = tt
      go false true false d h i j = tt
      go false false c d h i j = tt

last-ends : (p : ℕ → Bool) (s : List ℕ) (n k : ℕ) → length s ≡ suc k → n ≤ k → every p (drop n s) ≡ true → p (get_or s k 0) ≡ true
unfolding every
last-ends p [] n k q l h = absurd (omega arith)
last-ends p (b ∷ t) zero zero q l h = (and_parts (p b) (every p t) h).0
last-ends p (b ∷ t) zero (suc k) q l h = last-ends p t zero k (omega arith) (omega arith) (and_parts (p b) (every p t) h).1
last-ends p (b ∷ t) (suc n) zero q l h = absurd (omega arith)
last-ends p (b ∷ t) (suc n) (suc k) q l h = last-ends p t n k (omega arith) (omega arith) h

-- a line with another last byte is an instruction, right or wrong
pub plain-start : {A : Type 0} (f : Start → A) (v : A) (s : List ℕ) (k : ℕ) → length s ≡ suc k → is_end (get_or s k 0) ≡ false → ((p e : ℕ) → f (Start.Word p e) ≡ v) → f Start.Other ≡ v → f (start_of s) ≡ v
plain-start f v s k q h w o = go (start_of s) (ended s)
  where
    no : {B : Type 0} → is_end (get_or s k 0) ≡ true → B
    no i = let j : true ≡ false = sym i ∙ h in absurd (cc)

    go : (x : Start) → Ended s x → f x ≡ v
    go Start.Blank i = no (last-ends is_end s 0 k q (omega arith) i)
    go (Start.Label p) i = let b = i.1.0 in no (last-ends is_end s i.0 k q (omega arith) i.1.1)
    go (Start.Word p e) i = w p e
    go Start.Other i = o
