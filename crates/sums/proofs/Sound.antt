-- Whatever is read spells a sum of that value: the reader takes nothing but the language. Assumes nothing.
use Rattle.std.specs.Prelude.{None, Option, Some}
use Rattle.std.proofs.lemmas.Bool.{and_parts}
use mathlib.Core.Path.{◌≡◌, refl, sym, ap, ◌∙◌}
use mathlib.Core.Bool.{Bool, true, false, cond}
use mathlib.Core.List.{List, [], ◌∷◌, ◌++◌, append_assoc}
use Prim.Native.Nat.{ℕ, zero, suc}
use native.Mathlib.Omega.{arith}
use lib.IntN.{ℤ}
use lib.Dec.{eqb}
use lib.ListN.{length}
use borrow.Author.Tests.{eqb-true}
use Rattle.labels.specs.Bytes.{is_space, is_digit, is_letter, is_part, every, is_name, is_number, decimal, spaces, head_of}
use Rattle.sums.specs.Sums.{Sign, unsigned, plus, minus, Op, add, sub, Term, Rest, number, label, group, done, then, sign_text, op_text, term_text, rest_text, Sum, sum_text, checked, known, signed, join, both, term_value, rest_value, sum_value}
use Rattle.labels.specs.Reading.{tail_of, run_of, past, skip}
use Rattle.sums.specs.Reader.{Got, got, bad, given, onto, digits_read, number_read, name_read, closed_after, term_by, more_by, sum_read, inner_read, term_read}
use Rattle.labels.proofs.Spans.{run_past, run_on, every-run, are-spaces}
use Rattle.sums.proofs.Complete.{sum_is, goes}

pub bad-got : {A : Type 0} {v : ℤ} {u : List ℕ} → bad ≡ got v u → A
bad-got h = absurd (cc)

pub given-got : (o : Option ℤ) (t : List ℕ) (v : ℤ) (u : List ℕ) → given o t ≡ got v u → (o ≡ Some v) × (t ≡ u)
given-got None t v u h = bad-got h
given-got (Some x) t v u h = (cc, cc)

-- a first byte that is not 0 is there
pub cons-is : (t : List ℕ) (b : ℕ) → head_of t ≡ b → (b ≡ 0 → ⊥) → t ≡ b ∷ tail_of t
unfolding head_of tail_of
cons-is [] b h n = absurd (n (sym h))
cons-is (x ∷ t) b h n = ap (◌∷ t) h

pub skipped : (t : List ℕ) → t ≡ spaces (length (run_of is_space t)) ++ skip t
skipped t = sym (run_past is_space t) ∙ ap (◌++ skip t) (are-spaces (run_of is_space t) (every-run is_space t))

-- ---- a term
module _ (look : List ℕ → Option ℤ) (d : ℕ) where
  TermSound : List ℕ → ℤ → List ℕ → Type 0
  TermSound t v u = (e : Term) × (t ≡ term_text e ++ u) × (term_value e look d ≡ Some v)

  is-number : (t : List ℕ) → is_digit (head_of t) ≡ true → is_number (run_of is_digit t) ≡ true
  unfolding is_number
  is-number t h = rw (run_on is_digit t refl h) (rw (← (run_on is_digit t refl h)) (every-run is_digit t))

  digits-sound : (s : Sign) (t : List ℕ) (v : ℤ) (u : List ℕ) → digits_read s t ≡ got v u → (ds : List ℕ) × (is_number ds ≡ true) × (t ≡ ds ++ u) × (checked (signed s (decimal ds)) ≡ Some v)
  unfolding digits_read
  digits-sound s t v u = go (is_digit (head_of t)) refl
    where
      go : (c : Bool) → is_digit (head_of t) ≡ c → cond c (given (checked (signed s (decimal (run_of is_digit t)))) (past is_digit t)) bad ≡ got v u
          → (ds : List ℕ) × (is_number ds ≡ true) × (t ≡ ds ++ u) × (checked (signed s (decimal ds)) ≡ Some v)
      go true e h = let k = given-got (checked (signed s (decimal (run_of is_digit t)))) (past is_digit t) v u h in
          (run_of is_digit t, is-number t e, sym (run_past is_digit t) ∙ ap (run_of is_digit t ++◌) k.1, k.0)
      go false e h = bad-got h

  number-sound : (t : List ℕ) (v : ℤ) (u : List ℕ) → number_read t ≡ got v u → TermSound t v u
  unfolding number_read TermSound term_text term_value
  number-sound t v u = go (eqb (head_of t) 43) refl
    where
      signs : (s : Sign) (b : ℕ) → sign_text s ≡ b ∷ [] → head_of t ≡ b → (b ≡ 0 → ⊥) → digits_read s (tail_of t) ≡ got v u → TermSound t v u
      signs s b is e n h = let k = digits-sound s (tail_of t) v u h in
          (number s k.0 k.1, cons-is t b e n ∙ ap (b ∷◌) k.2 ∙ ap (λ (x : List ℕ). x ++ k.0 ++ u) (sym is), k.3)

      go' : (c : Bool) → eqb (head_of t) 45 ≡ c → cond c (digits_read minus (tail_of t)) (digits_read unsigned t) ≡ got v u → TermSound t v u
      go' true e h = signs minus 45 refl (eqb-true (head_of t) 45 e) (λ z. omega arith) h
      go' false e h = let k = digits-sound unsigned t v u h in (number unsigned k.0 k.1, k.2, k.3)

      go : (c : Bool) → eqb (head_of t) 43 ≡ c → cond c (digits_read plus (tail_of t)) (cond (eqb (head_of t) 45) (digits_read minus (tail_of t)) (digits_read unsigned t)) ≡ got v u → TermSound t v u
      go true e h = signs plus 43 refl (eqb-true (head_of t) 43 e) (λ z. omega arith) h
      go false e h = go' (eqb (head_of t) 45) refl h

  every-tail : (p : ℕ → Bool) (b : ℕ) (t : List ℕ) → every p (b ∷ t) ≡ true → every p t ≡ true
  unfolding every
  every-tail p b t h = (and_parts (p b) (every p t) h).1

  pub is-name : (t : List ℕ) → is_letter (head_of t) ≡ true → is_name (run_of is_part t) ≡ true
  unfolding is_name
  is-name t h =
      let part : is_part (head_of t) ≡ true = simp h in
      let on = run_on is_part t refl part in
      rw on (rw h (every-tail is_part (head_of t) (run_of is_part (tail_of t)) (rw on at (every-run is_part t))))

  name-sound : (t : List ℕ) (v : ℤ) (u : List ℕ) → is_letter (head_of t) ≡ true → name_read look t ≡ got v u → TermSound t v u
  unfolding name_read TermSound term_text term_value
  name-sound t v u e h = let k = given-got (known (look (run_of is_part t))) (past is_part t) v u h in
      (label (run_of is_part t) (is-name t e), sym (run_past is_part t) ∙ ap (run_of is_part t ++◌) k.1, k.0)

-- ---- a sum, whose reader has passed the spaces after it
SumSound : (List ℕ → Option ℤ) → ℕ → Type 0
SumSound look d = (t : List ℕ) (v : ℤ) (u : List ℕ) → sum_read d look t ≡ got v u → (e : Sum) × ((k : ℕ) × (t ≡ sum_text e ++ (spaces k ++ u)) × (sum_value e look d ≡ Some v))

InnerSound : (List ℕ → Option ℤ) → ℕ → Type 0
InnerSound look zero = Unit {0}
InnerSound look (suc d) = SumSound look d

shut-got : (w : Got) (v : ℤ) (u : List ℕ) → onto closed_after w ≡ got v u → w ≡ got v (41 ∷ u)
unfolding closed_after
shut-got bad v u h = bad-got h
shut-got (got x t) v u h = go (eqb (head_of t) 41) refl h
  where
    go : (c : Bool) → eqb (head_of t) 41 ≡ c → cond c (got x (tail_of t)) bad ≡ got v u → got x t ≡ got v (41 ∷ u)
    go true e h = let p : t ≡ 41 ∷ tail_of t = cons-is t 41 (eqb-true (head_of t) 41 e) (λ z. omega arith) in cc
    go false e h = bad-got h

module _ (look : List ℕ → Option ℤ) where
  group-sound : (d : ℕ) → InnerSound look d → (t : List ℕ) (v : ℤ) (u : List ℕ) → head_of t ≡ 40 → onto closed_after (inner_read d look (skip (tail_of t))) ≡ got v u → TermSound look d t v u
  unfolding InnerSound SumSound TermSound term_text term_value
  group-sound zero I t v u e h = bad-got h
  group-sound (suc d) I t v u e h =
      let k = I (skip (tail_of t)) v (41 ∷ u) (shut-got (sum_read d look (skip (tail_of t))) v u h) in
      let g : ℕ = length (run_of is_space (tail_of t)) in (
        group g k.0.first k.0.rest k.1.0,
        cons-is t 40 e (λ z. omega arith) ∙ ap (40 ∷◌) (skipped (tail_of t) ∙ ap (spaces g ++◌) k.1.1 ∙ simp append_assoc),
        k.1.2,
      )

  term-sound : (d : ℕ) → InnerSound look d → (t : List ℕ) (v : ℤ) (u : List ℕ) → term_read d look t ≡ got v u → TermSound look d t v u
  unfolding term_read term_by
  term-sound d I t v u = go (eqb (head_of t) 40) refl
    where
      go' : (c : Bool) → is_letter (head_of t) ≡ c → cond c (name_read look t) (number_read t) ≡ got v u → TermSound look d t v u
      go' true e h = name-sound look d t v u e h
      go' false e h = number-sound look d t v u h

      go : (c : Bool) → eqb (head_of t) 40 ≡ c → cond c (onto closed_after (inner_read d look (skip (tail_of t)))) (cond (is_letter (head_of t)) (name_read look t) (number_read t)) ≡ got v u → TermSound look d t v u
      go true e h = group-sound d I t v u (eqb-true (head_of t) 40 e) h
      go false e h = go' (is_letter (head_of t)) refl h

  RestSound : ℕ → List ℕ → ℤ → ℤ → List ℕ → Type 0
  RestSound d t v w u = (r : Rest) × ((k : ℕ) × (t ≡ rest_text r ++ (spaces k ++ u)) × (rest_value r look d (Some v) ≡ Some w))

  goes-got : (term : List ℕ → Got) (f : ℕ) (op : Op) (v : ℤ) (x : Got) (w : ℤ) (u : List ℕ) → goes term f op v x ≡ got w u
      → (y : ℤ) × ((t : List ℕ) × (x ≡ got y t) × ((z : ℤ) × (checked (join op v y) ≡ Some z) × (more_by term f z (skip t) ≡ got w u)))
  unfolding goes
  goes-got term f op v bad w u h = bad-got h
  goes-got term f op v (got y t) w u h = (y, (t, refl, go (checked (join op v y)) refl h))
    where
      go : (o : Option ℤ) → checked (join op v y) ≡ o → onto (λ x r. more_by term f x (skip r)) (given o t) ≡ got w u → (z : ℤ) × (checked (join op v y) ≡ Some z) × (more_by term f z (skip t) ≡ got w u)
      go None e h = bad-got h
      go (Some z) e h = (z, e, h)

  op-sound : (d : ℕ) → InnerSound look d → (f : ℕ) → ((z : ℤ) (t : List ℕ) (w : ℤ) (u : List ℕ) → more_by (term_read d look) f z (skip t) ≡ got w u → RestSound d t z w u)
      → (op : Op) (v : ℤ) (t : List ℕ) (w : ℤ) (u : List ℕ) → head_of (skip t) ≡ op_text op → (op_text op ≡ 0 → ⊥) → goes (term_read d look) f op v (term_read d look (skip (tail_of (skip t)))) ≡ got w u → RestSound d t v w u
  unfolding TermSound RestSound rest_text rest_value both
  op-sound d I f more op v t w u e n h =
      let k = goes-got (term_read d look) f op v (term_read d look (skip (tail_of (skip t)))) w u h in
      let y = term-sound d I (skip (tail_of (skip t))) k.0 k.1.0 k.1.1 in
      let r = more k.1.2.0 k.1.0 w u k.1.2.2 in
      let g : ℕ = length (run_of is_space t) in
      let i : ℕ = length (run_of is_space (tail_of (skip t))) in (
        then g op i y.0 r.0,
        (
          r.1.0,
          skipped t ∙ ap (spaces g ++◌) (cons-is (skip t) (op_text op) e n ∙ ap (op_text op ∷◌) (skipped (tail_of (skip t)) ∙ ap (spaces i ++◌) (y.1 ∙ ap (term_text y.0 ++◌) r.1.1))) ∙ simp append_assoc,
          ap (rest_value r.0 look d) (ap (both op (Some v)) y.2 ∙ k.1.2.1) ∙ r.1.2,
        ),
      )

  more-sound : (d : ℕ) → InnerSound look d → (f : ℕ) (v : ℤ) (t : List ℕ) (w : ℤ) (u : List ℕ) → more_by (term_read d look) f v (skip t) ≡ got w u → RestSound d t v w u
  unfolding more_by goes RestSound rest_text rest_value
  more-sound d I zero v t w u h = bad-got h
  more-sound d I (suc f) v t w u h = go (more-sound d I f) (eqb (head_of (skip t)) 43) refl h
    where
      go'' : got v (skip t) ≡ got w u → RestSound d t v w u
      go'' h = (done, (length (run_of is_space t), skipped t ∙ ap (spaces (length (run_of is_space t)) ++◌) (cc), cc))

      go' : ((z : ℤ) (t : List ℕ) (w : ℤ) (u : List ℕ) → more_by (term_read d look) f z (skip t) ≡ got w u → RestSound d t z w u)
          → (c : Bool) → eqb (head_of (skip t)) 45 ≡ c → cond c (goes (term_read d look) f sub v (term_read d look (skip (tail_of (skip t))))) (got v (skip t)) ≡ got w u → RestSound d t v w u
      go' more true e h = op-sound d I f more sub v t w u (eqb-true (head_of (skip t)) 45 e) (λ z. omega arith) h
      go' more false e h = go'' h

      go : ((z : ℤ) (t : List ℕ) (w : ℤ) (u : List ℕ) → more_by (term_read d look) f z (skip t) ≡ got w u → RestSound d t z w u)
          → (c : Bool) → eqb (head_of (skip t)) 43 ≡ c → cond c (goes (term_read d look) f add v (term_read d look (skip (tail_of (skip t))))) (cond (eqb (head_of (skip t)) 45) (goes (term_read d look) f sub v (term_read d look (skip (tail_of (skip t))))) (got v (skip t))) ≡ got w u → RestSound d t v w u
      go more true e h = op-sound d I f more add v t w u (eqb-true (head_of (skip t)) 43 e) (λ z. omega arith) h
      go more false e h = go' more (eqb (head_of (skip t)) 45) refl h

  pub onto-got : (go : ℤ → List ℕ → Got) (x : Got) (w : ℤ) (u : List ℕ) → onto go x ≡ got w u → (v : ℤ) × ((t : List ℕ) × (x ≡ got v t) × (go v t ≡ got w u))
  onto-got go bad w u h = bad-got h
  onto-got go (got v t) w u h = (v, (t, refl, h))

  sum-sound : (d : ℕ) → InnerSound look d → SumSound look d
  unfolding SumSound TermSound RestSound
  sum-sound d I t w u h =
      let k = onto-got (λ v u. more_by (term_read d look) (suc (length t)) v (skip u)) (term_read d look t) w u (sym (sum_is d look t) ∙ h) in
      let y = term-sound d I t k.0 k.1.0 k.1.1 in
      let r = more-sound d I (suc (length t)) k.0 k.1.0 w u k.1.2 in (
        record { first = y.0; rest = r.0 },
        (
          r.1.0,
          y.1 ∙ ap (term_text y.0 ++◌) r.1.1 ∙ sym (append_assoc (term_text y.0) (rest_text r.0) (spaces r.1.0 ++ u)),
          ap (rest_value r.0 look d) y.2 ∙ r.1.2,
        ),
      )

  -- whatever is read is a sum of that value, and spaces
  pub sound : (d : ℕ) (t : List ℕ) (v : ℤ) (u : List ℕ) → sum_read d look t ≡ got v u → (e : Sum) × ((k : ℕ) × (t ≡ sum_text e ++ (spaces k ++ u)) × (sum_value e look d ≡ Some v))
  unfolding SumSound InnerSound
  sound zero = sum-sound zero tt
  sound (suc d) = sum-sound (suc d) (sound d)
