-- What the reader's definitions say of a text from a place on, case by case. Assumes nothing.
use mathlib.Core.Path.{◌≡◌, refl, sym, ap, ◌∙◌}
use mathlib.Core.Bool.{Bool, true, false, cond}
use mathlib.Core.List.{List}
use Prim.Native.Nat.{ℕ, zero, suc, ◌+◌, ◌-◌, ◌*◌, ◌≤◌, ◌<◌}
use native.Mathlib.Numerals.{sub-one}
use native.Mathlib.Omega.{arith}
use lib.IntN.{ℤ}
use lib.Dec.{eqb}
use lib.ListN.{length, drop, length-drop}
use borrow.Author.Tests.{eq-eqb, ne_eqb}
use Rattle.labels.specs.Bytes.{is_space, is_letter, is_part, head_of}
use Rattle.sums.specs.Sums.{add, sub, plus, minus, checked, known, join, dif}
use Rattle.labels.specs.Reading.{tail_of, run_of, past, skip, Passed}
use Rattle.sums.specs.Reader.{Got, got, bad, given, onto, digits_read, number_read, name_read, closed_after, term_by, more_by, sum_read, inner_read, term_read}
use Rattle.std.specs.Prelude.{Option, Option as RustOption, Some, None}
use Rattle.sums.specs.Code.{op_of, op_at, look_in, read_to, Past}
use Rattle.sums.specs.declared.numbers.Op.{Op}
use Rattle.sums.specs.declared.numbers.Op.TheVariants.{Add, Sub}
use Rattle.labels.specs.Table.{index_in, found_by}
use Rattle.labels.proofs.Spans.{inside, tail-drop, past_head}
use Rattle.labels.proofs.Steps.{class-inside}
use Rattle.sums.proofs.Complete.{sum_is, goes}

pub sooner : (s : List ℕ) (at k : ℕ) (r : RustOption (ℤ × ℕ)) → at ≤ k → Past s k r → Past s at r
sooner s at k (Some (v, n)) h p = let a = p.0 in (omega arith, p.1)
sooner s at k None h p = tt

module _ (s : List ℕ) (at : ℕ) where
  pub at_byte : (b : ℕ) → head_of (drop at s) ≡ suc b → at < length s
  at_byte b h = inside s at (λ z. let e = sym h ∙ z in omega arith)

  -- ---- numbers
  pub number-plus : head_of (drop at s) ≡ 43 → number_read (drop at s) ≡ digits_read plus (drop (at + 1) s)
  unfolding number_read
  number-plus h = simp (eq-eqb _ _ h) (ap (digits_read plus) (tail-drop s at))

  pub number-minus : head_of (drop at s) ≡ 45 → number_read (drop at s) ≡ digits_read minus (drop (at + 1) s)
  unfolding number_read
  number-minus h = simp (ne_eqb (head_of (drop at s)) 43 (λ z. omega arith), eq-eqb _ _ h) (ap (digits_read minus) (tail-drop s at))

  pub number-bare : (head_of (drop at s) ≡ 43 → ⊥) → (head_of (drop at s) ≡ 45 → ⊥) → number_read (drop at s) ≡ digits_read plus (drop at s)
  unfolding number_read digits_read
  number-bare p m = simp (ne_eqb _ _ p, ne_eqb _ _ m)

-- ---- labels
pub found_none : (o : Option ℕ) (m : ℕ) → found_by o m ≡ None → o ≡ None
found_none None m e = refl
found_none (Some j) m e = absurd (cc)

pub found_at : (o : Option ℕ) (m i n : ℕ) → found_by o m ≡ Some (i, n) → (o ≡ Some i) × (n ≡ m)
found_at None m i n e = absurd (cc)
found_at (Some j) m i n e = let p : ◌≡◌ {A = ℕ × ℕ} (j, m) (i, n) = cc in (ap (λ (q : ℕ × ℕ). Some q.0) p, sym (ap (λ (q : ℕ × ℕ). q.1) p))

module _ (text table : List ℕ) (base : ℕ) (t : List ℕ) where
  pub name-none : index_in text table (run_of is_part t) ≡ None → name_read (look_in text table base) t ≡ bad
  unfolding name_read look_in known
  name-none h = simp h

  name-some : (i : ℕ) → index_in text table (run_of is_part t) ≡ Some i → name_read (look_in text table base) t ≡ given (checked (dif (4 * i) (4 * base))) (past is_part t)
  unfolding name_read look_in known
  name-some i h = simp h

  pub name-is : (i : ℕ) (o : Option ℤ) → index_in text table (run_of is_part t) ≡ Some i → checked (dif (4 * i) (4 * base)) ≡ o → name_read (look_in text table base) t ≡ given o (past is_part t)
  name-is i o h e = name-some i h ∙ ap (λ (x : Option ℤ). given x (past is_part t)) e

pub name-past : (s : List ℕ) (at n : ℕ) → is_letter (head_of (drop at s)) ≡ true → Passed is_part s at n → (at < n) × (n ≤ length s)
name-past s at n h p =
    let i = class-inside is_letter s at refl h in
    let o = p.on in
    let moved : at ≡ n → ⊥ = λ e.
    let part : is_part (head_of (drop at s)) ≡ true = simp h in
    let q : true ≡ false = sym part ∙ ap (λ (k : ℕ). is_part (head_of (drop k s))) e ∙ ap (λ (t : List ℕ). is_part (head_of t)) p.rest ∙ past_head is_part (drop at s) refl in
    cc in
    (omega arith, p.within (omega arith))

-- ---- a group
module _ (s : List ℕ) (v : ℤ) (n : ℕ) where
  pub shut-yes : head_of (drop n s) ≡ 41 → closed_after v (drop n s) ≡ got v (drop (n + 1) s)
  unfolding closed_after
  shut-yes h = simp (eq-eqb _ _ h) (ap (got v) (tail-drop s n))

  pub shut-no : (head_of (drop n s) ≡ 41 → ⊥) → closed_after v (drop n s) ≡ bad
  unfolding closed_after
  shut-no h = simp (ne_eqb _ _ h)

module _ (s : List ℕ) (at : ℕ) (d : ℕ) (look : List ℕ → Option ℤ) where
  term-open : head_of (drop at s) ≡ 40 → term_read d look (drop at s) ≡ onto closed_after (inner_read d look (skip (drop (at + 1) s)))
  unfolding term_read term_by
  term-open h = simp (eq-eqb _ _ h) (ap (λ (t : List ℕ). onto closed_after (inner_read d look (skip t))) (tail-drop s at))

  pub term-name : is_letter (head_of (drop at s)) ≡ true → (head_of (drop at s) ≡ 40 → ⊥) → term_read d look (drop at s) ≡ name_read look (drop at s)
  unfolding term_read term_by
  term-name h n = simp (ne_eqb _ _ n, h)

  pub term-number : is_letter (head_of (drop at s)) ≡ false → (head_of (drop at s) ≡ 40 → ⊥) → term_read d look (drop at s) ≡ number_read (drop at s)
  unfolding term_read term_by
  term-number h n = simp (ne_eqb _ _ n, h)

  pub term-flat : head_of (drop at s) ≡ 40 → d ≡ 0 → term_read d look (drop at s) ≡ bad
  term-flat h z = term-open h ∙ ap (λ (k : ℕ). onto closed_after (inner_read k look (skip (drop (at + 1) s)))) z

  pub term-deep : (m : ℕ) (r : RustOption (ℤ × ℕ)) → head_of (drop at s) ≡ 40 → (d ≡ 0 → ⊥) → Passed is_space s (at + 1) m → sum_read (d - 1) look (drop m s) ≡ read_to s r → term_read d look (drop at s) ≡ onto closed_after (read_to s r)
  term-deep m r h n p e = term-open h ∙ ap (onto closed_after) (ap (inner_read d look) (sym p.rest) ∙ inner d n (drop m s) ∙ e)
    where
      inner : (d : ℕ) → (d ≡ 0 → ⊥) → (t : List ℕ) → inner_read d look t ≡ sum_read (d - 1) look t
      inner zero n t = absurd (n refl)
      inner (suc d) n t = ap (λ (k : ℕ). sum_read k look t) (sym (sub-one (suc d)))

-- ---- what follows a term
module _ (T : List ℕ → Got) (f : ℕ) (v : ℤ) (s : List ℕ) (n : ℕ) where
  pub more-stop : op_at (head_of (drop n s)) ≡ None → more_by T (suc f) v (drop n s) ≡ got v (drop n s)
  unfolding more_by goes
  more-stop h = go (eqb (head_of (drop n s)) 43) (eqb (head_of (drop n s)) 45) h
    where
      go : (x y : Bool) → cond x (Some Add) (cond y (Some Sub) None) ≡ None → cond x (goes T f add v (T (skip (tail_of (drop n s))))) (cond y (goes T f sub v (T (skip (tail_of (drop n s))))) (got v (drop n s))) ≡ got v (drop n s)
      go true y h = absurd (cc)
      go false true h = absurd (cc)
      go false false h = refl

  pub more-goes : (c : Op) → op_at (head_of (drop n s)) ≡ Some c → (m : ℕ) → Passed is_space s (n + 1) m → more_by T (suc f) v (drop n s) ≡ goes T f (op_of c) v (T (drop m s))
  unfolding more_by goes
  more-goes c e m p = go (eqb (head_of (drop n s)) 43) (eqb (head_of (drop n s)) 45) e
    where
      there : skip (tail_of (drop n s)) ≡ drop m s
      there = ap skip (tail-drop s n) ∙ sym p.rest

      go : (x y : Bool) → cond x (Some Add) (cond y (Some Sub) None) ≡ Some c → cond x (goes T f add v (T (skip (tail_of (drop n s))))) (cond y (goes T f sub v (T (skip (tail_of (drop n s))))) (got v (drop n s))) ≡ goes T f (op_of c) v (T (drop m s))
      go true y h = let k : Add ≡ c = cc in ap (λ (t : List ℕ). goes T f add v (T t)) there ∙ ap (λ (k : Op). goes T f (op_of k) v (T (drop m s))) k
      go false true h = let k : Sub ≡ c = cc in ap (λ (t : List ℕ). goes T f sub v (T t)) there ∙ ap (λ (k : Op). goes T f (op_of k) v (T (drop m s))) k
      go false false h = absurd (cc)

-- one turn of the loop: what is left of the text bounds the turns that are left
module _ (T : List ℕ → Got) (s : List ℕ) (f : ℕ) (v : ℤ) (n : ℕ) (c : Op) (m : ℕ) where
  pub turn-bad : op_at (head_of (drop n s)) ≡ Some c → Passed is_space s (n + 1) m → T (drop m s) ≡ bad → more_by T (suc f) v (drop n s) ≡ bad
  unfolding goes
  turn-bad e p b = more-goes T f v s n c e m p ∙ ap (goes T f (op_of c) v) b

  pub turn-over : (w : ℤ) (u : ℕ) → op_at (head_of (drop n s)) ≡ Some c → Passed is_space s (n + 1) m → T (drop m s) ≡ got w (drop u s) → checked (join (op_of c) v w) ≡ None → more_by T (suc f) v (drop n s) ≡ bad
  unfolding goes
  turn-over w u e p b o = more-goes T f v s n c e m p ∙ ap (goes T f (op_of c) v) b ∙ ap (λ (x : Option ℤ). onto (λ x r. more_by T f x (skip r)) (given x (drop u s))) o

  pub turn_on : (w : ℤ) (u : ℕ) (x : ℤ) (k : ℕ) → op_at (head_of (drop n s)) ≡ Some c → Passed is_space s (n + 1) m → T (drop m s) ≡ got w (drop u s) → checked (join (op_of c) v w) ≡ Some x
      → Passed is_space s u k → more_by T (suc f) v (drop n s) ≡ more_by T f x (drop k s)
  unfolding goes
  turn_on w u x k e p b o q =
      more-goes T f v s n c e m p ∙ ap (goes T f (op_of c) v) b ∙ ap (λ (x : Option ℤ). onto (λ x r. more_by T f x (skip r)) (given x (drop u s))) o
      ∙ ap (more_by T f x) (sym q.rest)

pub again : (T : List ℕ → Got) (s : List ℕ) (f : ℕ) (v : ℤ) (n : ℕ) (x : ℤ) (k : ℕ) (whole : Got) → length s - n ≤ f → n < k → k ≤ length s
    → whole ≡ more_by T (suc f) v (drop n s) → ((f : ℕ) → more_by T (suc f) v (drop n s) ≡ more_by T f x (drop k s))
    → (g : ℕ) × ((length s - k ≤ g) × (whole ≡ more_by T (suc g) x (drop k s)))
again T s zero v n x k whole b l u e t = absurd (omega arith)
again T s (suc f) v n x k whole b l u e t = (f, (omega arith, e ∙ t (suc f)))

module _ (d : ℕ) (look : List ℕ → Option ℤ) (s : List ℕ) (at : ℕ) where
  pub sum-bad : term_read d look (drop at s) ≡ bad → sum_read d look (drop at s) ≡ bad
  sum-bad h = sum_is d look (drop at s) ∙ ap (onto (λ v u. more_by (term_read d look) (suc (length (drop at s))) v (skip u))) h

  pub sum_first : (v : ℤ) (u n : ℕ) → term_read d look (drop at s) ≡ got v (drop u s) → Passed is_space s u n → at ≤ n
      → (f : ℕ) × ((length s - n ≤ f) × (sum_read d look (drop at s) ≡ more_by (term_read d look) (suc f) v (drop n s)))
  sum_first v u n h p l = (
    length (drop at s),
    (
      rw length-drop (omega arith),
      sum_is d look (drop at s) ∙ ap (onto (λ v u. more_by (term_read d look) (suc (length (drop at s))) v (skip u))) h ∙ ap (more_by (term_read d look) (suc (length (drop at s))) v) (sym p.rest),
    ),
  )
