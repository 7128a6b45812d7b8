-- Whatever spells a sum is read as its value: the reader takes the whole language, and each text has one value. Assumes nothing.
use Rattle.std.specs.Prelude.{None, Option, Some}
use Rattle.std.proofs.lemmas.Bool.{and_parts, or_parts}
use mathlib.Core.Path.{◌≡◌, refl, ap, ◌∙◌, subst}
use mathlib.Core.Bool.{true, false}
use mathlib.Core.List.{List, [], ◌∷◌, ◌++◌, append_assoc}
use Prim.Native.Nat.{ℕ, zero, suc, ◌+◌, ◌<◌}
use native.Mathlib.Omega.{arith}
use lib.IntN.{ℤ}
use lib.Dec.{eqb}
use lib.ListN.{length, length-append}
use borrow.Author.Tests.{ne_eqb}
use Rattle.labels.specs.Bytes.{is_space, is_digit, is_letter, is_part, every, is_name, is_number, decimal, spaces, head_of}
use Rattle.sums.specs.Sums.{Sign, unsigned, plus, minus, Op, add, sub, Term, Rest, number, label, group, done, then, sign_text, op_text, term_text, rest_text, Sum, sum_text, checked, known, signed, join, both, term_value, rest_value, sum_value}
use Rattle.labels.specs.Reading.{tail_of, run_of, past, skip}
use Rattle.sums.specs.Reader.{Got, given, onto, digits_read, number_read, name_read, closed_after, term_by, more_by, sum_by, sum_read, inner_read, term_read}
use Rattle.labels.proofs.Spans.{past_stop, past-append, run-append, skip-spaces}
use Rattle.labels.proofs.Classes.{digit_low, digit-high, digit-no-letter, letter-low, or-true}

-- ---- a term
module _ (look : List ℕ → Option ℤ) (d : ℕ) where
  digits-law : (s : Sign) (ds t : List ℕ) → is_number ds ≡ true → is_part (head_of t) ≡ false → digits_read s (ds ++ t) ≡ given (checked (signed s (decimal ds))) t
  unfolding digits_read is_number every
  digits-law s [] t h e = absurd (cc)
  digits-law s (b ∷ ds) t h e =
      let first = (and_parts (is_digit b) (every is_digit ds) h).0 in
      let stop = (or_parts (is_letter (head_of t)) (is_digit (head_of t)) e).1 in
      let ends : past is_digit ((b ∷ ds) ++ t) ≡ t = past-append is_digit (b ∷ ds) t h ∙ past_stop is_digit t stop in
      let runs : run_of is_digit ((b ∷ ds) ++ t) ≡ b ∷ ds = run-append is_digit (b ∷ ds) t h stop in
      let starts : is_digit (head_of ((b ∷ ds) ++ t)) ≡ true = unfold head_of in first in
      rw (starts, digits_read) (rw (runs, ends))

  -- a text that starts with a digit is a number with no sign
  plain-law : (b : ℕ) (t : List ℕ) → is_digit b ≡ true → term_read d look (b ∷ t) ≡ digits_read unsigned (b ∷ t)
  unfolding term_read term_by number_read head_of
  plain-law b t h =
      let l = digit_low b h in
      let u = digit-high b h in
      simp (ne_eqb b 40 (λ z. omega arith), digit-no-letter b h, ne_eqb b 43 (λ z. omega arith), ne_eqb b 45 (λ z. omega arith))

  number-law : (s : Sign) (ds : List ℕ) (h : is_number ds ≡ true) (t : List ℕ) → is_part (head_of t) ≡ false → term_read d look (sign_text s ++ ds ++ t) ≡ given (checked (signed s (decimal ds))) t
  unfolding term_read term_by number_read head_of tail_of is_number every
  number-law unsigned [] h t e = absurd (cc)
  number-law unsigned (b ∷ ds) h t e = plain-law b (ds ++ t) (and_parts (is_digit b) (every is_digit ds) h).0 ∙ digits-law unsigned (b ∷ ds) t h e
  number-law plus ds h t e = digits-law plus ds t h e
  number-law minus ds h t e = digits-law minus ds t h e

  pub parts : (b : ℕ) (name : List ℕ) → is_name (b ∷ name) ≡ true → every is_part (b ∷ name) ≡ true
  unfolding is_name every
  parts b name h =
      let k = and_parts (is_letter b) (every is_part name) h in
      rw (or-true (is_letter b) (is_digit b) k.0) k.1

  label-law : (name : List ℕ) (h : is_name name ≡ true) (t : List ℕ) → is_part (head_of t) ≡ false → term_read d look (name ++ t) ≡ given (known (look name)) t
  unfolding term_read term_by name_read is_name
  label-law [] h t e = absurd (cc)
  label-law (b ∷ name) h t e =
      let first = (and_parts (is_letter b) (every is_part name) h).0 in
      let l = letter-low b first in
      let are = parts b name h in
      let ends : past is_part ((b ∷ name) ++ t) ≡ t = past-append is_part (b ∷ name) t are ∙ past_stop is_part t e in
      let runs : run_of is_part ((b ∷ name) ++ t) ≡ b ∷ name = run-append is_part (b ∷ name) t are e in
      let starts : is_letter (head_of ((b ∷ name) ++ t)) ≡ true = unfold head_of in first in
      let shuts : eqb (head_of ((b ∷ name) ++ t)) 40 ≡ false = unfold head_of in (ne_eqb b 40 (λ z. omega arith)) in
      rw (shuts, term_by) (rw (starts, term_by) (rw (runs, ends)))

-- the first byte of a term is no space
pub term-head : (e : Term) (t : List ℕ) → is_space (head_of (term_text e ++ t)) ≡ false
unfolding term_text head_of is_number is_name every
term-head (number unsigned [] h) t = absurd (cc)
term-head (number unsigned (b ∷ ds) h) t = let l = digit_low b (and_parts (is_digit b) (every is_digit ds) h).0 in ne_eqb b 32 (λ z. omega arith)
term-head (number plus ds h) t = refl
term-head (number minus ds h) t = refl
term-head (label [] h) t = absurd (cc)
term-head (label (b ∷ name) h) t = let l = letter-low b (and_parts (is_letter b) (every is_part name) h).0 in ne_eqb b 32 (λ z. omega arith)
term-head (group g e r k) t = refl

pub skip-term : (e : Term) (t : List ℕ) → skip (term_text e ++ t) ≡ term_text e ++ t
skip-term e t = past_stop is_space (term_text e ++ t) (term-head e t)

-- a text at which a sum may end: no name, number or sum goes on there
pub record Ends (t : List ℕ) : Type 0 where
  pub apart : is_part (head_of t) ≡ false
  pub no_plus : eqb (head_of (skip t)) 43 ≡ false
  pub no_minus : eqb (head_of (skip t)) 45 ≡ false

pub space-apart : (n : ℕ) (t : List ℕ) → is_part (head_of t) ≡ false → is_part (head_of (spaces n ++ t)) ≡ false
unfolding head_of
space-apart zero t h = h
space-apart (suc n) t h = refl

op-apart : (op : Op) (t : List ℕ) → is_part (head_of (op_text op ∷ t)) ≡ false
unfolding head_of
op-apart add t = refl
op-apart sub t = refl

rest-apart : (r : Rest) (t : List ℕ) → is_part (head_of t) ≡ false → is_part (head_of (rest_text r ++ t)) ≡ false
unfolding rest_text
rest-apart done t h = h
rest-apart (then g op k e r) t h = rw append_assoc (space-apart g _ (op-apart op _))

rest-none : (r : Rest) (look : List ℕ → Option ℤ) (d : ℕ) → rest_value r look d None ≡ None
unfolding rest_value both
rest-none done look d = refl
rest-none (then g op k e r) look d = rest-none r look d

-- ---- what follows a term, and a group, one step each
TermLaw : Term → Type 0
TermLaw e = (look : List ℕ → Option ℤ) (d : ℕ) (t : List ℕ) → is_part (head_of t) ≡ false → term_read d look (term_text e ++ t) ≡ given (term_value e look d) t

RestLaw : Rest → Type 0
RestLaw r = (look : List ℕ → Option ℤ) (d : ℕ) (t : List ℕ) → Ends t → (f : ℕ) (v : ℤ) → length (rest_text r ++ t) < f
    → more_by (term_read d look) f v (skip (rest_text r ++ t)) ≡ given (rest_value r look d (Some v)) (skip t)

unfoldable pub goes : (List ℕ → Got) → ℕ → Op → ℤ → Got → Got
goes term f op v w = onto (λ w u. onto (λ x r. more_by term f x (skip r)) (given (checked (join op v w)) u)) w

pub more-op : (term : List ℕ → Got) (f : ℕ) (op : Op) (v : ℤ) (t : List ℕ) → more_by term (suc f) v (op_text op ∷ t) ≡ goes term f op v (term (skip t))
unfolding more_by head_of tail_of goes
more-op term f add v t = refl
more-op term f sub v t = refl

skip-op : (op : Op) (t : List ℕ) → skip (op_text op ∷ t) ≡ op_text op ∷ t
unfolding past
skip-op add t = refl
skip-op sub t = refl

module _ (look : List ℕ → Option ℤ) (d : ℕ) (r : Rest) (t : List ℕ) (f : ℕ)
    (R : (x : ℤ) → more_by (term_read d look) f x (skip (rest_text r ++ t)) ≡ given (rest_value r look d (Some x)) (skip t)) where
  goes_on : (o : Option ℤ) → onto (λ x u. more_by (term_read d look) f x (skip u)) (given o (rest_text r ++ t)) ≡ given (rest_value r look d o) (skip t)
  goes_on None = rw rest-none
  goes_on (Some x) = R x

  goes-law : (op : Op) (v : ℤ) (o : Option ℤ) → goes (term_read d look) f op v (given o (rest_text r ++ t)) ≡ given (rest_value r look d (both op (Some v) o)) (skip t)
  unfolding goes both
  goes-law op v None = rw rest-none
  goes-law op v (Some w) = goes_on (checked (join op v w))

then-law : (g : ℕ) (op : Op) (k : ℕ) (e : Term) (r : Rest) → TermLaw e → RestLaw r → RestLaw (then g op k e r)
unfolding RestLaw TermLaw rest_text rest_value
then-law g op k e r T R look d t ends zero v fuel = absurd (omega arith)
then-law g op k e r T R look d t ends (suc f) v fuel =
    let X : List ℕ = rest_text r ++ t in
    let W : List ℕ = spaces k ++ (term_text e ++ X) in
    let whole : rest_text (then g op k e r) ++ t ≡ spaces g ++ (op_text op ∷ W) = simp append_assoc in
    let starts : skip (rest_text (then g op k e r) ++ t) ≡ op_text op ∷ W = ap skip whole ∙ skip-spaces g (op_text op ∷ W) ∙ skip-op op W in
    let reads : term_read d look (skip W) ≡ given (term_value e look d) X =
    ap (term_read d look) (skip-spaces k (term_text e ++ X) ∙ skip-term e X) ∙ T look d X (rest-apart r t ends.apart) in
    let size : length (spaces g) + suc (length (spaces k) + (length (term_text e) + (length (rest_text r) + length t))) < suc f = simp length-append at (subst (λ (l : List ℕ). length l < suc f) whole fuel) in
    let more : (x : ℤ) → more_by (term_read d look) f x (skip X) ≡ given (rest_value r look d (Some x)) (skip t) = λ x. R look d t ends f x (omega (arith, length-append (rest_text r) t)) in
    ap (more_by (term_read d look) (suc f) v) starts
    ∙ more-op (term_read d look) f op v W
    ∙ ap (goes (term_read d look) f op v) reads
    ∙ goes-law look d r t f more op v (term_value e look d)

pub sum_is : (d : ℕ) (look : List ℕ → Option ℤ) (t : List ℕ) → sum_read d look t ≡ onto (λ v u. more_by (term_read d look) (suc (length t)) v (skip u)) (term_read d look t)
unfolding sum_read sum_by term_read
sum_is zero look t = refl
sum_is (suc d) look t = refl

-- a sum, of its term and of what follows
sum-law : (e : Term) (r : Rest) → TermLaw e → RestLaw r → (look : List ℕ → Option ℤ) (d : ℕ) (t : List ℕ) → Ends t
    → sum_read d look (term_text e ++ (rest_text r ++ t)) ≡ given (rest_value r look d (term_value e look d)) (skip t)
unfolding RestLaw TermLaw
sum-law e r T R look d t ends =
    let X : List ℕ = rest_text r ++ t in
    let n : ℕ = length (term_text e ++ X) in
    let more : (x : ℤ) → more_by (term_read d look) (suc n) x (skip X) ≡ given (rest_value r look d (Some x)) (skip t) = λ x. R look d t ends (suc n) x (omega (arith, length-append (term_text e) X)) in
    sum_is d look (term_text e ++ X)
    ∙ ap (onto (λ v u. more_by (term_read d look) (suc n) v (skip u))) (T look d X (rest-apart r t ends.apart))
    ∙ goes_on look d r t (suc n) more (term_value e look d)

ends-shut : (k : ℕ) (t : List ℕ) → Ends (spaces k ++ (41 ∷ t))
unfolding head_of past
ends-shut k t = record { apart = space-apart k (41 ∷ t) refl; no_plus = rw skip-spaces refl; no_minus = rw skip-spaces refl }

shut-law : (o : Option ℤ) (t : List ℕ) → onto closed_after (given o (41 ∷ t)) ≡ given o t
unfolding closed_after head_of tail_of
shut-law None t = refl
shut-law (Some v) t = refl

open-law : (d : ℕ) (look : List ℕ → Option ℤ) (t : List ℕ) → term_read d look (40 ∷ t) ≡ onto closed_after (inner_read d look (skip t))
unfolding term_read term_by head_of tail_of
open-law d look t = refl

group-law : (g : ℕ) (e : Term) (r : Rest) (k : ℕ) → TermLaw e → RestLaw r → TermLaw (group g e r k)
unfolding TermLaw term_text term_value
group-law g e r k T R look d t h =
    let Y : List ℕ = spaces k ++ (41 ∷ t) in
    let X : List ℕ = term_text e ++ (rest_text r ++ Y) in
    let whole : term_text (group g e r k) ++ t ≡ 40 ∷ (spaces g ++ X) = simp append_assoc in
    let to : skip (spaces g ++ X) ≡ X = skip-spaces g X ∙ skip-term e (rest_text r ++ Y) in
    let last : skip Y ≡ 41 ∷ t = unfold past in skip-spaces k (41 ∷ t) in
    ap (term_read d look) whole ∙ open-law d look (spaces g ++ X) ∙ ap (λ (u : List ℕ). onto closed_after (inner_read d look u)) to ∙ deep d last
  where
    deep : (d : ℕ) → skip (spaces k ++ (41 ∷ t)) ≡ 41 ∷ t → onto closed_after (inner_read d look (term_text e ++ (rest_text r ++ (spaces k ++ (41 ∷ t))))) ≡ given (term_value (group g e r k) look d) t
    deep zero last = refl
    deep (suc d) last =
        ap (onto closed_after) (sum-law e r T R look d (spaces k ++ (41 ∷ t)) (ends-shut k t) ∙ ap (given (rest_value r look d (term_value e look d))) last)
        ∙ shut-law (rest_value r look d (term_value e look d)) t

done-law : RestLaw done
unfolding RestLaw rest_text rest_value more_by
done-law look d t ends zero v fuel = absurd (omega arith)
done-law look d t ends (suc f) v fuel = simp (ends.no_plus, ends.no_minus)

mutual
  unfolding TermLaw term_text term_value

  term-law : (e : Term) → TermLaw e
  term-law (number s ds h) = λ look d t apart. number-law look d s ds h t apart
  term-law (label name h) = λ look d t apart. label-law look d name h t apart
  term-law (group g e r k) = group-law g e r k (term-law e) (rest-law r)

  rest-law : (r : Rest) → RestLaw r
  rest-law done = done-law
  rest-law (then g op k e r) = then-law g op k e r (term-law e) (rest-law r)

-- every sum, before a text at which it may end, is read as its value
pub complete : (e : Sum) (look : List ℕ → Option ℤ) (d : ℕ) (t : List ℕ) → Ends t → sum_read d look (sum_text e ++ t) ≡ given (sum_value e look d) (skip t)
complete e look d t ends = rw append_assoc (sum-law e.first e.rest (term-law e.first) (rest-law e.rest) look d t ends)
