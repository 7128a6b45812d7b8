-- Inner: what a sum is read as, from the text that is left. Sums.antt says what is right.
use Rattle.std.specs.Prelude.{None, Option, Some, ℕ, zero, suc, cond, List, eqb, ℤ, length}
use Rattle.labels.specs.Bytes.{is_digit, is_letter, is_part, decimal, head_of}
use Rattle.labels.specs.Reading.{tail_of, run_of, past, skip}
use Rattle.sums.specs.Sums.{Sign, unsigned, plus, minus, add, sub, checked, known, signed, join}

pub data Got : Type 0 where
  got : ℤ → List ℕ → Got
  bad : Got

abbrev pub given : Option ℤ → List ℕ → Got
given None t = bad
given (Some v) t = got v t

abbrev pub onto : (ℤ → List ℕ → Got) → Got → Got
onto go (got v t) = go v t
onto go bad = bad

unfoldable pub digits_read : Sign → List ℕ → Got
digits_read s t = cond (is_digit (head_of t)) (given (checked (signed s (decimal (run_of is_digit t)))) (past is_digit t)) bad

unfoldable pub number_read : List ℕ → Got
number_read t = cond (eqb (head_of t) 43) (digits_read plus (tail_of t)) (cond (eqb (head_of t) 45) (digits_read minus (tail_of t)) (digits_read unsigned t))

unfoldable pub name_read : (List ℕ → Option ℤ) → List ℕ → Got
name_read look t = given (known (look (run_of is_part t))) (past is_part t)

unfoldable pub closed_after : ℤ → List ℕ → Got
closed_after v t = cond (eqb (head_of t) 41) (got v (tail_of t)) bad

-- a term, where `inner` reads a sum one level down
unfoldable pub term_by : (List ℕ → Got) → (List ℕ → Option ℤ) → List ℕ → Got
term_by inner look t =
    cond (eqb (head_of t) 40) (onto closed_after (inner (skip (tail_of t))))
    (cond (is_letter (head_of t)) (name_read look t) (number_read t))

-- what follows a sum of v: at most `fuel` more terms
unfoldable pub more_by : (List ℕ → Got) → ℕ → ℤ → List ℕ → Got
more_by term zero v t = bad
more_by term (suc f) v t =
    cond (eqb (head_of t) 43) (onto (λ w u. onto (λ x r. more_by term f x (skip r)) (given (checked (join add v w)) u)) (term (skip (tail_of t))))
    (cond (eqb (head_of t) 45) (onto (λ w u. onto (λ x r. more_by term f x (skip r)) (given (checked (join sub v w)) u)) (term (skip (tail_of t))))
    (got v t))

unfoldable pub sum_by : (List ℕ → Got) → List ℕ → Got
sum_by term t = onto (λ v u. more_by term (suc (length t)) v (skip u)) (term t)

unfoldable pub sum_read : ℕ → (List ℕ → Option ℤ) → List ℕ → Got
sum_read zero look t = sum_by (term_by (λ _. bad) look) t
sum_read (suc d) look t = sum_by (term_by (sum_read d look) look) t

abbrev pub inner_read : ℕ → (List ℕ → Option ℤ) → List ℕ → Got
inner_read zero look = λ _. bad
inner_read (suc d) look = sum_read d look

unfoldable pub term_read : ℕ → (List ℕ → Option ℤ) → List ℕ → Got
term_read d look t = term_by (inner_read d look) look t
