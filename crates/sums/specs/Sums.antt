-- "An immediate or offset may be a sum or difference of signed decimal numbers and labels, with parentheses nested at most
-- sixteen deep": what can be written, as trees that hold every space; the text of a tree; its value.
use Rattle.std.specs.Prelude.{None, Option, Some, ℕ, zero, suc, ◌*◌, ◌^◌, Bool, true, cond, List, [], ◌∷◌, ◌++◌, ◌≡◌, ltb, ℤ, pos, negsuc, neg_ℤ, ◌+ℤ◌, ◌-ℤ◌}
use Rattle.labels.specs.Bytes.{is_name, is_number, decimal, spaces}

pub data Sign : Type 0 where
  unsigned plus minus : Sign

pub data Op : Type 0 where
  add sub : Op

-- term = number | label | "(" sum ")"; a sum is a term and what follows it, {("+" | "-") term}. A number of type ℕ counts spaces
mutual
  pub data Term : Type 0 where
    number : Sign → (ds : List ℕ) → is_number ds ≡ true → Term
    label : (name : List ℕ) → is_name name ≡ true → Term
    group : ℕ → Term → Rest → ℕ → Term

  pub data Rest : Type 0 where
    done : Rest
    then : ℕ → Op → ℕ → Term → Rest → Rest

pub record Sum : Type 0 where
  pub first : Term
  pub rest : Rest

abbrev pub sign_text : Sign → List ℕ
sign_text unsigned = []
sign_text plus = 43 ∷ []
sign_text minus = 45 ∷ []

abbrev pub op_text : Op → ℕ
op_text add = 43
op_text sub = 45

unfoldable mutual
  pub term_text : Term → List ℕ
  term_text (number s ds h) = sign_text s ++ ds
  term_text (label name h) = name
  term_text (group g t r k) = 40 ∷ (spaces g ++ (term_text t ++ (rest_text r ++ (spaces k ++ (41 ∷ [])))))

  pub rest_text : Rest → List ℕ
  rest_text done = []
  rest_text (then g op k t r) = spaces g ++ (op_text op ∷ (spaces k ++ (term_text t ++ rest_text r)))

abbrev pub sum_text : Sum → List ℕ
sum_text e = term_text e.first ++ rest_text e.rest

-- the difference of two numbers
unfoldable pub dif : ℕ → ℕ → ℤ
dif a b = pos a -ℤ pos b

-- "A label means its byte address": where an instruction stands i instructions from the start, counted from the one at base
abbrev pub distance : ℕ → Option ℕ → Option ℤ
distance base None = None
distance base (Some i) = Some (dif (4 * i) (4 * base))

-- "Every intermediate sum fits a signed 64-bit number"
abbrev pub fits64 : ℤ → Bool
fits64 (pos n) = ltb n (2 ^ 63)
fits64 (negsuc n) = ltb n (2 ^ 63)

unfoldable pub checked : ℤ → Option ℤ
checked z = cond (fits64 z) (Some z) None

unfoldable pub known : Option ℤ → Option ℤ
known None = None
known (Some z) = checked z

abbrev pub signed : Sign → ℕ → ℤ
signed unsigned n = pos n
signed plus n = pos n
signed minus n = neg_ℤ (pos n)

abbrev pub join : Op → ℤ → ℤ → ℤ
join add v w = v +ℤ w
join sub v w = v -ℤ w

unfoldable pub both : Op → Option ℤ → Option ℤ → Option ℤ
both op None w = None
both op (Some v) None = None
both op (Some v) (Some w) = checked (join op v w)

-- left to right, where `look` gives the labels' values, and parentheses nest at most d deep
unfoldable mutual
  pub term_value : Term → (List ℕ → Option ℤ) → ℕ → Option ℤ
  term_value (number s ds h) look d = checked (signed s (decimal ds))
  term_value (label name h) look d = known (look name)
  term_value (group g t r k) look zero = None
  term_value (group g t r k) look (suc d) = rest_value r look d (term_value t look d)

  pub rest_value : Rest → (List ℕ → Option ℤ) → ℕ → Option ℤ → Option ℤ
  rest_value done look d v = v
  rest_value (then g op k t r) look d v = rest_value r look d (both op v (term_value t look d))

abbrev pub sum_value : Sum → (List ℕ → Option ℤ) → ℕ → Option ℤ
sum_value e look d = rest_value e.rest look d (term_value e.first look d)
