-- Digits that are counted one by one. Assumes nothing.
use mathlib.Core.Path.{◌≡◌, refl, sym, ap, ◌∙◌}
use mathlib.Core.Bool.{Bool, true, false, cond}
use mathlib.Core.List.{List, [], ◌∷◌}
use Prim.Native.Nat.{ℕ, ◌+◌, ◌-◌, ◌*◌, ◌^◌, ◌≤◌, ◌<◌}
use native.Mathlib.Omega.{arith}
use lib.ListN.{length, drop}
use lib.IntN.{ℤ, pos, neg_ℤ}
use Rattle.std.proofs.lemmas.Int.{ints}
use Rattle.labels.specs.Bytes.{is_digit, decimal, decimal_from, head_of}
use Rattle.sums.specs.Sums.{checked, signed}
use Rattle.labels.specs.Reading.{run_of, past}
use Rattle.sums.specs.Reader.{got, bad, given, digits_read}
use Rattle.std.specs.Prelude.{Option, Option as RustOption, Some, None}
use Rattle.sums.specs.Code.{sign_of, value_read}
use Rattle.labels.proofs.Spans.{tail-drop, past_stop, run-stop, run_on}
use Rattle.sums.proofs.Differences.{not-fitting}
use Rattle.labels.proofs.Steps.{Going, starts, goes_on, class-inside}

pub record Counting (s : List ℕ) (at v n : ℕ) : Type 0 where
  pub going : Going is_digit s at n
  pub value : decimal (run_of is_digit (drop at s)) ≡ decimal_from v (run_of is_digit (drop n s))

pub counts : (s : List ℕ) (n : ℕ) → Counting s n 0 n
counts s n = record { going = starts is_digit s n; value = refl }

module _ (s : List ℕ) (at v n : ℕ) (g : Counting s at v n) where
  next : is_digit (head_of (drop n s)) ≡ true → decimal_from v (run_of is_digit (drop n s)) ≡ decimal_from (v * 10 + (head_of (drop n s) - 48)) (run_of is_digit (drop (n + 1) s))
  unfolding decimal_from
  next h = ap (decimal_from v) (run_on is_digit (drop n s) refl h) ∙ ap (λ (t : List ℕ). decimal_from (v * 10 + (head_of (drop n s) - 48)) (run_of is_digit t)) (tail-drop s n)

  pub counts-on : is_digit (head_of (drop n s)) ≡ true → Counting s at (v * 10 + (head_of (drop n s) - 48)) (n + 1)
  counts-on h = record { going = goes_on is_digit s at n g.going refl h; value = g.value ∙ next h }

  pub counted : is_digit (head_of (drop n s)) ≡ false → decimal (run_of is_digit (drop at s)) ≡ v
  unfolding decimal_from
  counted h = g.value ∙ ap (decimal_from v) (run-stop is_digit (drop n s) h)

  moved : is_digit (head_of (drop at s)) ≡ true → is_digit (head_of (drop n s)) ≡ false → at ≡ n → ⊥
  moved a h e = let q : true ≡ false = sym a ∙ ap (λ (k : ℕ). is_digit (head_of (drop k s))) e ∙ h in cc

  module _ (a : is_digit (head_of (drop at s)) ≡ true) (h : is_digit (head_of (drop n s)) ≡ false) (negative : Bool) (r : RustOption ℤ) (e : checked (signed (sign_of negative) v) ≡ value_read r) where
    digits-are : digits_read (sign_of negative) (drop at s) ≡ given (value_read r) (drop n s)
    unfolding digits_read
    digits-are =
        ap (λ (c : Bool). cond c (given (checked (signed (sign_of negative) (decimal (run_of is_digit (drop at s))))) (past is_digit (drop at s))) bad) a
        ∙ ap (λ (m : ℕ). given (checked (signed (sign_of negative) m)) (past is_digit (drop at s))) (counted h)
        ∙ ap (λ (o : Option _). given o (past is_digit (drop at s))) e
        ∙ ap (given (value_read r)) (g.going.from ∙ past_stop is_digit (drop n s) h)

    pub digits-large : r ≡ None → digits_read (sign_of negative) (drop at s) ≡ bad
    digits-large q = digits-are ∙ ap (λ (r : RustOption ℤ). given (value_read r) (drop n s)) q

    pub digits-end : (x : ℤ) → r ≡ Some x → (digits_read (sign_of negative) (drop at s) ≡ got x (drop n s)) × ((at < n) × (n ≤ length s))
    digits-end x q =
        let i = class-inside is_digit s at refl a in
        let m = moved a h in
        let o = g.going.on in
        (digits-are ∙ ap (λ (r : RustOption ℤ). given (value_read r) (drop n s)) q, (omega arith, g.going.within (omega arith)))

  grows : (v : ℕ) (ds : List ℕ) → v ≤ decimal_from v ds
  unfolding decimal_from
  grows v [] = omega arith
  grows v (d ∷ ds) = let i = grows (v * 10 + (d - 48)) ds in omega arith

  too_many : (negative : Bool) (m : ℕ) → 2 ^ 63 < m → checked (signed (sign_of negative) m) ≡ None
  too_many true m h = not-fitting (neg_ℤ (pos m)) (λ f. omega (arith, ints))
  too_many false m h = not-fitting (pos m) (λ f. omega (arith, ints))

  pub digits-over : (negative : Bool) → is_digit (head_of (drop at s)) ≡ true → is_digit (head_of (drop n s)) ≡ true → 922337203685477580 < v → digits_read (sign_of negative) (drop at s) ≡ bad
  unfolding digits_read
  digits-over negative a h o =
      let l = grows (v * 10 + (head_of (drop n s) - 48)) (run_of is_digit (drop (n + 1) s)) in
      let e : decimal (run_of is_digit (drop at s)) ≡ decimal_from (v * 10 + (head_of (drop n s) - 48)) (run_of is_digit (drop (n + 1) s)) = g.value ∙ next h in
      ap (λ (c : Bool). cond c (given (checked (signed (sign_of negative) (decimal (run_of is_digit (drop at s))))) (past is_digit (drop at s))) bad) a
      ∙ ap (λ (o : Option _). given o (past is_digit (drop at s))) (too_many negative (decimal (run_of is_digit (drop at s))) (omega arith))

pub digits-none : (negative : Bool) (t : List ℕ) → is_digit (head_of t) ≡ false → digits_read (sign_of negative) t ≡ bad
unfolding digits_read
digits-none negative t h = ap (λ (c : Bool). cond c (given (checked (signed (sign_of negative) (decimal (run_of is_digit t)))) (past is_digit t)) bad) h
