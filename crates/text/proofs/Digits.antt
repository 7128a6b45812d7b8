-- A number printed in decimal is read as that number. Assumes nothing.
use mathlib.Core.Path.{◌≡◌, refl, ap, ◌∙◌}
use mathlib.Core.Bool.{Bool, true, false, cond, ◌&&◌}
use mathlib.Core.List.{List, [], ◌∷◌, ◌++◌}
use Prim.Native.Nat.{ℕ, zero, suc, ◌+◌, ◌-◌, ◌*◌, ◌/◌, ◌%◌, ◌^◌, ◌≤◌, ◌<◌}
use native.Mathlib.Nat.{pow-suc}
use native.Mathlib.Omega.{arith}
use lib.Dec.{ltb}
use borrow.Author.Tests.{ltb-true, ltb-false, le-leb}
use Rattle.labels.specs.Bytes.{is_digit, every, is_number, decimal, decimal_from}
use Rattle.printing.specs.Print.{digits_by}

decimal-snoc : (v : ℕ) (ds : List ℕ) (d : ℕ) → decimal_from v (ds ++ (d ∷ [])) ≡ decimal_from v ds * 10 + (d - 48)
unfolding decimal_from
decimal-snoc v [] d = refl
decimal-snoc v (x ∷ ds) d = decimal-snoc (v * 10 + (x - 48)) ds d

digit-is : (n : ℕ) → n < 10 → is_digit (48 + n) ≡ true
digit-is n h = simp (le-leb 48 (48 + n) (omega arith), le-leb (48 + n) 57 (omega arith))

every-snoc : (ds : List ℕ) (d : ℕ) → every is_digit ds ≡ true → is_digit d ≡ true → every is_digit (ds ++ (d ∷ [])) ≡ true
unfolding every
every-snoc [] d h e = simp e
every-snoc (x ∷ ds) d h e = go (is_digit x) (λ k. every-snoc ds d k e) h
  where
    go : (c : Bool) → (every is_digit ds ≡ true → every is_digit (ds ++ (d ∷ [])) ≡ true) → c && every is_digit ds ≡ true → c && every is_digit (ds ++ (d ∷ [])) ≡ true
    go true ih h = ih h
    go false ih h = h

pub record Written (n : ℕ) (ds : List ℕ) : Type 0 where
  pub value : decimal ds ≡ n
  pub digits : every is_digit ds ≡ true
  pub some : is_number ds ≡ true

number_is : (ds : List ℕ) (d : ℕ) → every is_digit (ds ++ (d ∷ [])) ≡ true → is_number (ds ++ (d ∷ [])) ≡ true
unfolding is_number
number_is [] d h = h
number_is (x ∷ ds) d h = h

one-digit : (n : ℕ) → n < 10 → Written n ((48 + n) ∷ [])
unfolding decimal_from every is_number
one-digit n h = record { value = omega arith; digits = simp (digit-is n h); some = simp (digit-is n h) }

more-digits : (n : ℕ) (ds : List ℕ) → Written (n / 10) ds → Written n (ds ++ ((48 + n % 10) ∷ []))
more-digits n ds w =
    let d = digit-is (n % 10) (omega arith) in
    let e = every-snoc ds (48 + n % 10) w.digits d in
    record {
      value = decimal-snoc 0 ds (48 + n % 10) ∙ ap (λ (v : ℕ). v * 10 + (48 + n % 10 - 48)) w.value ∙ omega arith;
      digits = e;
      some = number_is ds (48 + n % 10) e;
    }

pub written : (f n : ℕ) → n < 10 ^ f → 0 < f → Written n (digits_by f n)
unfolding digits_by
written zero n h p = absurd (omega arith)
written (suc f) n h p = go (ltb n 10) refl (written f (n / 10))
  where
    go : (c : Bool) → ltb n 10 ≡ c → (n / 10 < 10 ^ f → 0 < f → Written (n / 10) (digits_by f (n / 10))) → Written n (cond c ((48 + n) ∷ []) (digits_by f (n / 10) ++ ((48 + n % 10) ∷ [])))
    go true e ih = one-digit n (ltb-true n 10 e)
    go false e ih =
        let l = ltb-false n 10 e in
        let b : n < 10 ^ f * 10 = rw pow-suc at h in
        more-digits n (digits_by f (n / 10)) (ih (omega arith) (positive f b l))
      where
        positive : (f : ℕ) → n < 10 ^ f * 10 → 10 ≤ n → 0 < f
        positive zero b l = absurd (omega arith)
        positive (suc f) b l = omega arith
