-- The digits of a number below 2^64, from the last to the first.
use Prim.Native.Nat.{ℕ, zero, suc, ◌+◌, ◌-◌, ◌*◌, ◌/◌, ◌%◌, ◌^◌, ◌≤◌, ◌<◌}
use mathlib.Core.Bool.{Bool, true, false, cond}
use mathlib.Core.List.{[], ◌∷◌, ◌++◌}
use mathlib.Core.Path.{◌≡◌, refl}
use native.Mathlib.Nat.{pow-suc}
use native.Mathlib.Omega.{arith}
use borrow.Author.Tests.{lt-ltb, le-ltb, ltb-true}
use lib.Dec.{ltb}
use lib.ListN.{length, length-append}
use Rattle.printing.specs.Passes.{places}
use Rattle.printing.specs.Print.{digits_by, number_text}

-- a digit more is not used
unused : (f n : ℕ) → n < 10 ^ suc f → digits_by (suc (suc f)) n ≡ digits_by (suc f) n
unfolding digits_by
unused zero n h = rw (lt-ltb n 10 h)
unused (suc f) n h =
    let small : n < 10 ^ suc f * 10 = rw pow-suc at h in
    rw (unused f (n / 10) (omega arith))

pub one-digit : (f n : ℕ) → n < 10 → digits_by (suc f) n ≡ (48 + n) ∷ []
unfolding digits_by
one-digit f n h = rw (lt-ltb n 10 h)

last-digit : (f n : ℕ) → 10 ≤ n → digits_by (suc f) n ≡ digits_by f (n / 10) ++ ((48 + n % 10) ∷ [])
unfolding digits_by
last-digit f n h = rw (le-ltb n 10 h)

pub more-digits : (n : ℕ) → 10 ≤ n → n < 2 ^ 64 → digits_by 20 n ≡ digits_by 20 (n / 10) ++ ((48 + n % 10) ∷ [])
more-digits n h small = rw (unused 18 (n / 10) (omega arith)) (last-digit 19 n h)

pub length_more : (n : ℕ) → 10 ≤ n → n < 2 ^ 64 → length (digits_by 20 n) ≡ length (digits_by 20 (n / 10)) + 1
length_more n h small = rw (more-digits n h small) (length-append (digits_by 20 (n / 10)) ((48 + n % 10) ∷ []))

pub length_most : (f n : ℕ) → length (digits_by f n) ≤ f
unfolding digits_by
length_most zero n = omega arith
length_most (suc f) n = go (ltb n 10) (length_most f (n / 10))
  where
    go : (c : Bool) → length (digits_by f (n / 10)) ≤ f → length (cond c ((48 + n) ∷ []) (digits_by f (n / 10) ++ ((48 + n % 10) ∷ []))) ≤ suc f
    go true h = omega arith
    go false h = simp length-append (omega arith)

-- the digits are the number's places
pub digits-places : (f n : ℕ) → places 10 48 (length (digits_by f n)) n ≡ digits_by f n
unfolding digits_by places
digits-places zero n = refl
digits-places (suc f) n = go (ltb n 10) refl (digits-places f (n / 10))
  where
    go : (c : Bool) → ltb n 10 ≡ c → places 10 48 (length (digits_by f (n / 10))) (n / 10) ≡ digits_by f (n / 10)
        → places 10 48 (length (cond c ((48 + n) ∷ []) (digits_by f (n / 10) ++ ((48 + n % 10) ∷ [])))) n ≡ cond c ((48 + n) ∷ []) (digits_by f (n / 10) ++ ((48 + n % 10) ∷ []))
    go true is h = let low : n % 10 ≡ n = omega (arith, ltb-true n 10 is) in rw low
    go false is h =
        let more : length (digits_by f (n / 10) ++ ((48 + n % 10) ∷ [])) ≡ suc (length (digits_by f (n / 10))) = simp length-append (omega arith) in
        rw (more, h)

-- with a sign
pub not_negative : (n : ℕ) → n < 2 ^ 63 → number_text n ≡ digits_by 20 n
unfolding number_text
not_negative n h = rw (lt-ltb n (2 ^ 63) h)

pub negative : (n : ℕ) → 2 ^ 63 ≤ n → number_text n ≡ 45 ∷ digits_by 20 (2 ^ 64 - n)
unfolding number_text
negative n h = rw (le-ltb n (2 ^ 63) h)
