-- Pieces of text put one after another.
use Prim.Native.Nat.{ℕ, zero, suc, ◌+◌, ◌/◌, ◌%◌}
use mathlib.Core.List.{List, [], ◌∷◌, ◌++◌}
use mathlib.Core.Path.{◌≡◌, refl, ap, ◌∙◌, sym}
use native.Mathlib.Omega.{arith}
use lib.ListN.{length, set, length-append}
use lib.Seq.{sets, set_comm}
use Rattle.printing.specs.Passes.{places, Put}

sets-next : (l : List ℕ) (at next : ℕ) (xs ys : List ℕ) → at + length xs ≡ next → sets (sets l at xs) next ys ≡ sets l at (xs ++ ys)
sets-next l at next [] ys e = let same : next ≡ at = omega arith in rw same
sets-next l at next (x ∷ xs) ys e = sets-next (set l at x) (suc at) next xs ys (omega arith)

-- the last byte of a piece, put first
pub sets_last : (l : List ℕ) (at : ℕ) (xs : List ℕ) (y : ℕ) → sets (set l (at + length xs) y) at xs ≡ sets l at (xs ++ (y ∷ []))
sets_last l at [] y = let here : at + 0 ≡ at = omega arith in rw here
sets_last l at (x ∷ xs) y =
    let there : at + suc (length xs) ≡ suc at + length xs = omega arith in
    rw (set_comm l (at + suc (length xs)) at y x (omega arith), there) (sets_last (set l at x) (suc at) xs y)

pub both : {old mid new : List ℕ} {at place end : ℕ} {xs ys : List ℕ} → Put old mid at place xs → Put mid new place end ys → Put old new at end (xs ++ ys)
both {old} {mid} {new} {at} {place} {end} {xs} {ys} p q =
    record {
      stop = simp length-append (omega arith);
      left = q.left ∙ ap (λ (l : List ℕ). sets l place ys) p.left ∙ sets-next old at place xs ys (sym p.stop);
    }

pub no_byte : (l : List ℕ) (at : ℕ) → Put l l at at []
no_byte l at = record { stop = omega arith; left = refl }

-- a piece that is a number's places
module _ (base first : ℕ) where
  pub length-places : (n number : ℕ) → length (places base first n number) ≡ n
  unfolding places
  length-places zero number = refl
  length-places (suc n) number = length-append (places base first n (number / base)) _ ∙ ap (◌+ 1) (length-places n (number / base)) ∙ omega arith

  -- one place more, put before the rest: the last
  pub place-more : (l : List ℕ) (at n number : ℕ)
      → sets (set l (at + n) (first + number % base)) at (places base first n (number / base)) ≡ sets l at (places base first (n + 1) number)
  unfolding places
  place-more l at n number =
      let more : n + 1 ≡ suc n = omega arith in
      rw more (ap (λ (k : ℕ). sets (set l (at + k) (first + number % base)) at (places base first n (number / base))) (sym (length-places n (number / base)))
      ∙ sets_last l at (places base first n (number / base)) (first + number % base))

pub places_none : (base first number : ℕ) → places base first 0 number ≡ []
unfolding places
places_none base first number = refl
