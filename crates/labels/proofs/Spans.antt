-- Runs of bytes of a class, and a text from a place on. Assumes nothing.
use Rattle.std.proofs.lemmas.Bool.{and_parts}
use mathlib.Core.Path.{◌≡◌, refl, sym, ap, ◌∙◌}
use mathlib.Core.Bool.{Bool, true, false, cond}
use mathlib.Core.List.{List, [], ◌∷◌, ◌++◌}
use Prim.Native.Nat.{ℕ, zero, suc, ◌+◌, ◌<◌}
use native.Mathlib.Numerals.{add-one}
use native.Mathlib.Omega.{arith}
use borrow.Author.Tests.{eqb-true}
use lib.ListN.{length, get_or, drop}
use Rattle.labels.specs.Bytes.{is_space, every, spaces, head_of}
use Rattle.labels.specs.Reading.{tail_of, run_of, past, skip}

pub head-drop : (s : List ℕ) (n : ℕ) → head_of (drop n s) ≡ get_or s n 0
unfolding head_of
head-drop [] zero = refl
head-drop [] (suc n) = refl
head-drop (b ∷ s) zero = refl
head-drop (b ∷ s) (suc n) = head-drop s n

tail-drop-suc : (s : List ℕ) (n : ℕ) → tail_of (drop n s) ≡ drop (suc n) s
unfolding tail_of
tail-drop-suc [] zero = refl
tail-drop-suc [] (suc n) = refl
tail-drop-suc (b ∷ s) zero = refl
tail-drop-suc (b ∷ s) (suc n) = tail-drop-suc s n

pub tail-drop : (s : List ℕ) (n : ℕ) → tail_of (drop n s) ≡ drop (n + 1) s
tail-drop s n = tail-drop-suc s n ∙ ap (λ (k : ℕ). drop k s) (sym (add-one n))

-- a byte that is not 0 lies within the text
pub inside : (s : List ℕ) (n : ℕ) → (head_of (drop n s) ≡ 0 → ⊥) → n < length s
unfolding head_of
inside [] zero h = absurd (h refl)
inside [] (suc n) h = absurd (h refl)
inside (b ∷ s) zero h = omega arith
inside (b ∷ s) (suc n) h = let i : n < length s = inside s n h in omega arith

module _ (p : ℕ → Bool) where
  pub run_past : (t : List ℕ) → run_of p t ++ past p t ≡ t
  unfolding run_of past
  run_past [] = refl
  run_past (b ∷ t) = go (p b) (run_past t)
    where
      go : (c : Bool) → run_of p t ++ past p t ≡ t → cond c (b ∷ run_of p t) [] ++ cond c (past p t) (b ∷ t) ≡ b ∷ t
      go true e = ap (b ∷◌) e
      go false e = refl

  pub every-run : (t : List ℕ) → every p (run_of p t) ≡ true
  unfolding run_of every
  every-run [] = refl
  every-run (b ∷ t) = go (p b) refl (every-run t)
    where
      go : (c : Bool) → p b ≡ c → every p (run_of p t) ≡ true → every p (cond c (b ∷ run_of p t) []) ≡ true
      go true e h = simp (e, h)
      go false e h = refl

  pub past_stop : (t : List ℕ) → p (head_of t) ≡ false → past p t ≡ t
  unfolding past head_of
  past_stop [] h = refl
  past_stop (b ∷ t) h = simp h

  pub past-on : (t : List ℕ) → p (head_of t) ≡ true → past p t ≡ past p (tail_of t)
  unfolding past head_of tail_of
  past-on [] h = refl
  past-on (b ∷ t) h = simp h

  pub run-stop : (t : List ℕ) → p (head_of t) ≡ false → run_of p t ≡ []
  unfolding run_of head_of
  run-stop [] h = refl
  run-stop (b ∷ t) h = simp h

  pub run_on : (t : List ℕ) → p 0 ≡ false → p (head_of t) ≡ true → run_of p t ≡ head_of t ∷ run_of p (tail_of t)
  unfolding run_of head_of tail_of
  run_on [] z h = absurd (let q : false ≡ true = sym z ∙ h in cc)
  run_on (b ∷ t) z h = simp h

  pub past_head : (t : List ℕ) → p 0 ≡ false → p (head_of (past p t)) ≡ false
  unfolding past head_of
  past_head [] z = z
  past_head (b ∷ t) z = go (p b) refl (past_head t z)
    where
      go : (c : Bool) → p b ≡ c → p (head_of (past p t)) ≡ false → p (head_of (cond c (past p t) (b ∷ t))) ≡ false
      go true e h = h
      go false e h = e

  pub past-append : (a t : List ℕ) → every p a ≡ true → past p (a ++ t) ≡ past p t
  unfolding past every
  past-append [] t h = refl
  past-append (b ∷ a) t h = let k = and_parts (p b) (every p a) h in rw (k.0, past) (past-append a t k.1)

  pub run-append : (a t : List ℕ) → every p a ≡ true → p (head_of t) ≡ false → run_of p (a ++ t) ≡ a
  unfolding run_of every
  run-append [] t h e = run-stop t e
  run-append (b ∷ a) t h e = let k = and_parts (p b) (every p a) h in rw (k.0, run_of) (ap (b ∷◌) (run-append a t k.1 e))

all-spaces : (n : ℕ) → every is_space (spaces n) ≡ true
unfolding every
all-spaces zero = refl
all-spaces (suc n) = all-spaces n

pub skip-spaces : (n : ℕ) (t : List ℕ) → skip (spaces n ++ t) ≡ skip t
skip-spaces n t = past-append is_space (spaces n) t (all-spaces n)

-- what is skipped is spaces
pub are-spaces : (t : List ℕ) → every is_space t ≡ true → t ≡ spaces (length t)
unfolding every
are-spaces [] h = refl
are-spaces (b ∷ t) h = let k = and_parts _ _ h in
    let e : b ≡ 32 = eqb-true b 32 k.0 in
    ap (◌∷ t) e ∙ ap (32 ∷◌) (are-spaces t k.1)
