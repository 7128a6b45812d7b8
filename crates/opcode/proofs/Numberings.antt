-- Numbers and opcodes, in any numbering of the fifty below 128 without repeats; document 01's is one.
use Rattle.std.specs.Prelude.{None, Option, Some}
use Prim.Native.Nat.{ℕ, zero, suc, ◌+◌, ◌-◌, ◌≤◌, ◌<◌}
use native.Mathlib.Omega.{arith}
use native.Mathlib.Nat.{not-suc-le-zero}
use mathlib.Core.Path.{◌≡◌, refl, sym, ap, ◌∙◌}
use mathlib.Core.Bool.{Bool, true, false, cond, ◌&&◌}
use mathlib.Core.List.{List, [], ◌∷◌, ◌++◌, map}
use lib.ListN.{length, get_or, get_or-map}
use lib.Dec.{T, eqb, ltb, leb, eqb→eq}
use mir.Facts.{and_yes}
use borrow.Author.Tests.{eq-eqb, ne_eqb, eqb-true, ltb-true, leb-true}
use Rattle.encoding.specs.Fields.{within}
use Rattle.opcode.specs.Opcodes.{opcode_number, all, first_with, opcode_in}
use Rattle.opcode.specs.declared.Opcode.{Opcode}
use Rattle.opcode.specs.declared.Opcode.TheVariants as O
use Rattle.opcode.proofs.Arms.{everywhere}
use Rattle.opcode.proofs.Variants.{place, all-at}

pub record Numbering (num : Opcode → ℕ) : Type 0 where
  pub distinct : (o p : Opcode) → num o ≡ num p → o ≡ p
  pub below : (o : Opcode) → num o < 128

abbrev pub is_op : Option Opcode → Bool
is_op (Some op) = true
is_op None = false

module _ (num : Opcode → ℕ) where
  found_at : Numbering num → (os : List Opcode) (op : Opcode) (k : ℕ) → k < length os → get_or os k O.Add ≡ op
      → first_with num os (num op) ≡ Some op
  unfolding first_with
  found_at N [] op k h e = absurd (not-suc-le-zero h)
  found_at N (o ∷ os) op zero h e = rw (eq-eqb (num op) (num o) (ap num (sym e))) (ap Some e)
  found_at N (o ∷ os) op (suc k) h e = by (eqb (num op) (num o)) refl (found_at N os op k (omega arith) e)
    where
      by : (t : Bool) → eqb (num op) (num o) ≡ t → first_with num os (num op) ≡ Some op
          → cond t (Some o) (first_with num os (num op)) ≡ Some op
      by true q r = ap Some (sym (N.distinct op o (eqb-true _ _ q)))
      by false q r = r

  -- the opcode of an opcode's number is that opcode
  pub found : Numbering num → (op : Opcode) → opcode_in num (num op) ≡ Some op
  unfolding all
  found N op = found_at N all op (place op) (ltb-true _ _ (small op)) (all-at op)
    where
      small : (op : Opcode) → ltb (place op) 50 ≡ true
      small = everywhere all O.Add place all-at (λ (op : Opcode). ltb (place op) 50) (λ (op : Opcode). true) refl refl

  -- an opcode found for a number has that number, whatever the numbers are
  pub number-found : (os : List Opcode) (n : ℕ) (op : Opcode) → first_with num os n ≡ Some op → num op ≡ n
  unfolding first_with
  number-found [] n op e = let z : ◌≡◌ {A = ℕ} 0 1 = cc in absurd (omega arith)
  number-found (o ∷ os) n op e = by (eqb n (num o)) refl (number-found os n op) e
    where
      by : (t : Bool) → eqb n (num o) ≡ t → (first_with num os n ≡ Some op → num op ≡ n)
          → cond t (Some o) (first_with num os n) ≡ Some op → num op ≡ n
      by true q r e = let s : o ≡ op = cc in ap num (sym s) ∙ sym (eqb-true n (num o) q)
      by false q r e = r e

  -- n is no number of these, after U, as the last arm of a `match` knows it
  abbrev pub Unlike : Type 0 → List Opcode → ℕ → Type 0
  Unlike U [] n = U
  Unlike U (o ∷ os) n = Unlike (U × (n ≡ num o → ⊥)) os n

  late : (U : Type 0) (os ps : List Opcode) (n : ℕ) → Unlike U os n → U × (first_with num (os ++ ps) n ≡ first_with num ps n)
  unfolding first_with
  late U [] ps n u = (u, refl)
  late U (o ∷ os) ps n u =
      let h = late (U × (n ≡ num o → ⊥)) os ps n u in
      (h.0.0, rw (ne_eqb n (num o) h.0.1) h.1)

  -- and so it is the last one's, if it is one's at all
  pub last : (os : List Opcode) (o : Opcode) (n : ℕ) → Unlike (Unit {0}) os n → is_op (first_with num (os ++ (o ∷ [])) n) ≡ true
      → Some o ≡ first_with num (os ++ (o ∷ [])) n
  unfolding first_with
  last os o n u e =
      let s = (late (Unit {0}) os (o ∷ []) n u).1 in
      by (eqb n (num o)) (ap is_op (sym s) ∙ e) ∙ sym s
    where
      by : (t : Bool) → is_op (cond t (Some o) None) ≡ true → Some o ≡ cond t (Some o) None
      by true e = refl
      by false e = let z : ◌≡◌ {A = ℕ} 0 1 = cc in absurd (omega arith)

pub opcode_number-numbers : Numbering opcode_number
unfolding all
opcode_number-numbers =
    record {
      distinct = λ o p e. sym (again o) ∙ ap (λ (n : ℕ). get_or all (n - 1) O.Add) e ∙ again p;
      below = λ o. ltb-true _ _ (everywhere all O.Add place all-at (λ (op : Opcode). ltb (opcode_number op) 128) (λ (op : Opcode). true) refl refl o);
    }
  where
    again : (op : Opcode) → get_or all (opcode_number op - 1) O.Add ≡ op
    again = everywhere all O.Add place all-at (λ (op : Opcode). get_or all (opcode_number op - 1) O.Add) (λ (op : Opcode). op) refl refl

-- ---- "opcode 0 or over 50" has none

abbrev counts : ℕ → List ℕ → Bool
counts n [] = true
counts n (x ∷ xs) = eqb x n && counts (suc n) xs

counted : (n : ℕ) (xs : List ℕ) → T (counts n xs) → (k d : ℕ) → k < length xs → get_or xs k d ≡ n + k
counted n [] t k d h = absurd (not-suc-le-zero h)
counted n (x ∷ xs) t zero d h = let p = and_yes (eqb x n) (counts (suc n) xs) t in eqb→eq x n p.0 ∙ omega arith
counted n (x ∷ xs) t (suc k) d h =
    let p = and_yes (eqb x n) (counts (suc n) xs) t in
    counted (suc n) xs p.1 k d (omega arith) ∙ omega arith

number_at : (n : ℕ) → 1 ≤ n → n ≤ 50 → opcode_number (get_or all (n - 1) O.Add) ≡ n
unfolding all
number_at n l h =
    sym (get_or-map opcode_number all (n - 1) O.Add) ∙ counted 1 (map opcode_number all) tt (n - 1) 1 (omega arith) ∙ omega arith

pub valid : (n : ℕ) → is_op (opcode_in opcode_number n) ≡ within 1 50 n
unfolding all
valid n = by (opcode_in opcode_number n) refl
  where
    small : (op : Opcode) → within 1 50 (opcode_number op) ≡ true
    small = everywhere all O.Add place all-at (λ (op : Opcode). within 1 50 (opcode_number op)) (λ (op : Opcode). true) refl refl

    none-valid : opcode_in opcode_number n ≡ None → (t u : Bool) → leb 1 n ≡ t → leb n 50 ≡ u → false ≡ t && u
    none-valid e true true p q =
        let o = number_at n (leb-true 1 n p) (leb-true n 50 q) in
        let f = found opcode_number opcode_number-numbers (get_or all (n - 1) O.Add) in
        let g : Some (get_or all (n - 1) O.Add) ≡ None = sym f ∙ ap (opcode_in opcode_number) o ∙ e in
        let z : ◌≡◌ {A = ℕ} 0 1 = cc in
        absurd (omega arith)
    none-valid e true false p q = refl
    none-valid e false u p q = refl

    by : (o : Option Opcode) → opcode_in opcode_number n ≡ o → is_op o ≡ within 1 50 n
    by (Some op) e = sym (small op) ∙ ap (within 1 50) (number-found opcode_number all n op e)
    by None e = none-valid e (leb 1 n) (leb n 50) refl refl

pub no-opcode : (n : ℕ) → within 1 50 n ≡ false → None ≡ opcode_in opcode_number n
no-opcode n e = by (opcode_in opcode_number n) (valid n ∙ e)
  where
    by : (o : Option Opcode) → is_op o ≡ false → None ≡ o
    by (Some op) e = let z : ◌≡◌ {A = ℕ} 0 1 = cc in absurd (omega arith)
    by None e = refl
