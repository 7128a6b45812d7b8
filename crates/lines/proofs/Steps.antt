-- What the reader's definitions say of a line from a place on, case by case. Assumes nothing.
use Rattle.std.proofs.lemmas.Bool.{and_parts}
use Rattle.std.proofs.Common.{Option, ◌≡◌, ℕ, zero, suc, ◌+◌, ◌-◌, ◌<◌, ◌≤◌, Bool, true, false, cond, ◌&&◌, eqb, leb, List, [], ◌∷◌, length, drop, ℤ, pos, sym, refl, ap, ◌∙◌, arith, Option as RustOption, Some, None, drop_of_length-le, eq-eqb, ne_eqb, eqb-true, leb-true}
use Rattle.labels.specs.Bytes.{is_space, is_digit, head_of}
use Rattle.labels.specs.Reading.{tail_of, skip, Passed}
use Rattle.sums.specs.Reader.{Got, got, bad, onto, sum_read}
use Rattle.labels.proofs.Spans.{tail-drop}
use Rattle.lines.specs.Lines.{Kind, register, immediate}
use Rattle.lines.specs.Reader.{register_read, operand_read, nothing}
use Rattle.lines.specs.Code.{is_two, comma_read, last_read, reg_seen}

-- ---- a register
module _ (s : List ℕ) (at : ℕ) where
  tail-two : tail_of (tail_of (drop at s)) ≡ drop (at + 2) s
  tail-two = let e : at + 1 + 1 ≡ at + 2 = omega arith in ap tail_of (tail-drop s at) ∙ tail-drop s (at + 1) ∙ ap (λ (k : ℕ). drop k s) e

  tail-three : tail_of (tail_of (tail_of (drop at s))) ≡ drop (at + 3) s
  tail-three = let e : at + 2 + 1 ≡ at + 3 = omega arith in ap tail_of tail-two ∙ tail-drop s (at + 2) ∙ ap (λ (k : ℕ). drop k s) e

  reg-is : register_read (drop at s) ≡ cond (eqb (head_of (drop at s)) 82)
      (cond (is_two (head_of (drop (at + 1) s)) (head_of (drop (at + 2) s))) (got (pos (head_of (drop (at + 2) s) - 38)) (drop (at + 3) s))
      (cond (is_digit (head_of (drop (at + 1) s))) (got (pos (head_of (drop (at + 1) s) - 48)) (drop (at + 2) s)) bad)) bad
  unfolding register_read
  reg-is = cc (tail-drop s at, tail-two, tail-three)

  pub reg-none : (head_of (drop at s) ≡ 82 → ⊥) → register_read (drop at s) ≡ bad
  reg-none n = reg-is ∙ simp (ne_eqb _ _ n)

  pub reg-bad : head_of (drop at s) ≡ 82 → is_digit (head_of (drop (at + 1) s)) ≡ false → register_read (drop at s) ≡ bad
  reg-bad e d = reg-is ∙ simp (eq-eqb _ _ e, no-two (head_of (drop (at + 1) s)) (head_of (drop (at + 2) s)) d, d)
    where
      no-two : (a b : ℕ) → is_digit a ≡ false → is_two a b ≡ false
      no-two a b d = go (eqb a 49) refl
        where
          go : (c : Bool) → eqb a 49 ≡ c → c && (leb 48 b && leb b 53) ≡ false
          go true e = absurd (let q : false ≡ true = sym d ∙ ap is_digit (eqb-true a 49 e) in cc)
          go false e = refl

  pub reg-two : head_of (drop at s) ≡ 82 → is_two (head_of (drop (at + 1) s)) (head_of (drop (at + 2) s)) ≡ true → register_read (drop at s) ≡ got (pos (head_of (drop (at + 2) s) - 38)) (drop (at + 3) s)
  reg-two e t = reg-is ∙ simp (eq-eqb _ _ e, t)

  pub reg-one : head_of (drop at s) ≡ 82 → is_two (head_of (drop (at + 1) s)) (head_of (drop (at + 2) s)) ≡ false → is_digit (head_of (drop (at + 1) s)) ≡ true → register_read (drop at s) ≡ got (pos (head_of (drop (at + 1) s) - 48)) (drop (at + 2) s)
  reg-one e t d = reg-is ∙ simp (eq-eqb _ _ e, t, d)

pub two-bounds : (a b : ℕ) → is_two a b ≡ true → (48 ≤ b) × (b ≤ 53)
two-bounds a b h =
    let k = (and_parts (eqb a 49) (leb 48 b && leb b 53) h).1 in
    (leb-true 48 b (and_parts (leb 48 b) (leb b 53) k).0, leb-true b 53 (and_parts (leb 48 b) (leb b 53) k).1)

-- ---- what follows an operand
pub nothing-end : (s : List ℕ) (n : ℕ) → length s ≤ n → nothing (drop n s) ≡ true
nothing-end s n h = ap nothing (drop_of_length-le s h)

pub nothing-not : (s : List ℕ) (n : ℕ) → n < length s → nothing (drop n s) ≡ false
nothing-not [] n h = absurd (omega arith)
nothing-not (b ∷ s) zero h = refl
nothing-not (b ∷ s) (suc n) h = nothing-not s n (omega arith)

module _ (k : Kind) (look : List ℕ → Option ℤ) (s : List ℕ) (at m : ℕ) (p : Passed is_space s at m) where
  reads : (w : Got) → operand_read k look (drop m s) ≡ w → operand_read k look (skip (drop at s)) ≡ w
  reads w e = ap (operand_read k look) (sym p.rest) ∙ e

  pub comma-bad : operand_read k look (drop m s) ≡ bad → comma_read k look (drop at s) ≡ bad
  unfolding comma_read
  comma-bad e = ap (onto (λ v u. cond (eqb (head_of u) 44) (got v (tail_of u)) bad)) (reads bad e)

  pub comma-no : (v : ℤ) (n : ℕ) → operand_read k look (drop m s) ≡ got v (drop n s) → (head_of (drop n s) ≡ 44 → ⊥) → comma_read k look (drop at s) ≡ bad
  unfolding comma_read
  comma-no v n e h = ap (onto (λ v u. cond (eqb (head_of u) 44) (got v (tail_of u)) bad)) (reads _ e) ∙ simp (ne_eqb _ _ h)

  pub comma-yes : (v : ℤ) (n : ℕ) → operand_read k look (drop m s) ≡ got v (drop n s) → head_of (drop n s) ≡ 44 → comma_read k look (drop at s) ≡ got v (drop (n + 1) s)
  unfolding comma_read
  comma-yes v n e h = ap (onto (λ v u. cond (eqb (head_of u) 44) (got v (tail_of u)) bad)) (reads _ e) ∙ simp (eq-eqb _ _ h) (ap (got v) (tail-drop s n))

  pub last-bad : operand_read k look (drop m s) ≡ bad → last_read k look (drop at s) ≡ bad
  unfolding last_read
  last-bad e = ap (onto (λ v u. cond (nothing u) (got v u) bad)) (reads bad e)

  pub last-no : (v : ℤ) (n : ℕ) → operand_read k look (drop m s) ≡ got v (drop n s) → n < length s → last_read k look (drop at s) ≡ bad
  unfolding last_read
  last-no v n e h = ap (onto (λ v u. cond (nothing u) (got v u) bad)) (reads _ e) ∙ ap (λ (c : Bool). cond c (got v (drop n s)) bad) (nothing-not s n h)

  pub last-yes : (v : ℤ) (n : ℕ) → operand_read k look (drop m s) ≡ got v (drop n s) → length s ≤ n → last_read k look (drop at s) ≡ got v (drop n s)
  unfolding last_read
  last-yes v n e h = ap (onto (λ v u. cond (nothing u) (got v u) bad)) (reads _ e) ∙ ap (λ (c : Bool). cond c (got v (drop n s)) bad) (nothing-end s n h)

-- a register and the spaces after it
module _ (look : List ℕ → Option ℤ) (s : List ℕ) (m : ℕ) (r : RustOption (ℕ × ℕ)) (e : register_read (drop m s) ≡ reg_seen s r) where
  pub operand-bad : r ≡ None → operand_read register look (drop m s) ≡ bad
  unfolding operand_read
  operand-bad q = ap (onto (λ v u. got v (skip u))) (e ∙ ap (reg_seen s) q)

  pub operand-reg : (x u n : ℕ) → r ≡ Some (x, u) → Passed is_space s u n → operand_read register look (drop m s) ≡ got (pos x) (drop n s)
  unfolding operand_read
  operand-reg x u n q p = ap (onto (λ v u. got v (skip u))) (e ∙ ap (reg_seen s) q) ∙ ap (got (pos x)) (sym p.rest)

pub operand-sum : (look : List ℕ → Option ℤ) (t : List ℕ) (w : Got) → sum_read 16 look t ≡ w → operand_read immediate look t ≡ w
unfolding operand_read
operand-sum look t w e = e
