-- One slot of the table after another. Assumes nothing.
use mathlib.Core.Path.{◌≡◌, refl, sym, ap, ◌∙◌, subst}
use mathlib.Core.Bool.{Bool, true, false, cond}
use mathlib.Core.List.{List}
use Prim.Native.Nat.{ℕ, zero, suc, ◌+◌, ◌-◌, ◌*◌, ◌/◌, ◌^◌, ◌<◌}
use native.Mathlib.Nat.{mod-lt, mul-lt-mul_of_pos_right}
use native.Mathlib.Omega.{arith}
use native.Mathlib.Numerals.{sub-one}
use borrow.Author.Tests.{eq-eqb, ne_eqb, eqb-false, ltb-false}
use lib.Dec.{eqb, ltb}
use Rattle.labels.specs.Bytes.{key_of}
use Rattle.labels.specs.Table.{slots_of, key_at, spread_of, home_of, next_of, holds_name, search_from, search_in, SlotBelow}
use Rattle.labels.specs.declared.table.Slot.TheVariants.{Held, Free}

module _ (text table name : List ℕ) (k : ℕ) where
  search-turn : (left : ℕ) → (left ≡ 0 → ⊥) → search_from text table name left k
      ≡ cond (eqb (key_at table k) 0) (Free k) (cond (holds_name text table name k) (Held k) (search_from text table name (left - 1) (next_of (slots_of table) k)))
  unfolding search_from
  search-turn zero n = absurd (n refl)
  search-turn (suc left) n =
      ap (λ (l : ℕ). cond (eqb (key_at table k) 0) (Free k) (cond (holds_name text table name k) (Held k) (search_from text table name l (next_of (slots_of table) k))))
      (sym (sub-one (suc left)))

  pub search-free : (left : ℕ) → (left ≡ 0 → ⊥) → key_at table k ≡ 0 → search_from text table name left k ≡ Free k
  search-free left n e = search-turn left n ∙ simp (eq-eqb _ _ e)

  pub search-held : (left : ℕ) → (left ≡ 0 → ⊥) → (key_at table k ≡ 0 → ⊥) → holds_name text table name k ≡ true → search_from text table name left k ≡ Held k
  search-held left n e h = search-turn left n ∙ simp (ne_eqb _ _ e, h)

  pub search-on : (left : ℕ) → (left ≡ 0 → ⊥) → (key_at table k ≡ 0 → ⊥) → holds_name text table name k ≡ false
      → search_from text table name left k ≡ search_from text table name (left - 1) (next_of (slots_of table) k)
  search-on left n e h = search-turn left n ∙ simp (ne_eqb _ _ e, h)

-- ---- a slot that a search ends at is one of the table's
pub spread-below : (key slots : ℕ) → 0 < slots → spread_of key * slots < 2 ^ 32 * slots
spread-below key slots h = mul-lt-mul_of_pos_right (mod-lt _ (omega arith)) h

pub home_below : (key slots : ℕ) → 0 < slots → home_of key slots < slots
home_below key slots h = go (ltb slots (2 ^ 32)) refl
  where
    go : (t : Bool) → ltb slots (2 ^ 32) ≡ t → cond t (spread_of key * slots / 2 ^ 32) (spread_of key) < slots
    go true e = omega (arith, spread-below key slots h)
    go false e = let g = ltb-false slots (2 ^ 32) e in let l : spread_of key < 2 ^ 32 = mod-lt _ (omega arith) in omega arith

pub next-below : (slots k : ℕ) → k < slots → next_of slots k < slots
next-below slots k h = go (eqb (k + 1) slots) refl
  where
    go : (t : Bool) → eqb (k + 1) slots ≡ t → cond t 0 (k + 1) < slots
    go true e = omega arith
    go false e = let n = eqb-false (k + 1) slots e in omega arith

module _ (text table name : List ℕ) where
  from-below : (left k : ℕ) → ((left ≡ 0 → ⊥) → k < slots_of table) → SlotBelow (slots_of table) (search_from text table name left k)
  unfolding search_from
  from-below zero k h = tt
  from-below (suc left) k h = go (eqb (key_at table k) 0) (holds_name text table name k) (from-below left (next_of (slots_of table) k) (λ _. next-below (slots_of table) k below))
    where
      below : k < slots_of table
      below = h (λ z. omega arith)

      go : (a b : Bool) → SlotBelow (slots_of table) (search_from text table name left (next_of (slots_of table) k))
          → SlotBelow (slots_of table) (cond a (Free k) (cond b (Held k) (search_from text table name left (next_of (slots_of table) k))))
      go true b r = below
      go false true r = below
      go false false r = r

  search-below : SlotBelow (slots_of table) (search_in text table name)
  unfolding search_in
  search-below = from-below (slots_of table) (home_of (key_of name) (slots_of table)) (λ n. home_below (key_of name) (slots_of table) (omega (arith, n)))

  pub held_below : (k : ℕ) → search_in text table name ≡ Held k → k < slots_of table
  held_below k e = subst (SlotBelow (slots_of table)) e search-below

  pub free-below : (k : ℕ) → search_in text table name ≡ Free k → k < slots_of table
  free-below k e = subst (SlotBelow (slots_of table)) e search-below
