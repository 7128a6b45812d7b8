-- How many slots of a table are taken: a search that finds no free one has seen them all. Assumes nothing.
use mathlib.Core.Path.{◌≡◌, refl, ap, ◌∙◌, subst}
use mathlib.Core.Bool.{Bool, true, false, cond}
use mathlib.Core.List.{List}
use mathlib.Core.Logic.{◌⊎◌, inl, inr}
use Prim.Native.Nat.{ℕ, zero, suc, ◌+◌, ◌-◌, ◌≤◌, ◌<◌}
use native.Mathlib.Omega.{arith}
use lib.Dec.{eqb, leb, ltb}
use borrow.Author.Tests.{eq-eqb, ne_eqb, eqb-true, eqb-false, leb-true, leb-false, lt-ltb, le-ltb, ltb-true}
use Rattle.labels.specs.Bytes.{key_of}
use Rattle.labels.specs.Table.{slots_of, key_at, home_of, next_of, holds_name, search_from, search_in}
use Rattle.labels.specs.declared.table.Slot.TheVariants.{Held, Free, Full}
use Rattle.labels.proofs.Searches.{next-below, home_below}
use Rattle.labels.proofs.Noting.{Changed}

-- of the first n slots, those that are taken
unfoldable pub taken : List ℕ → ℕ → ℕ
taken table zero = 0
taken table (suc n) = cond (eqb (key_at table n) 0) 0 1 + taken table n

pub taken-all : (table : List ℕ) (n : ℕ) → ((k : ℕ) → k < n → key_at table k ≡ 0 → ⊥) → taken table n ≡ n
unfolding taken
taken-all table zero h = refl
taken-all table (suc n) h =
    ap (λ (t : Bool). cond t 0 1 + taken table n) (ne_eqb (key_at table n) 0 (h n (omega arith))) ∙ ap (1 +◌) (taken-all table n (λ k l. h k (omega arith))) ∙ omega arith

pub taken_none : (table : List ℕ) (n : ℕ) → ((k : ℕ) → key_at table k ≡ 0) → taken table n ≡ 0
unfolding taken
taken_none table zero h = refl
taken_none table (suc n) h = ap (λ (t : Bool). cond t 0 1 + taken table n) (eq-eqb (key_at table n) 0 (h n)) ∙ ap (0 +◌) (taken_none table n h)

one : (t : Bool) → cond t 0 1 ≤ 1
one true = omega arith
one false = omega arith

pub taken_more : (old new : List ℕ) (j : ℕ) → Changed old new j → (n : ℕ) → taken new n ≤ taken old n + cond (ltb j n) 1 0
unfolding taken
taken_more old new j c zero = omega arith
taken_more old new j c (suc n) = go (eqb n j) refl (taken_more old new j c n)
  where
    go : (t : Bool) → eqb n j ≡ t → taken new n ≤ taken old n + cond (ltb j n) 1 0
        → cond (eqb (key_at new n) 0) 0 1 + taken new n ≤ cond (eqb (key_at old n) 0) 0 1 + taken old n + cond (ltb j (suc n)) 1 0
    go true e i =
        let q = eqb-true n j e in
        let a : ◌≡◌ {A = ℕ} (cond (ltb j n) 1 0) 0 = ap (λ (t : Bool). cond t 1 0) (le-ltb j n (omega arith)) in
        let b : ◌≡◌ {A = ℕ} (cond (ltb j (suc n)) 1 0) 1 = ap (λ (t : Bool). cond t 1 0) (lt-ltb j (suc n) (omega arith)) in
        omega (arith, one (eqb (key_at new n) 0))
    go false e i =
        let n≢j = eqb-false n j e in
        let s : ◌≡◌ {A = ℕ} (cond (eqb (key_at new n) 0) 0 1) (cond (eqb (key_at old n) 0) 0 1) = ap (λ (k : ℕ). cond (eqb k 0) 0 1) (c.key n n≢j) in
        omega (arith, later (ltb j n) refl)
      where
        later : (t : Bool) → ltb j n ≡ t → cond t 1 0 ≤ cond (ltb j (suc n)) 1 0
        later true q = let l = ltb-true j n q in let q : ◌≡◌ {A = ℕ} (cond (ltb j (suc n)) 1 0) 1 = ap (λ (t : Bool). cond t 1 0) (lt-ltb j (suc n) (omega arith)) in omega arith
        later false q = omega arith

-- ---- the slots in the order of a search from k: all of them
module _ (slots k : ℕ) (b : k < slots) where
  -- slot x is t steps from k
  abbrev At : ℕ → ℕ → Type 0
  At t x = (x ≡ k + t) ⊎ (x + slots ≡ k + t)

  at_one : (t x y : ℕ) → x < slots → y < slots → At t x → At t y → x ≡ y
  at_one t x y h l (inl p) (inl q) = omega arith
  at_one t x y h l (inl p) (inr q) = omega arith
  at_one t x y h l (inr p) (inl q) = omega arith
  at_one t x y h l (inr p) (inr q) = omega arith

  at_next : (t x : ℕ) → t < slots → x < slots → At t x → At (t + 1) (next_of slots x)
  at_next t x h l a = go (eqb (x + 1) slots) refl a
    where
      go : (c : Bool) → eqb (x + 1) slots ≡ c → At t x → At (t + 1) (cond c 0 (x + 1))
      go true e (inl p) = let q = eqb-true (x + 1) slots e in inr (omega arith)
      go true e (inr p) = let q = eqb-true (x + 1) slots e in absurd (omega arith)
      go false e (inl p) = inl (omega arith)
      go false e (inr p) = inr (omega arith)

  at_some : (j : ℕ) → j < slots → (t : ℕ) × ((t < slots) × At t j)
  at_some j h = go (leb k j) refl
    where
      go : (c : Bool) → leb k j ≡ c → (t : ℕ) × ((t < slots) × At t j)
      go true e = let l = leb-true k j e in (j - k, (omega arith, inl (omega arith)))
      go false e = let l = leb-false k j e in (j + slots - k, (omega arith, inr (omega arith)))

module _ (text table name : List ℕ) (k : ℕ) (b : k < slots_of table) where
  seen : (left t x : ℕ) → t + left ≡ slots_of table → x < slots_of table → At (slots_of table) k b t x → search_from text table name left x ≡ Full
      → (u j : ℕ) → t ≤ u → u < slots_of table → At (slots_of table) k b u j → j < slots_of table → key_at table j ≡ 0 → ⊥
  unfolding search_from
  seen zero t x e l a f u j h m q i z = omega arith
  seen (suc left) t x e l a f u j h m q i z = go (eqb (key_at table x) 0) (holds_name text table name x) (eqb u t) refl refl f
      (λ f' h'. seen left (t + 1) (next_of (slots_of table) x) (omega arith) (next-below (slots_of table) x l) (at_next (slots_of table) k b t x (omega arith) l a) f' u j h' m q i z)
    where
      go : (c d s : Bool) → eqb (key_at table x) 0 ≡ c → eqb u t ≡ s → cond c (Free x) (cond d (Held x) (search_from text table name left (next_of (slots_of table) x))) ≡ Full
          → (search_from text table name left (next_of (slots_of table) x) ≡ Full → t + 1 ≤ u → ⊥) → ⊥
      go true d s ec es f rest = cc
      go false true s ec es f rest = cc
      go false false true ec es f rest =
          let r = eqb-true u t es in
          eqb-false (key_at table x) 0 ec (ap (key_at table) (at_one (slots_of table) k b t x j l i a (subst (λ (n : ℕ). At (slots_of table) k b n j) r q)) ∙ z)
      go false false false ec es f rest = let n = eqb-false u t es in rest f (omega arith)

pub full-all : (text table name : List ℕ) → search_in text table name ≡ Full → (j : ℕ) → j < slots_of table → key_at table j ≡ 0 → ⊥
unfolding search_in
full-all text table name f j h =
    let b = home_below (key_of name) (slots_of table) (omega arith) in
    let k = home_of (key_of name) (slots_of table) in
    let t = at_some (slots_of table) k b j h in
    seen text table name k b (slots_of table) 0 k (omega arith) b (inl (omega arith)) f t.0 j (omega arith) t.1.0 t.1.1 h
