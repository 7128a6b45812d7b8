-- A table that gives the labels noted in it. Assumes nothing.
use Rattle.std.specs.Prelude.{None, Option, Some}
use Rattle.std.proofs.lemmas.Bool.{and_parts}
use mathlib.Core.Path.{◌≡◌, refl, sym, ap, ◌∙◌}
use mathlib.Core.Bool.{Bool, true, false, cond}
use mathlib.Core.List.{List, [], ◌∷◌}
use Prim.Native.Nat.{ℕ, zero, suc, ◌+◌, ◌*◌, ◌/◌, ◌%◌, ◌^◌, ◌≤◌, ◌<◌}
use native.Mathlib.Numerals.{add-one, add-two}
use native.Mathlib.Omega.{arith}
use lib.Dec.{ltb}
use lib.ListN.{length, get_or, set, drop, replicate, length-set}
use lib.Seq.{sets, length-sets, get_or-set_same, get_or-set_other}
use Rattle.labels.specs.Bytes.{is_letter, is_part, every, head_of, eq_bytes, key_from, key_of}
use Rattle.labels.specs.Reading.{tail_of, run_of, name_at}
use Rattle.labels.specs.Table.{slots_of, place_at, key_at, index_at, search_in, index_by, index_in}
use Rattle.labels.specs.declared.table.Slot.{Slot}
use Rattle.labels.specs.declared.table.Slot.TheVariants.{Held, Free, Full}
use Rattle.labels.proofs.Spans.{run_on, every-run}
use Rattle.labels.proofs.Classes.{part-bounds, or-true}
use Rattle.labels.proofs.Searches.{free-below}
use Rattle.labels.proofs.Noting.{Changed, held-holds, free-empty, Findable, new-findable, new-index}
use Rattle.labels.proofs.Rooms.{taken, taken-all, taken_none, taken_more, full-all}

-- ---- a name's key is not 0
key-grows : (v : ℕ) (t : List ℕ) → zero < v → every is_part t ≡ true → zero < key_from v t
unfolding key_from every
key-grows v [] h e = h
key-grows v (b ∷ t) h e = let k = and_parts (is_part b) (every is_part t) e in key-grows (v % 2 ^ 56 * 256 + b) t (let p = part-bounds b k.0 in omega arith) k.1

pub named-key : (s : List ℕ) (at : ℕ) → is_letter (head_of (drop at s)) ≡ true → key_of (name_at s at) ≡ 0 → ⊥
unfolding key_from every
named-key s at h z =
    let p = or-true (is_letter (head_of (drop at s))) _ h in
    let r = run_on is_part (drop at s) refl p in
    let k = and_parts (is_part (head_of (drop at s))) (every is_part (run_of is_part (tail_of (drop at s)))) (ap (every is_part) (sym r) ∙ every-run is_part (drop at s)) in
    let g = key-grows (0 % 2 ^ 56 * 256 + head_of (drop at s)) (run_of is_part (tail_of (drop at s))) (let b = part-bounds (head_of (drop at s)) p in omega arith) k.1 in
    let e = sym (ap key_of r) ∙ z in
    omega arith

-- ---- three numbers stored in a free slot
module _ (table : List ℕ) (j a b c : ℕ) (below : j < slots_of table) (free : key_at table j ≡ 0) where
  new : List ℕ
  new = sets table (3 * j) (a ∷ (b ∷ (c ∷ [])))

  other : (i : ℕ) → (i ≡ 3 * j → ⊥) → (i ≡ suc (3 * j) → ⊥) → (i ≡ suc (suc (3 * j)) → ⊥) → get_or new i 0 ≡ get_or table i 0
  unfolding new
  other i p q r =
      get_or-set_other (set (set table (3 * j) a) (suc (3 * j)) b) (suc (suc (3 * j))) i c 0 r
      ∙ get_or-set_other (set table (3 * j) a) (suc (3 * j)) i b 0 q ∙ get_or-set_other table (3 * j) i a 0 p

  changed : Changed table new j
  unfolding new
  changed = record {
    slots = ap (λ (n : ℕ). n / 3) (length-sets table (3 * j) (a ∷ (b ∷ (c ∷ []))));
    free = free;
    place = λ k n. other (3 * k) (λ z. n (omega arith)) (λ z. omega arith) (λ z. omega arith);
    key = λ k n. other (3 * k + 1) (λ z. omega arith) (λ z. n (omega arith)) (λ z. omega arith);
    index = λ k n. other (3 * k + 2) (λ z. omega arith) (λ z. omega arith) (λ z. n (omega arith));
  }

  within : 3 * j + 2 < length table
  within = omega arith

  place-new : place_at new j ≡ a
  unfolding new
  place-new =
      get_or-set_other (set (set table (3 * j) a) (suc (3 * j)) b) (suc (suc (3 * j))) (3 * j) c 0 (λ z. omega arith)
      ∙ get_or-set_other (set table (3 * j) a) (suc (3 * j)) (3 * j) b 0 (λ z. omega arith) ∙ get_or-set_same table (3 * j) a 0 (omega (arith, within))

  key-new : key_at new j ≡ b
  unfolding new
  key-new =
      get_or-set_other (set (set table (3 * j) a) (suc (3 * j)) b) (suc (suc (3 * j))) (3 * j + 1) c 0 (λ z. omega arith)
      ∙ ap (λ (i : ℕ). get_or (set (set table (3 * j) a) (suc (3 * j)) b) i 0) (add-one (3 * j))
      ∙ get_or-set_same (set table (3 * j) a) (suc (3 * j)) b 0 (rw length-set (omega (arith, within)))

  index-new : index_at new j ≡ c
  unfolding new
  index-new =
      ap (λ (i : ℕ). get_or (sets table (3 * j) (a ∷ (b ∷ (c ∷ [])))) i 0) (add-two (3 * j))
      ∙ get_or-set_same (set (set table (3 * j) a) (suc (3 * j)) b) (suc (suc (3 * j))) c 0 (rw (length-set, length-set) (omega (arith, within)))

-- ---- the labels that a table gives, of which at most so many are noted
pub record Tabled (text table : List ℕ) (index : List ℕ → Option ℕ) (count : ℕ) : Type 0 where
  pub findable : Findable text table
  pub gives : (name : List ℕ) → index_in text table name ≡ index name
  pub used : taken table (slots_of table) ≤ count

-- a table of zeros gives None
pub tabled-none : (text : List ℕ) (n : ℕ) → Tabled text (replicate n 0) (λ _. None) 0
unfolding index_in
tabled-none text n = record {
  findable = λ name k b h. absurd (h.0 (empty k));
  gives = λ name. go name (search_in text (replicate n 0) name) refl;
  used = let e = taken_none (replicate n 0) (slots_of (replicate n 0)) empty in omega arith;
}
  where
    zeros : (n i : ℕ) → ◌≡◌ {A = ℕ} (get_or (replicate n 0) i 0) 0
    zeros zero i = refl
    zeros (suc n) zero = refl
    zeros (suc n) (suc i) = zeros n i

    empty : (k : ℕ) → key_at (replicate n 0) k ≡ 0
    empty k = zeros n (3 * k + 1)

    go : (name : List ℕ) (r : Slot) → search_in text (replicate n 0) name ≡ r → index_by (search_in text (replicate n 0) name) (replicate n 0) ≡ None
    go name (Held h) e = absurd ((held-holds text (replicate n 0) name h e).0 (empty h))
    go name (Free f) e = ap (λ (r : Slot). index_by r (replicate n 0)) e
    go name Full e = ap (λ (r : Slot). index_by r (replicate n 0)) e

module _ (text table : List ℕ) (index : List ℕ → Option ℕ) (count : ℕ) (t : Tabled text table index count) (name : List ℕ) where
  pub tabled-held : (h : ℕ) → search_in text table name ≡ Held h → (i : ℕ) × (index name ≡ Some i)
  unfolding index_in
  tabled-held h e = (index_at table h, sym (t.gives name) ∙ ap (λ (r : Slot). index_by r table) e)

  pub tabled-free : (f : ℕ) → search_in text table name ≡ Free f → index name ≡ None
  unfolding index_in
  tabled-free f e = sym (t.gives name) ∙ ap (λ (r : Slot). index_by r table) e

  -- no slot is free only if all are taken
  pub tabled-full : search_in text table name ≡ Full → slots_of table ≤ count
  tabled-full e = let a = taken-all table (slots_of table) (full-all text table name e) in let u = t.used in omega arith

pub tabled-new : (text table : List ℕ) (index : List ℕ → Option ℕ) (count at i j : ℕ) → Tabled text table index count → is_letter (head_of (drop at text)) ≡ true
    → search_in text table (name_at text at) ≡ Free j
    → Tabled text (sets table (3 * j) (at ∷ (key_of (name_at text at) ∷ (i ∷ [])))) (λ m. cond (eq_bytes (name_at text at) m) (Some i) (index m)) (count + 1)
unfolding new
tabled-new text table index count at i j t l e = record {
  findable = new-findable text table fresh j at i c below t.findable key place number named e;
  gives = λ m. new-index text table fresh j at i c below t.findable key place number named e m ∙ ap (cond (eq_bytes (name_at text at) m) (Some i)) (t.gives m);
  used = room;
}
  where
    below : j < slots_of table
    below = free-below text table (name_at text at) j e

    free : key_at table j ≡ 0
    free = free-empty text table (name_at text at) j e

    fresh : List ℕ
    fresh = new table j at (key_of (name_at text at)) i below free

    c : Changed table fresh j
    c = changed table j at (key_of (name_at text at)) i below free

    key : key_at fresh j ≡ key_of (name_at text at)
    key = key-new table j at (key_of (name_at text at)) i below free

    place : place_at fresh j ≡ at
    place = place-new table j at (key_of (name_at text at)) i below free

    number : index_at fresh j ≡ i
    number = index-new table j at (key_of (name_at text at)) i below free

    named : key_of (name_at text at) ≡ 0 → ⊥
    named = named-key text at l

    one : (t : Bool) → cond t 1 0 ≤ 1
    one true = omega arith
    one false = omega arith

    room : taken fresh (slots_of fresh) ≤ count + 1
    room =
        let same : taken fresh (slots_of fresh) ≡ taken fresh (slots_of table) = ap (taken fresh) c.slots in
        let more : taken fresh (slots_of table) ≤ taken table (slots_of table) + cond (ltb j (slots_of table)) 1 0 = taken_more table fresh j c (slots_of table) in
        let u = t.used in
        omega (arith, one (ltb j (slots_of table)))
