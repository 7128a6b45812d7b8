-- A table after a label is noted: that label is found, all others as before, and no slot is lost. Assumes nothing.
use Rattle.std.specs.Prelude.{Some}
use Rattle.std.proofs.lemmas.Bool.{and_parts}
use mathlib.Core.Path.{◌≡◌, refl, sym, ap, ◌∙◌, subst}
use mathlib.Core.Bool.{Bool, true, false, cond, ◌&&◌}
use mathlib.Core.List.{List, [], ◌∷◌}
use Prim.Native.Nat.{ℕ, zero, suc, ◌<◌}
use native.Mathlib.Omega.{arith}
use lib.Dec.{eqb}
use borrow.Author.Tests.{eq-eqb, ne_eqb, eqb-true, eqb-false}
use Rattle.labels.specs.Bytes.{eq_bytes, key_of}
use Rattle.labels.specs.Reading.{name_at}
use Rattle.labels.specs.Table.{slots_of, place_at, key_at, index_at, home_of, next_of, holds_name, search_from, search_in, index_by, index_in}
use Rattle.labels.specs.declared.table.Slot.{Slot}
use Rattle.labels.specs.declared.table.Slot.TheVariants.{Held, Free, Full}
use Rattle.labels.proofs.Searches.{search-held, held_below}

pub bytes-equal : (s t : List ℕ) → eq_bytes s t ≡ true → s ≡ t
unfolding eq_bytes
bytes-equal [] [] h = refl
bytes-equal [] (b ∷ t) h = absurd (cc)
bytes-equal (a ∷ s) [] h = absurd (cc)
bytes-equal (a ∷ s) (b ∷ t) h =
    let k = and_parts (eqb a b) (eq_bytes s t) h in
    ap (◌∷ s) (eqb-true a b k.0) ∙ ap (b ∷◌) (bytes-equal s t k.1)

-- names with other keys differ
keyed : (s t : List ℕ) → eqb (key_of s) (key_of t) && eq_bytes s t ≡ eq_bytes s t
keyed s t = go (eq_bytes s t) refl
  where
    no : (x : Bool) → x && false ≡ false
    no true = refl
    no false = refl

    go : (c : Bool) → eq_bytes s t ≡ c → eqb (key_of s) (key_of t) && c ≡ c
    go true e = ap (◌&& true) (eq-eqb (key_of s) (key_of t) (ap key_of (bytes-equal s t e)))
    go false e = no (eqb (key_of s) (key_of t))

-- ---- where a search ends
module _ (text table name : List ℕ) where
  -- a slot that holds the name
  abbrev pub Holds : ℕ → Type 0
  Holds h = (key_at table h ≡ 0 → ⊥) × (holds_name text table name h ≡ true)

  abbrev Ended : Slot → Type 0
  Ended (Held h) = Holds h
  Ended (Free f) = key_at table f ≡ 0
  Ended Full = Unit {0}

  ends : (left k : ℕ) → Ended (search_from text table name left k)
  unfolding search_from
  ends zero k = tt
  ends (suc left) k = go (eqb (key_at table k) 0) (holds_name text table name k) refl refl (ends left (next_of (slots_of table) k))
    where
      go : (a b : Bool) → eqb (key_at table k) 0 ≡ a → holds_name text table name k ≡ b → Ended (search_from text table name left (next_of (slots_of table) k))
          → Ended (cond a (Free k) (cond b (Held k) (search_from text table name left (next_of (slots_of table) k))))
      go true b ea eb rest = eqb-true (key_at table k) 0 ea
      go false true ea eb rest = (eqb-false (key_at table k) 0 ea, eb)
      go false false ea eb rest = rest

  ended : (r : Slot) → search_in text table name ≡ r → Ended r
  unfolding search_in
  ended r e = subst Ended e (ends (slots_of table) (home_of (key_of name) (slots_of table)))

  pub held-holds : (h : ℕ) → search_in text table name ≡ Held h → Holds h
  held-holds h e = ended (Held h) e

  pub free-empty : (f : ℕ) → search_in text table name ≡ Free f → key_at table f ≡ 0
  free-empty f e = ended (Free f) e

-- ---- one table after another, where a slot that was free is changed
pub record Changed (old new : List ℕ) (j : ℕ) : Type 0 where
  pub slots : slots_of new ≡ slots_of old
  pub free : key_at old j ≡ 0
  pub place : (k : ℕ) → (k ≡ j → ⊥) → place_at new k ≡ place_at old k
  pub key : (k : ℕ) → (k ≡ j → ⊥) → key_at new k ≡ key_at old k
  pub index : (k : ℕ) → (k ≡ j → ⊥) → index_at new k ≡ index_at old k

module _ (text old new : List ℕ) (j : ℕ) (c : Changed old new j) where
  taken-other : (k : ℕ) → (key_at old k ≡ 0 → ⊥) → k ≡ j → ⊥
  taken-other k n e = n (ap (key_at old) e ∙ c.free)

  holds_same : (name : List ℕ) (k : ℕ) → (k ≡ j → ⊥) → holds_name text new name k ≡ holds_name text old name k
  holds_same name k n =
      ap (λ (q : ℕ). eqb q (key_of name) && eq_bytes (name_at text (place_at new k)) name) (c.key k n)
      ∙ ap (λ (p : ℕ). eqb (key_at old k) (key_of name) && eq_bytes (name_at text p) name) (c.place k n)

  -- a slot passed over before is passed over, and one that held the name holds it
  turn-same : (name : List ℕ) (left k : ℕ) → (key_at old k ≡ 0 → ⊥) → search_from text new name (suc left) k
      ≡ cond (holds_name text old name k) (Held k) (search_from text new name left (next_of (slots_of old) k))
  unfolding search_from
  turn-same name left k n =
      let o = taken-other k n in
      ap (λ (t : Bool). cond t (Free k) (cond (holds_name text new name k) (Held k) (search_from text new name left (next_of (slots_of new) k)))) (ne_eqb (key_at new k) 0 (λ z. n (sym (c.key k o) ∙ z)))
      ∙ ap (λ (t : Bool). cond t (Held k) (search_from text new name left (next_of (slots_of new) k))) (holds_same name k o)
      ∙ ap (λ (n : ℕ). cond (holds_name text old name k) (Held k) (search_from text new name left (next_of n k))) c.slots

  -- a search that ended in a slot ends there; one that ended in the changed slot, where that holds the name now
  abbrev Follows : List ℕ → Slot → Slot → Type 0
  Follows name (Held h) r = r ≡ Held h
  Follows name (Free f) r = f ≡ j → Holds text new name j → r ≡ Held j
  Follows name Full r = Unit {0}

  follow : (name : List ℕ) (left k : ℕ) → Follows name (search_from text old name left k) (search_from text new name left k)
  unfolding search_from
  follow name zero k = tt
  follow name (suc left) k = go (eqb (key_at old k) 0) (holds_name text old name k) refl refl (follow name left (next_of (slots_of old) k))
    where
      next : Slot
      next = search_from text new name left (next_of (slots_of old) k)

      go : (a b : Bool) → eqb (key_at old k) 0 ≡ a → holds_name text old name k ≡ b → Follows name (search_from text old name left (next_of (slots_of old) k)) (search_from text new name left (next_of (slots_of old) k))
          → Follows name (cond a (Free k) (cond b (Held k) (search_from text old name left (next_of (slots_of old) k)))) (search_from text new name (suc left) k)
      go true b ea eb rest = λ e h. search-held text new name k (suc left) (λ z. omega arith) (λ z. h.0 (ap (key_at new) (sym e) ∙ z)) (ap (holds_name text new name) e ∙ h.1) ∙ ap Held e
      go false true ea eb rest = turn-same name left k (eqb-false (key_at old k) 0 ea) ∙ ap (λ (t : Bool). cond t (Held k) next) eb
      go false false ea eb rest = subst (Follows name (search_from text old name left (next_of (slots_of old) k))) (sym (turn-same name left k (eqb-false (key_at old k) 0 ea) ∙ ap (λ (t : Bool). cond t (Held k) next) eb)) rest

  followed : (name : List ℕ) → Follows name (search_in text old name) (search_in text new name)
  unfolding search_in
  followed name = subst (λ (n : ℕ). Follows name (search_in text old name) (search_from text new name n (home_of (key_of name) n))) (sym c.slots) (follow name (slots_of old) (home_of (key_of name) (slots_of old)))

  still-held : (name : List ℕ) (h : ℕ) → search_in text old name ≡ Held h → search_in text new name ≡ Held h
  still-held name h e = subst (λ (r : Slot). Follows name r (search_in text new name)) e (followed name)

  now-held : (name : List ℕ) → search_in text old name ≡ Free j → Holds text new name j → search_in text new name ≡ Held j
  now-held name e h = subst (λ (r : Slot). Follows name r (search_in text new name)) e (followed name) refl h

-- ---- a table in which every label is found by its name
abbrev pub Findable : List ℕ → List ℕ → Type 0
Findable text table = (name : List ℕ) (k : ℕ) → k < slots_of table → Holds text table name k → search_in text table name ≡ Held k

module _ (text old new : List ℕ) (j place index : ℕ) (c : Changed old new j) (below : j < slots_of old) (findable : Findable text old)
    (key-is : key_at new j ≡ key_of (name_at text place)) (place_is : place_at new j ≡ place) (index_is : index_at new j ≡ index)
    (named : key_of (name_at text place) ≡ 0 → ⊥) (was_free : search_in text old (name_at text place) ≡ Free j) where
  holds-new : (m : List ℕ) → holds_name text new m j ≡ eq_bytes (name_at text place) m
  holds-new m =
      ap (λ (q : ℕ). eqb q (key_of m) && eq_bytes (name_at text (place_at new j)) m) key-is ∙ ap (λ (p : ℕ). eqb (key_of (name_at text place)) (key_of m) && eq_bytes (name_at text p) m) place_is
      ∙ keyed (name_at text place) m

  new-taken : key_at new j ≡ 0 → ⊥
  new-taken z = named (sym key-is ∙ z)

  new-held : (m : List ℕ) → eq_bytes (name_at text place) m ≡ true → search_in text new m ≡ Held j
  new-held m e = let q = bytes-equal (name_at text place) m e in
      now-held text old new j c m (ap (search_in text old) (sym q) ∙ was_free) (new-taken, holds-new m ∙ e)

  -- what holds a name now held it before, or is the slot that was changed
  holds-old : (m : List ℕ) (k : ℕ) → (k ≡ j → ⊥) → Holds text new m k → Holds text old m k
  holds-old m k n h = (λ z. h.0 (c.key k n ∙ z), sym (holds_same text old new j c m k n) ∙ h.1)

  pub new-findable : Findable text new
  new-findable m k b h = go (eqb k j) refl
    where
      go : (t : Bool) → eqb k j ≡ t → search_in text new m ≡ Held k
      go true e = let q = eqb-true k j e in new-held m (sym (holds-new m) ∙ ap (holds_name text new m) (sym q) ∙ h.1) ∙ ap Held (sym q)
      go false e = still-held text old new j c m k (findable m k (subst (λ (n : ℕ). k < n) c.slots b) (holds-old m k (eqb-false k j e) h))

  -- a name that was not found is found now only if it is the new one
  none-new : (m : List ℕ) (h : ℕ) → eq_bytes (name_at text place) m ≡ false → (search_in text old m ≡ Held h → ⊥) → search_in text new m ≡ Held h → ⊥
  none-new m h t n e = go (eqb h j) refl
    where
      now : Holds text new m h
      now = held-holds text new m h e

      go : (t : Bool) → eqb h j ≡ t → ⊥
      go true q = let f : true ≡ false = sym now.1 ∙ ap (holds_name text new m) (eqb-true h j q) ∙ holds-new m ∙ t in cc
      go false q = n (findable m h (subst (λ (n : ℕ). h < n) c.slots (held_below text new m h e)) (holds-old m h (eqb-false h j q) now))

  pub new-index : (m : List ℕ) → index_in text new m ≡ cond (eq_bytes (name_at text place) m) (Some index) (index_in text old m)
  unfolding index_in
  new-index m = go (eq_bytes (name_at text place) m) (search_in text old m) (search_in text new m) refl refl refl
    where
      go : (t : Bool) (r q : Slot) → eq_bytes (name_at text place) m ≡ t → search_in text old m ≡ r → search_in text new m ≡ q → index_by q new ≡ cond t (Some index) (index_by r old)
      go true r q et er eq = ap (λ (x : Slot). index_by x new) (sym eq ∙ new-held m et) ∙ ap Some index_is
      go false (Held h) q et er eq =
          let was = held-holds text old m h er in
          ap (λ (x : Slot). index_by x new) (sym eq ∙ still-held text old new j c m h er) ∙ ap Some (c.index h (taken-other text old new j c h was.0))
      go false (Free f) (Held h) et er eq = absurd (none-new m h et (λ e. let x = sym er ∙ e in cc) eq)
      go false (Free f) (Free g) et er eq = refl
      go false (Free f) Full et er eq = refl
      go false Full (Held h) et er eq = absurd (none-new m h et (λ e. let x = sym er ∙ e in cc) eq)
      go false Full (Free g) et er eq = refl
      go false Full Full et er eq = refl
