-- The records and the three lists hold the same.
--     listed-injective      what the three lists hold determines the records
--     fits-is, room-is      the lists' tests, of the room
--     listed_more           a record put at the count is one check more; there is none where there is no room
--     refused-to-empty .. entry-is    what the calls answer, from the tests that they make
use Rattle.std.specs.Prelude.{Err, None, Ok, Some}
use Prim.Native.Nat.{ℕ, zero, suc, ◌+◌, ◌<◌, ◌≤◌}
use mathlib.Core.Path.{◌≡◌, refl, ap, ◌∙◌}
use mathlib.Core.Bool.{true, false}
use mathlib.Core.List.{List, [], ◌∷◌, map}
use lib.Dec.{leb}
use lib.ListN.{length, set, get_or, drop, length-map, get_or-map}
use native.Mathlib.Omega.{arith}
use borrow.Author.Tests.{lt-ltb, le-ltb, eq-eqb, le-leb, lt-leb}
use Rattle.refusal.specs.Stops.{refusal_of}
use Rattle.pending.specs.Pending.{entry, Lists, lists_fit, room_at, room_of, appended, empty_answer, empty_lists, entry_at}
use Rattle.pending.proofs.Lists.{empty-malformed, empty-done, entry-malformed, entry-beyond, entry-there}
use Rattle.checks.specs.Records.{listed}
use Rattle.checks.specs.declared.Pending.{Pending}

abbrev pub made : ℕ → ℕ → ℕ → Pending
made v b pc = record { value = v; bound = b; pc = pc }

-- the record that stands nowhere
abbrev pub none : Pending
none = made 0 0 0

map-set : {A B : Type 0} (f : A → B) (l : List A) (n : ℕ) (a : A) → map f (set l n a) ≡ set (map f l) n (f a)
map-set f [] n a = refl
map-set f (x ∷ xs) zero a = refl
map-set f (x ∷ xs) (suc n) a = ap (λ r. f x ∷ r) (map-set f xs n a)

pub fits-is : (n : ℕ) (l : List Pending) → lists_fit (listed n l) ≡ leb n (length l)
fits-is n l = simp (length-map l (λ (p : Pending). p.value), length-map l (λ (p : Pending). p.bound), length-map l (λ (p : Pending). p.pc), eq-eqb (length l) (length l) refl)

pub room-is : (n : ℕ) (l : List Pending) → room_of (listed n l) ≡ room_at (length l) n
room-is n l = rw (length-map l (λ (p : Pending). p.value))

module _ (n : ℕ) (l : List Pending) (p : Pending) where
  pub listed_more : n < length l → listed (n + 1) (set l n p) ≡ appended p.value p.bound p.pc (listed n l)
  unfolding appended
  listed_more h =
      rw (length-map l (λ (p : Pending). p.value), lt-ltb n (length l) h, map-set (λ (p : Pending). p.value) l n p, map-set (λ (p : Pending). p.bound) l n p, map-set (λ (p : Pending). p.pc) l n p)

  pub listed_same : length l ≤ n → listed n l ≡ appended p.value p.bound p.pc (listed n l)
  unfolding appended
  listed_same h = rw (length-map l (λ (p : Pending). p.value), le-ltb n (length l) h)

module _ (n : ℕ) (l : List Pending) where
  pub not_within : length l < n → lists_fit (listed n l) ≡ false
  not_within h = fits-is n l ∙ lt-leb n (length l) h

  pub within : n ≤ length l → lists_fit (listed n l) ≡ true
  within h = fits-is n l ∙ le-leb n (length l) h

  pub refused-to-empty : length l < n
      → (Err (refusal_of 9 0) ≡ empty_answer (listed n l)) × (listed (empty_lists (listed n l)).count l ≡ empty_lists (listed n l))
  refused-to-empty h = let t = empty-malformed (listed n l) (not_within h) in (t.0, rw (← t.1))

  pub empties : n ≤ length l
      → (Ok 0 ≡ empty_answer (listed n l)) × (listed (empty_lists (listed n l)).count l ≡ empty_lists (listed n l))
  empties h = let t = empty-done (listed n l) (within h) in (t.0, rw (← t.1))

  module _ (i : ℕ) where
    pub refused-to-read : length l < n → Err (refusal_of 9 0) ≡ entry_at i (listed n l)
    refused-to-read h = entry-malformed i (listed n l) (not_within h)

    pub no-entry : n ≤ length l → n ≤ i → Ok None ≡ entry_at i (listed n l)
    no-entry h g = entry-beyond i (listed n l) (within h) g

    pub entry-is : n ≤ length l → i < n
        → Ok (Some (entry (get_or l i none).value (get_or l i none).bound (get_or l i none).pc)) ≡ entry_at i (listed n l)
    entry-is h g =
        rw (← get_or-map (λ (p : Pending). p.value) l i none, ← get_or-map (λ (p : Pending). p.bound) l i none, ← get_or-map (λ (p : Pending). p.pc) l i none)
        (entry-there i (listed n l) (within h) g)

same-record : (v b pc v' b' pc' : ℕ) → v ≡ v' → b ≡ b' → pc ≡ pc' → made v b pc ≡ made v' b' pc'
same-record v b pc v' b' pc' e f g = rw (e, f, g)

same-records : (l k : List Pending) → map (λ (p : Pending). p.value) l ≡ map (λ (p : Pending). p.value) k → map (λ (p : Pending). p.bound) l ≡ map (λ (p : Pending). p.bound) k
    → map (λ (p : Pending). p.pc) l ≡ map (λ (p : Pending). p.pc) k → l ≡ k
same-records [] [] e f g = refl
same-records [] (y ∷ ys) e f g = let z = ap (λ (r : List ℕ). length r) e in absurd (omega arith)
same-records (x ∷ xs) [] e f g = let z = ap (λ (r : List ℕ). length r) e in absurd (omega arith)
same-records (x ∷ xs) (y ∷ ys) e f g =
    ap (λ (p : Pending). p ∷ xs) (same-record _ _ _ _ _ _ (head e) (head f) (head g)) ∙ ap (λ (r : List Pending). y ∷ r) (same-records xs ys (tail e) (tail f) (tail g))
  where
    head : {a b : ℕ} {r s : List ℕ} → (a ∷ r) ≡ (b ∷ s) → a ≡ b
    head h = ap (λ (r : List ℕ). get_or r 0 0) h

    tail : {a b : ℕ} {r s : List ℕ} → (a ∷ r) ≡ (b ∷ s) → r ≡ s
    tail h = ap (λ (r : List ℕ). drop 1 r) h

-- so a promise over `listed` determines the count and the records
pub listed-injective : (n m : ℕ) (l k : List Pending) → listed n l ≡ listed m k → (n ≡ m) × (l ≡ k)
listed-injective n m l k e =
    (ap (λ (x : Lists). x.count) e, same-records l k (ap (λ (x : Lists). x.values) e) (ap (λ (x : Lists). x.bounds) e) (ap (λ (x : Lists). x.pcs) e))
