-- The cases of the pending lists, from the tests that the code makes.
use Rattle.std.specs.Prelude.{None, Some, Err, Ok}
use Prim.Native.Nat.{ℕ, ◌+◌, ◌-◌, ◌<◌, ◌≤◌}
use mathlib.Core.Path.{◌≡◌, refl, sym}
use mathlib.Core.Bool.{Bool, true, false, cond, ◌&&◌}
use mathlib.Core.List.{List, [], ◌∷◌}
use lib.ListN.{length, set, get_or}
use native.Mathlib.Omega.{arith}
use lib.Dec.{leb, eqb}
use borrow.Author.Tests.{lt-ltb, le-ltb, ltb-true, eqb-true, eq-eqb, ne_eqb, leb-true}
use Rattle.refusal.specs.Stops.{refusal_of}
use Rattle.pending.specs.declared.Check.{Check}
use Rattle.pending.specs.Pending.{Lists, lists, entry, listing, lists_fit, room_at, room_of, lacks, appended, append_answer, append_lists, empty_answer, empty_lists, entry_at}
use Rattle.pending.specs.declared.Room.TheVariants.{Unlent, Left}

-- the room from the tests that the code makes
pub no-list : (len count : ℕ) → len ≡ 0 → Unlent ≡ room_at len count
unfolding room_at
no-list len count e = rw (eq-eqb len 0 e)

pub room-left : (len count left : ℕ) → 0 < len → left ≡ len - count → Left left ≡ room_at len count
unfolding room_at
room-left len count left h e = rw (ne_eqb len 0 (λ z. omega (arith, z)), e)

no_room : (len count : ℕ) → lacks (room_at len count) 1 ≡ true → len ≤ count
unfolding lacks room_at
no_room len count e = told (eqb len 0) e
  where
    told : (t : Bool) → lacks (cond t Unlent (Left (len - count))) 1 ≡ true → len ≤ count
    told true f = let z : ◌≡◌ {A = ℕ} 0 1 = cc in absurd (omega arith)
    told false f = let h : len - count < 1 = ltb-true _ _ f in omega arith

module _ (v b pc : ℕ) (l : Lists) where
  pub no_place : length l.values ≤ l.count → l ≡ appended v b pc l
  unfolding appended
  no_place h = rw (le-ltb l.count (length l.values) h)

  pub a-place : l.count < length l.values
      → lists (l.count + 1) (set l.values l.count v) (set l.bounds l.count b) (set l.pcs l.count pc) ≡ appended v b pc l
  unfolding appended
  a-place h = rw (lt-ltb l.count (length l.values) h)

  pub append-malformed : lists_fit l ≡ false → (Err (refusal_of 9 0) ≡ append_answer v b pc l) × (append_lists v b pc l ≡ l)
  unfolding append_answer append_lists
  append-malformed e = rw e (refl, refl)

  pub append-full : lists_fit l ≡ true → lacks (room_of l) 1 ≡ true → (Err (refusal_of 8 pc) ≡ append_answer v b pc l) × (append_lists v b pc l ≡ l)
  unfolding append_answer append_lists
  append-full e f = rw (e, f) (refl, sym (no_place (no_room (length l.values) l.count f)))

  pub append-done : lists_fit l ≡ true → lacks (room_of l) 1 ≡ false
      → (Ok (appended v b pc l).count ≡ append_answer v b pc l) × (append_lists v b pc l ≡ appended v b pc l)
  unfolding append_answer append_lists
  append-done e f = rw (e, f) (refl, refl)

module _ (l : Lists) where
  pub empty-malformed : lists_fit l ≡ false → (Err (refusal_of 9 0) ≡ empty_answer l) × (l ≡ empty_lists l)
  unfolding empty_answer empty_lists
  empty-malformed e = rw e (refl, refl)

  pub empty-done : lists_fit l ≡ true → (Ok 0 ≡ empty_answer l) × (lists 0 l.values l.bounds l.pcs ≡ empty_lists l)
  unfolding empty_answer empty_lists
  empty-done e = rw e (refl, refl)

module _ (n : ℕ) (l : Lists) where
  pub entry-malformed : lists_fit l ≡ false → Err (refusal_of 9 0) ≡ entry_at n l
  unfolding entry_at
  entry-malformed e = rw e

  pub entry-beyond : lists_fit l ≡ true → l.count ≤ n → Ok None ≡ entry_at n l
  unfolding entry_at
  entry-beyond e h = rw (e, le-ltb n l.count h)

  pub entry-there : lists_fit l ≡ true → n < l.count → Ok (Some (entry (get_or l.values n 0) (get_or l.bounds n 0) (get_or l.pcs n 0))) ≡ entry_at n l
  unfolding entry_at
  entry-there e h = rw (e, lt-ltb n l.count h)

-- the test, as facts
pub fits-mean : (l : Lists) → lists_fit l ≡ true
    → (length l.bounds ≡ length l.values) × (length l.pcs ≡ length l.values) × (l.count ≤ length l.values)
fits-mean l e = told (eqb (length l.bounds) (length l.values)) (eqb (length l.pcs) (length l.values)) refl refl e
  where
    told : (a b : Bool) → eqb (length l.bounds) (length l.values) ≡ a → eqb (length l.pcs) (length l.values) ≡ b
        → (a && b && leb l.count (length l.values)) ≡ true
        → (length l.bounds ≡ length l.values) × (length l.pcs ≡ length l.values) × (l.count ≤ length l.values)
    told true true p q t = (eqb-true _ _ p, eqb-true _ _ q, leb-true _ _ t)
    told true false p q t = let z : ◌≡◌ {A = ℕ} 0 1 = cc in absurd (omega arith)
    told false b p q t = let z : ◌≡◌ {A = ℕ} 0 1 = cc in absurd (omega arith)

-- where no list is lent, nothing is listed
no-list-lent : (len count : ℕ) → room_at len count ≡ Unlent → len ≡ 0
unfolding room_at
no-list-lent len count e = told (eqb len 0) refl e
  where
    told : (t : Bool) → eqb len 0 ≡ t → cond t Unlent (Left (len - count)) ≡ Unlent → len ≡ 0
    told true q f = eqb-true _ _ q
    told false q f = let z : ◌≡◌ {A = ℕ} 0 1 = cc in absurd (omega arith)

pub unlent-stays : (cs : List Check) (pc : ℕ) (l : Lists) → room_of l ≡ Unlent → listing cs pc l ≡ l
unfolding listing
unlent-stays [] pc l e = refl
unlent-stays (c ∷ cs) pc l e =
    let z = no-list-lent (length l.values) l.count e in
    rw (← no_place c.value c.bound pc l (omega (arith, z))) (unlent-stays cs pc l e)
