-- What appending a record comes to, from the tests that `append` makes.
use Rattle.std.specs.Prelude.{Err, Ok}
use Prim.Native.Nat.{ℕ, ◌+◌, ◌-◌, ◌<◌, ◌≤◌}
use mathlib.Core.Path.{◌≡◌, refl, sym, ◌∙◌}
use mathlib.Core.Bool.{true, false}
use mathlib.Core.List.{List}
use lib.ListN.{length, set}
use native.Mathlib.Omega.{arith}
use borrow.Author.Tests.{lt-ltb, le-ltb}
use Rattle.refusal.specs.Stops.{refusal_of}
use Rattle.pending.specs.Pending.{room_of, lacks}
use Rattle.pending.proofs.Lists.{no-list, room-left, append-malformed, append-full, append-done}
use Rattle.checks.specs.Records.{listed, answer_to, with_one}
use Rattle.checks.specs.declared.Pending.{Pending}
use Rattle.checks.proofs.Listed.{room-is, listed_more, listed_same, within, not_within}

-- whether one more check fits
module _ (n : ℕ) (l : List Pending) where
  unlent : length l ≡ 0 → lacks (room_of (listed n l)) 1 ≡ false
  unfolding lacks
  unlent h = rw (room-is n l, ← no-list (length l) n h)

  with-room : n < length l → lacks (room_of (listed n l)) 1 ≡ false
  unfolding lacks
  with-room h = rw (room-is n l, ← room-left (length l) n (length l - n) (omega arith) refl) (le-ltb (length l - n) 1 (omega arith))

  without : 0 < length l → length l ≤ n → lacks (room_of (listed n l)) 1 ≡ true
  unfolding lacks
  without h g = rw (room-is n l, ← room-left (length l) n (length l - n) h refl) (lt-ltb (length l - n) 1 (omega arith))

module _ (n : ℕ) (l : List Pending) (p : Pending) where
  -- the list as it was
  stays : with_one p n l ≡ listed n l → listed (with_one p n l).count l ≡ with_one p n l
  stays f = rw f

  adds : with_one p n l ≡ listed (n + 1) (set l n p) → listed (with_one p n l).count (set l n p) ≡ with_one p n l
  adds f = rw f

  pub none-fits : length l < n → (Err (refusal_of 9 0) ≡ answer_to p n l) × (listed (with_one p n l).count l ≡ with_one p n l)
  none-fits h = let m = append-malformed p.value p.bound p.pc (listed n l) (not_within n l h) in (m.0, stays m.1)

  pub one_more : n < length l → (Ok (n + 1) ≡ answer_to p n l) × (listed (with_one p n l).count (set l n p) ≡ with_one p n l)
  one_more h =
      let more = listed_more n l p h in
      let m = append-done p.value p.bound p.pc (listed n l) (within n l (omega arith)) (with-room n l h) in
      (rw (← m.0, ← more), adds (m.1 ∙ sym more))

  pub none-lent : length l ≡ 0 → n ≤ length l → (Ok n ≡ answer_to p n l) × (listed (with_one p n l).count l ≡ with_one p n l)
  none-lent z h =
      let same = listed_same n l p (omega arith) in
      let m = append-done p.value p.bound p.pc (listed n l) (within n l h) (unlent n l z) in
      (rw (← m.0, ← same), stays (m.1 ∙ sym same))

  pub is-full : 0 < length l → n ≤ length l → length l ≤ n
      → (Err (refusal_of 8 p.pc) ≡ answer_to p n l) × (listed (with_one p n l).count l ≡ with_one p n l)
  is-full z h g = let m = append-full p.value p.bound p.pc (listed n l) (within n l h) (without n l z g) in (m.0, stays m.1)
