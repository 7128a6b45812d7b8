-- The bodies of pages against the memory that they are of, each from the other.
use Prim.Native.Nat.{ℕ, zero, suc, ◌+◌, ◌*◌, ◌^◌, ◌<◌, ◌≤◌}
use mathlib.Core.Path.{◌≡◌, refl, ap, sym, ◌∙◌}
use mathlib.Core.Bool.{Bool, true, false, cond, ◌&&◌}
use mathlib.Core.List.{List, [], ◌∷◌, ◌++◌, append_assoc}
use native.Mathlib.Omega.{arith}
use lib.Dec.{leb, eqb}
use lib.ListN.{length, take, drop, length-take, length-drop, length-append, length-replicate, take-append-drop}
use lib.Seq.{take_at, drop_at, drop-drop, get_or-drop}
use borrow.Author.Tests.{eqb-true, eq-eqb, ne_eqb, leb-true, le-leb}
use Rattle.memory.specs.Bytes.{bytes, number_at}
use Rattle.memory.proofs.Numbers.{Small, number-bytes}
use Rattle.layout.proofs.Numbers.{read_next}
use Rattle.layout.proofs.Tests.{both}
use Rattle.checkpoint.specs.Image.{PAGE_BYTES, all_zero}
use Rattle.checkpoint.specs.Pages.{BODY_BYTES, held, body, bodies}
use Rattle.checkpoint.specs.Tests.{blank, stands, page_from, reach_of, idle, fill_pages, memory_from}

pub blank-long : (n : ℕ) → length (blank n) ≡ n
unfolding blank
blank-long n = length-replicate n 0

pub blank-zero : (n : ℕ) → all_zero (blank n) ≡ true
unfolding blank all_zero
blank-zero zero = refl
blank-zero (suc n) = blank-zero n

-- a page of blank
pub zero_is : (n : ℕ) (p : List ℕ) → length p ≡ n → all_zero p ≡ true → p ≡ blank n
unfolding blank all_zero
zero_is zero [] l z = refl
zero_is zero (x ∷ p) l z = absurd (omega arith)
zero_is (suc n) [] l z = absurd (omega arith)
zero_is (suc n) (x ∷ p) l z =
    let two = both (eqb x 0) (all_zero p) z in
    rw (eqb-true x 0 two.0, zero_is n p (omega arith) two.1)

pub page-long : (m : List ℕ) → PAGE_BYTES ≤ length m → length (take PAGE_BYTES m) ≡ PAGE_BYTES
page-long m h = simp length-take (omega arith)

pub rest-long : (n : ℕ) (m : List ℕ) → length m ≡ PAGE_BYTES * suc n → length (drop PAGE_BYTES m) ≡ PAGE_BYTES * n
rest-long n m h = simp length-drop (omega arith)

pub held-le : (n : ℕ) (m : List ℕ) → held n m ≤ n
unfolding held
held-le zero m = omega arith
held-le (suc n) m = by (all_zero (take PAGE_BYTES m)) (held-le n (drop PAGE_BYTES m))
  where
    by : (t : Bool) {k : ℕ} → k ≤ n → cond t 0 1 + k ≤ suc n
    by true h = omega arith
    by false h = omega arith

pub length-bytes-8 : (v : ℕ) → length (bytes 8 v) ≡ 8
unfolding bytes
length-bytes-8 v = refl

pub bodies-long : (n at : ℕ) (m : List ℕ) → length m ≡ PAGE_BYTES * n → length (bodies n at m) ≡ BODY_BYTES * held n m
unfolding held bodies body
bodies-long zero at m h = refl
bodies-long (suc n) at m h =
    let rest = drop PAGE_BYTES m in
    by (all_zero (take PAGE_BYTES m)) (bodies n (at + PAGE_BYTES) rest) (held n rest) (bodies-long n (at + PAGE_BYTES) rest (rest-long n m h))
  where
    by : (t : Bool) (r : List ℕ) (k : ℕ) → length r ≡ BODY_BYTES * k → length (cond t [] (bytes 8 at ++ take PAGE_BYTES m) ++ r) ≡ BODY_BYTES * (cond t 0 1 + k)
    by true r k e = omega arith
    by false r k e = simp (length-append, length-bytes-8, page-long m (omega arith)) (omega arith)

-- which body stands first
module _ (at : ℕ) (fits : at < 2 ^ 64) (p rest : List ℕ) where
  first-number : number_at 8 ((bytes 8 at ++ p) ++ rest) 0 ≡ at
  first-number = rw (append_assoc, take_at (bytes 8 at) (p ++ rest) 8 (length-bytes-8 at)) (number-bytes 8 at fits)

  first-stands : length p ≡ PAGE_BYTES → stands at ((bytes 8 at ++ p) ++ rest) ≡ true
  unfolding stands
  first-stands l =
      let long : BODY_BYTES ≤ length ((bytes 8 at ++ p) ++ rest) = simp (length-append, length-bytes-8) (omega arith) in
      rw (le-leb _ _ long, first-number, eq-eqb at at refl)

  -- and what comes after its number, and after it
  first-page : length p ≡ PAGE_BYTES → take PAGE_BYTES (drop 8 ((bytes 8 at ++ p) ++ rest)) ≡ p
  first-page l = rw (append_assoc, drop_at (bytes 8 at) (p ++ rest) 8 (length-bytes-8 at)) (take_at p rest PAGE_BYTES l)

  first_rest : length p ≡ PAGE_BYTES → drop BODY_BYTES ((bytes 8 at ++ p) ++ rest) ≡ rest
  first_rest l = drop_at (bytes 8 at ++ p) rest BODY_BYTES (simp (length-append, length-bytes-8) (omega arith))

and-false : (t : Bool) → (t && false) ≡ false
and-false true = refl
and-false false = refl

-- no body of a lower address stands among those of higher ones
later : (n at next : ℕ) (m : List ℕ) → at < next → next + PAGE_BYTES * n < 2 ^ 64 → length m ≡ PAGE_BYTES * n → stands at (bodies n next m) ≡ false
unfolding bodies body stands
later zero at next m h fits l = refl
later (suc n) at next m h fits l =
    let rest = drop PAGE_BYTES m in
    by (all_zero (take PAGE_BYTES m)) (bodies n (next + PAGE_BYTES) rest) (later n at (next + PAGE_BYTES) rest (omega arith) (omega arith) (rest-long n m l))
  where
    by : (t : Bool) (r : List ℕ) → stands at r ≡ false → stands at (cond t [] (bytes 8 next ++ take PAGE_BYTES m) ++ r) ≡ false
    by true r e = e
    by false r e =
        let w = (bytes 8 next ++ take PAGE_BYTES m) ++ r in
        rw (first-number next (omega arith) (take PAGE_BYTES m) r, ne_eqb next at (λ q. omega arith)) (and-false (leb BODY_BYTES (length w)))

-- the bodies of a memory fill its pages, and give it back
module _ (rest : List ℕ) (at : ℕ) where
  pub fill-held : (n : ℕ) → stands at rest ≡ true → all_zero (take PAGE_BYTES (drop 8 rest)) ≡ false
      → fill_pages (suc n) at rest ≡ fill_pages n (at + PAGE_BYTES) (drop BODY_BYTES rest)
  unfolding fill_pages idle reach_of
  fill-held n s z = rw (s, z)

  pub fill-zero : (n : ℕ) → stands at rest ≡ true → all_zero (take PAGE_BYTES (drop 8 rest)) ≡ true → fill_pages (suc n) at rest ≡ false
  unfolding fill_pages idle
  fill-zero n s z = rw (s, z)

  pub fill-passed : (n : ℕ) → stands at rest ≡ false → fill_pages (suc n) at rest ≡ fill_pages n (at + PAGE_BYTES) rest
  unfolding fill_pages idle reach_of
  fill-passed n s = rw s

  pub memory-held : (n : ℕ) → stands at rest ≡ true
      → memory_from (suc n) at rest ≡ take PAGE_BYTES (drop 8 rest) ++ memory_from n (at + PAGE_BYTES) (drop BODY_BYTES rest)
  unfolding memory_from page_from reach_of
  memory-held n s = rw s

  pub memory-passed : (n : ℕ) → stands at rest ≡ false → memory_from (suc n) at rest ≡ blank PAGE_BYTES ++ memory_from n (at + PAGE_BYTES) rest
  unfolding memory_from page_from reach_of
  memory-passed n s = rw s

module _ (m : List ℕ) (at n : ℕ) where
  bodies-held : all_zero (take PAGE_BYTES m) ≡ false → bodies (suc n) at m ≡ (bytes 8 at ++ take PAGE_BYTES m) ++ bodies n (at + PAGE_BYTES) (drop PAGE_BYTES m)
  unfolding bodies body
  bodies-held z = rw z

  bodies-passed : all_zero (take PAGE_BYTES m) ≡ true → bodies (suc n) at m ≡ bodies n (at + PAGE_BYTES) (drop PAGE_BYTES m)
  unfolding bodies body
  bodies-passed z = rw z

abbrev GivesBack : ℕ → ℕ → List ℕ → Type 0
GivesBack n at m = (fill_pages n at (bodies n at m) ≡ true) × (memory_from n at (bodies n at m) ≡ m)

none-fill : (at : ℕ) (m : List ℕ) → length m ≡ 0 → GivesBack zero at m
unfolding fill_pages memory_from bodies
none-fill at [] l = (refl, refl)
none-fill at (x ∷ m) l = absurd (omega arith)

pub bodies-fill : (n at : ℕ) (m : List ℕ) → at + PAGE_BYTES * n < 2 ^ 64 → length m ≡ PAGE_BYTES * n → GivesBack n at m
bodies-fill zero at m fits l = none-fill at m l
bodies-fill (suc n) at m fits l =
    by (bodies-fill n (at + PAGE_BYTES) (drop PAGE_BYTES m) (omega arith) (rest-long n m l)) (all_zero (take PAGE_BYTES m)) refl
  where
    by : GivesBack n (at + PAGE_BYTES) (drop PAGE_BYTES m) → (t : Bool) → all_zero (take PAGE_BYTES m) ≡ t → GivesBack (suc n) at m
    by ih true z =
        let rest = bodies n (at + PAGE_BYTES) (drop PAGE_BYTES m) in
        let long = rest-long n m l in
        let off = later n at (at + PAGE_BYTES) (drop PAGE_BYTES m) (omega arith) (omega arith) long in
        let page = zero_is PAGE_BYTES (take PAGE_BYTES m) (page-long m (omega arith)) z in
        rw (bodies-passed m at n z) (fill-passed rest at n off ∙ ih.0, memory-passed rest at n off ∙ rw (ih.1, ← page) (take-append-drop PAGE_BYTES m))
    by ih false z =
        let p = take PAGE_BYTES m in
        let rest = bodies n (at + PAGE_BYTES) (drop PAGE_BYTES m) in
        let long = rest-long n m l in
        let size = page-long m (omega arith) in
        let fit : at < 2 ^ 64 = omega arith in
        let whole = (bytes 8 at ++ p) ++ rest in
        let on = first-stands at fit p rest size in
        rw (bodies-held m at n z) (
          fill-held whole at n on (rw (first-page at fit p rest size) z) ∙ rw (first_rest at fit p rest size) ih.0,
          memory-held whole at n on ∙ rw (first-page at fit p rest size, first_rest at fit p rest size, ih.1) (take-append-drop PAGE_BYTES m),
        )

-- and what fills pages are the bodies of those
pub stands-is : (at : ℕ) (rest : List ℕ) → stands at rest ≡ true → (BODY_BYTES ≤ length rest) × (at ≡ number_at 8 rest 0)
unfolding stands
stands-is at rest s =
    let two = both (leb BODY_BYTES (length rest)) (eqb (number_at 8 rest 0) at) s in
    (leb-true _ _ two.0, sym (eqb-true _ _ two.1))

memory-none : (at : ℕ) (rest : List ℕ) → length (memory_from zero at rest) ≡ 0
unfolding memory_from
memory-none at rest = refl

pub memory-long : (n at : ℕ) (rest : List ℕ) → length (memory_from n at rest) ≡ PAGE_BYTES * n
memory-long zero at rest = memory-none at rest
memory-long (suc n) at rest = by (memory-long n (at + PAGE_BYTES)) (stands at rest) refl
  where
    by : ((rest : List ℕ) → length (memory_from n (at + PAGE_BYTES) rest) ≡ PAGE_BYTES * n) → (t : Bool) → stands at rest ≡ t
        → length (memory_from (suc n) at rest) ≡ PAGE_BYTES * suc n
    by ih true s =
        let size : length (take PAGE_BYTES (drop 8 rest)) ≡ PAGE_BYTES = simp (length-take, length-drop) (omega (arith, (stands-is at rest s).0)) in
        rw (memory-held rest at n s) (simp (length-append, size, ih (drop BODY_BYTES rest)) (omega arith))
    by ih false s = rw (memory-passed rest at n s) (simp (length-append, blank-long PAGE_BYTES, ih rest) (omega arith))

none-bodies : (at : ℕ) (rest : List ℕ) → fill_pages zero at rest ≡ true → bodies zero at (memory_from zero at rest) ≡ rest
unfolding fill_pages bodies memory_from
none-bodies at [] t = refl
none-bodies at (x ∷ rest) t = absurd (omega (arith, eqb-true (suc (length rest)) 0 t))

abbrev Filled : ℕ → ℕ → Type 0
Filled n at = (rest : List ℕ) → Small rest → fill_pages n at rest ≡ true → bodies n at (memory_from n at rest) ≡ rest

pub filled-bodies : (n at : ℕ) → Filled n at
filled-bodies zero at rest small t = none-bodies at rest t
filled-bodies (suc n) at rest small t = by (filled-bodies n (at + PAGE_BYTES)) (stands at rest) refl
  where
    held_by : Filled n (at + PAGE_BYTES) → (z : Bool) → all_zero (take PAGE_BYTES (drop 8 rest)) ≡ z → stands at rest ≡ true
        → bodies (suc n) at (memory_from (suc n) at rest) ≡ rest
    held_by ih true z s =
        let e : ◌≡◌ {A = Bool} true false = sym t ∙ fill-zero rest at n s z in
        absurd (let q : ◌≡◌ {A = ℕ} 0 1 = cc in omega arith)
    held_by more false z s =
        let is = stands-is at rest s in
        let p = take PAGE_BYTES (drop 8 rest) in
        let next = drop BODY_BYTES rest in
        let mem = memory_from n (at + PAGE_BYTES) next in
        let size : length p ≡ PAGE_BYTES = simp (length-take, length-drop) (omega arith) in
        let front : take PAGE_BYTES (p ++ mem) ≡ p = take_at p mem PAGE_BYTES size in
        let back : drop PAGE_BYTES (p ++ mem) ≡ mem = drop_at p mem PAGE_BYTES size in
        let ih : bodies n (at + PAGE_BYTES) mem ≡ next = more next (λ k. rw get_or-drop (small (BODY_BYTES + k))) (sym (fill-held rest at n s z) ∙ t) in
        let joined : p ++ next ≡ drop 8 rest =
        ap (λ (l : List ℕ). p ++ l) (sym (drop-drop PAGE_BYTES 8 rest)) ∙ take-append-drop PAGE_BYTES (drop 8 rest)
        in
        rw (memory-held rest at n s) (bodies-held (p ++ mem) at n (rw front z)
        ∙ rw (front, back, ih, append_assoc, joined) (read_next 8 rest 0 8 small refl (omega arith) is.1))

    by : Filled n (at + PAGE_BYTES) → (t : Bool) → stands at rest ≡ t → bodies (suc n) at (memory_from (suc n) at rest) ≡ rest
    by more true s = held_by more (all_zero (take PAGE_BYTES (drop 8 rest))) refl s
    by more false s =
        let p = blank PAGE_BYTES in
        let mem = memory_from n (at + PAGE_BYTES) rest in
        let front : take PAGE_BYTES (p ++ mem) ≡ p = take_at p mem PAGE_BYTES (blank-long PAGE_BYTES) in
        let back : drop PAGE_BYTES (p ++ mem) ≡ mem = drop_at p mem PAGE_BYTES (blank-long PAGE_BYTES) in
        rw (memory-passed rest at n s) (bodies-passed (p ++ mem) at n (rw front (blank-zero PAGE_BYTES))
        ∙ rw back (more rest small (sym (fill-passed rest at n s) ∙ t)))
