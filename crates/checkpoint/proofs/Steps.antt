-- One more page, or one more entry of the table: what is left to do from here gives the whole.
use Prim.Native.Nat.{ℕ, zero, suc, ◌+◌, ◌-◌, ◌*◌, ◌%◌, ◌<◌, ◌≤◌}
use mathlib.Core.Path.{◌≡◌, refl, ap, sym, ◌∙◌}
use mathlib.Core.Bool.{true, false, cond}
use mathlib.Core.List.{List, [], ◌++◌}
use native.Mathlib.Omega.{arith}
use lib.Dec.{eqb}
use lib.ListN.{length, take, drop, replicate, length-append, length-drop, length-take}
use lib.Seq.{sets, sets-eq, drop-drop, take_at, take_all, drop_at}
use Rattle.std.proofs.lemmas.Slice.{put_mid-paste}
use borrow.Rule.Slice.PartMut.{put_mid}
use Rattle.memory.specs.Bytes.{bytes}
use Rattle.layout.specs.Layout.{STATE_BYTES}
use Rattle.layout.proofs.Rows.{sets-next}
use Rattle.checkpoint.specs.Image.{PAGE_BYTES, all_zero, pages_of}
use Rattle.checkpoint.specs.Pages.{BODY_BYTES, held, body, bodies, table_entry, entries, table_bytes, table_of}
use Rattle.checkpoint.specs.Tests.{blank, stands, fill_pages, memory_from}
use Rattle.checkpoint.proofs.Pages.{blank-long, fill-held, fill-zero, fill-passed, memory-held, memory-passed}
use Rattle.checkpoint.proofs.Images.{length-entry, length-table}

-- the table
pub entries-more : (into : List ℕ) (n offset i : ℕ) → i < n
    → sets into (16 + 12 * i) (entries (n - i) (offset + BODY_BYTES * i))
    ≡ sets (sets into (16 + 12 * i) (table_entry 2 (offset + BODY_BYTES * i) BODY_BYTES)) (16 + 12 * (i + 1)) (entries (n - (i + 1)) (offset + BODY_BYTES * (i + 1)))
unfolding entries
entries-more into n offset i h =
    let e : n - i ≡ suc (n - (i + 1)) = omega arith in
    let d : offset + BODY_BYTES * (i + 1) ≡ offset + BODY_BYTES * i + BODY_BYTES = omega arith in
    let f : 16 + 12 * i + length (table_entry 2 (offset + BODY_BYTES * i) BODY_BYTES) ≡ 16 + 12 * (i + 1) = omega (arith, length-entry 2 (offset + BODY_BYTES * i) BODY_BYTES) in
    rw (e, d) (sym (sets-next into (16 + 12 * i) (16 + 12 * (i + 1)) (table_entry 2 (offset + BODY_BYTES * i) BODY_BYTES) _ f))

pub entries_none : (n i offset : ℕ) → n ≤ i → entries (n - i) offset ≡ []
unfolding entries
entries_none n i offset h = let e : n - i ≡ zero = omega arith in rw e

four : (v : ℕ) → 0 + length (bytes 4 v) ≡ 4
unfolding bytes
four v = refl

pub table-stored : (into : List ℕ) (n : ℕ)
    → sets (sets (sets into 0 (bytes 4 (n + 1))) 4 (table_entry 1 (table_bytes n) STATE_BYTES)) 16 (entries n (table_bytes n + STATE_BYTES)) ≡ sets into 0 (table_of n)
unfolding table_of
table-stored into n =
    sets-next (sets into 0 (bytes 4 (n + 1))) 4 16 (table_entry 1 (table_bytes n) STATE_BYTES) (entries n (table_bytes n + STATE_BYTES)) (rw length-entry refl)
    ∙ sets-next into 0 4 (bytes 4 (n + 1)) (table_entry 1 (table_bytes n) STATE_BYTES ++ entries n (table_bytes n + STATE_BYTES)) (four (n + 1))

pub table_front : (l after : List ℕ) (n : ℕ) → after ≡ sets l 0 (table_of n) → table_bytes n ≤ length l → take (table_bytes n) after ≡ table_of n
table_front l after n stored room =
    let v = table_of n in
    let fits : 0 + length v ≤ length l = omega (arith, length-table n) in
    rw (stored, sets-eq v l 0 fits) (take_at v (drop (0 + length v) l) (table_bytes n) (length-table n))

eight : (v : ℕ) → length (bytes 8 v) ≡ 8
unfolding bytes
eight v = refl

-- a part written
pub put_mid-sets : (xs ys : List ℕ) (at k : ℕ) → at + k ≤ length xs → length ys ≡ k → put_mid at k xs ys ≡ sets xs at ys
put_mid-sets xs ys at k room long =
    let fits : at + length ys ≤ length xs = omega arith in
    put_mid-paste at k xs ys ys k refl refl (sym long) ∙ rw (sets-eq ys xs at fits, long, take_all k ys (omega arith))

pub part-long : (xs : List ℕ) (at k : ℕ) → at + k ≤ length xs → length (take k (drop at xs)) ≡ k
part-long xs at k room = simp (length-take, length-drop) (omega arith)

pub blank-is : (n k : ℕ) → n ≡ k → replicate n 0 ≡ blank k
unfolding blank
blank-is n k e = rw e

-- the pages of an image, taken one by one
module _ (rest : List ℕ) (n i : ℕ) where
  pub fill_end : n ≤ i → eqb (length rest) 0 ≡ fill_pages (n - i) (PAGE_BYTES * i) rest
  unfolding fill_pages
  fill_end h = let e : n - i ≡ zero = omega arith in rw e

  pub memory-end : n ≤ i → memory_from (n - i) (PAGE_BYTES * i) rest ≡ []
  unfolding memory_from
  memory-end h = let e : n - i ≡ zero = omega arith in rw e

  module _ (h : i < n) where
    more : n - i ≡ suc (n - (i + 1))
    more = omega arith

    next : PAGE_BYTES * (i + 1) ≡ PAGE_BYTES * i + PAGE_BYTES
    next = omega arith

    pub fill_passed : stands (PAGE_BYTES * i) rest ≡ false
        → fill_pages (n - i) (PAGE_BYTES * i) rest ≡ fill_pages (n - (i + 1)) (PAGE_BYTES * (i + 1)) rest
    fill_passed s = rw (more, next) (fill-passed rest (PAGE_BYTES * i) (n - (i + 1)) s)

    pub fill_zero : stands (PAGE_BYTES * i) rest ≡ true → all_zero (take PAGE_BYTES (drop 8 rest)) ≡ true
        → fill_pages (n - i) (PAGE_BYTES * i) rest ≡ false
    fill_zero s z = rw more (fill-zero rest (PAGE_BYTES * i) (n - (i + 1)) s z)

    pub fill_held : stands (PAGE_BYTES * i) rest ≡ true → all_zero (take PAGE_BYTES (drop 8 rest)) ≡ false
        → fill_pages (n - i) (PAGE_BYTES * i) rest ≡ fill_pages (n - (i + 1)) (PAGE_BYTES * (i + 1)) (drop BODY_BYTES rest)
    fill_held s z = rw (more, next) (fill-held rest (PAGE_BYTES * i) (n - (i + 1)) s z)

    pub memory_passed : (m : List ℕ) → stands (PAGE_BYTES * i) rest ≡ false
        → sets (sets m (PAGE_BYTES * i) (blank PAGE_BYTES)) (PAGE_BYTES * (i + 1)) (memory_from (n - (i + 1)) (PAGE_BYTES * (i + 1)) rest)
        ≡ sets m (PAGE_BYTES * i) (memory_from (n - i) (PAGE_BYTES * i) rest)
    memory_passed m s =
        rw (more, memory-passed rest (PAGE_BYTES * i) (n - (i + 1)) s, ← next)
        (sets-next m (PAGE_BYTES * i) (PAGE_BYTES * (i + 1)) (blank PAGE_BYTES) _ (omega (arith, blank-long PAGE_BYTES)))

    pub memory_held : (m : List ℕ) → stands (PAGE_BYTES * i) rest ≡ true → length (take PAGE_BYTES (drop 8 rest)) ≡ PAGE_BYTES
        → sets (sets m (PAGE_BYTES * i) (take PAGE_BYTES (drop 8 rest))) (PAGE_BYTES * (i + 1)) (memory_from (n - (i + 1)) (PAGE_BYTES * (i + 1)) (drop BODY_BYTES rest))
        ≡ sets m (PAGE_BYTES * i) (memory_from (n - i) (PAGE_BYTES * i) rest)
    memory_held m s long =
        rw (more, memory-held rest (PAGE_BYTES * i) (n - (i + 1)) s, ← next)
        (sets-next m (PAGE_BYTES * i) (PAGE_BYTES * (i + 1)) (take PAGE_BYTES (drop 8 rest)) _ (omega arith))

-- the pages of a memory, one by one
pub held_more : (s x t : List ℕ) → s ≡ x ++ t → length x ≡ PAGE_BYTES → length s % PAGE_BYTES ≡ 0
    → (length t % PAGE_BYTES ≡ 0) × (held (pages_of s) s ≡ cond (all_zero x) 0 1 + held (pages_of t) t)
unfolding held
held_more s x t is long whole =
    let size : length s ≡ length x + length t = rw is (length-append x t) in
    let count : pages_of s ≡ suc (pages_of t) = omega arith in (
      omega arith,
      rw (count, is, take_at x t PAGE_BYTES long, drop_at x t PAGE_BYTES long),
    )

pub held-end : (s : List ℕ) → length s < PAGE_BYTES → held (pages_of s) s ≡ 0
unfolding held
held-end s h = let e : pages_of s ≡ zero = omega arith in rw e

module _ (m : List ℕ) (n i : ℕ) where
  pub bodies-more : i < n
      → bodies (n - i) (PAGE_BYTES * i) (drop (PAGE_BYTES * i) m)
      ≡ body (PAGE_BYTES * i) (take PAGE_BYTES (drop (PAGE_BYTES * i) m)) ++ bodies (n - (i + 1)) (PAGE_BYTES * (i + 1)) (drop (PAGE_BYTES * (i + 1)) m)
  unfolding bodies
  bodies-more h =
      let e : n - i ≡ suc (n - (i + 1)) = omega arith in
      let d : PAGE_BYTES * (i + 1) ≡ PAGE_BYTES * i + PAGE_BYTES = omega arith in
      rw (e, d, drop-drop PAGE_BYTES (PAGE_BYTES * i) m)

  pub bodies-size : i < n
      → length (bodies (n - i) (PAGE_BYTES * i) (drop (PAGE_BYTES * i) m))
      ≡ length (body (PAGE_BYTES * i) (take PAGE_BYTES (drop (PAGE_BYTES * i) m))) + length (bodies (n - (i + 1)) (PAGE_BYTES * (i + 1)) (drop (PAGE_BYTES * (i + 1)) m))
  bodies-size h = rw (bodies-more h, length-append)

  pub bodies-stored : (image : List ℕ) (place next : ℕ) → i < n → next ≡ place + length (body (PAGE_BYTES * i) (take PAGE_BYTES (drop (PAGE_BYTES * i) m)))
      → sets (sets image place (body (PAGE_BYTES * i) (take PAGE_BYTES (drop (PAGE_BYTES * i) m)))) next (bodies (n - (i + 1)) (PAGE_BYTES * (i + 1)) (drop (PAGE_BYTES * (i + 1)) m))
      ≡ sets image place (bodies (n - i) (PAGE_BYTES * i) (drop (PAGE_BYTES * i) m))
  bodies-stored image place next h e = rw (bodies-more h) (sets-next image place next _ _ (sym e))

  pub bodies-end : n ≤ i → bodies (n - i) (PAGE_BYTES * i) (drop (PAGE_BYTES * i) m) ≡ []
  unfolding bodies
  bodies-end h = let e : n - i ≡ zero = omega arith in rw e

-- the body of a page
module _ (at : ℕ) (page : List ℕ) where
  pub body-none : all_zero page ≡ true → body at page ≡ []
  unfolding body
  body-none z = rw z

  pub body-some : all_zero page ≡ false → body at page ≡ bytes 8 at ++ page
  unfolding body
  body-some z = rw z

  pub body-size : length page ≡ PAGE_BYTES → all_zero page ≡ false → length (body at page) ≡ BODY_BYTES
  unfolding bytes
  body-size l z = rw (body-some z, length-append) (ap (λ (n : ℕ). 8 + n) l)

  pub body-stored : (image : List ℕ) (place : ℕ) → all_zero page ≡ false
      → sets (sets image place (bytes 8 at)) (place + 8) page ≡ sets image place (body at page)
  body-stored image place z = rw (body-some z) (sets-next image place (place + 8) (bytes 8 at) page (ap (λ (n : ℕ). place + n) (eight at)))
