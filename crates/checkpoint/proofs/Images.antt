-- What an image that passes holds, and that it is the image of just that.
use Prim.Native.Nat.{ℕ, zero, suc, ◌+◌, ◌-◌, ◌*◌, ◌%◌, ◌≤◌}
use mathlib.Core.Path.{◌≡◌, refl, ap, sym, ◌∙◌}
use mathlib.Core.Bool.{Bool, true, false, cond}
use mathlib.Core.List.{List, [], ◌∷◌, ◌++◌, append_assoc}
use native.Mathlib.Omega.{arith}
use lib.ListN.{length, take, drop, length-drop, length-append, take-append-drop}
use lib.Seq.{take_at, drop_at, drop-drop, get_or-drop}
use Rattle.std.proofs.lemmas.Slice.Eq.{bytes_eq-Decides}
use borrow.Author.Tests.{eqb-true, eq-eqb, leb-true, le-leb}
use Rattle.memory.specs.Bytes.{bytes}
use Rattle.layout.specs.Layout.{STATE_BYTES, well_laid, admissible}
use Rattle.memory.proofs.Numbers.{Small}
use Rattle.layout.proofs.Tests.{both}
use Rattle.checkpoint.specs.Image.{Part, entries_of, bodies_of, image_of_parts, state_part, PAGE_BYTES, all_zero, page_part, page_parts, pages_of, image_of}
use Rattle.checkpoint.specs.Pages.{BODY_BYTES, held, body, bodies, table_entry, entries, table_bytes, table_of}
use Rattle.checkpoint.specs.Tests.{fill_pages, memory_from, LEAST, MORE, pages_in, state_at, bodies_at, passes}
use Rattle.checkpoint.proofs.Pages.{page-long, rest-long, held-le, length-bytes-8, bodies-long, bodies-fill, memory-long, filled-bodies}

pub length-entry : (k o s : ℕ) → length (table_entry k o s) ≡ 12
unfolding table_entry bytes
length-entry k o s = refl

pub length-entries : (n o : ℕ) → length (entries n o) ≡ 12 * n
unfolding entries
length-entries zero o = refl
length-entries (suc n) o = simp (length-append, length-entry, length-entries n (o + BODY_BYTES)) (omega arith)

length-bytes-4 : (v : ℕ) → length (bytes 4 v) ≡ 4
unfolding bytes
length-bytes-4 v = refl

pub length-table : (n : ℕ) → length (table_of n) ≡ table_bytes n
unfolding table_of
length-table n = simp (length-append, length-bytes-4, length-entry, length-entries) (omega arith)

pub state-long : (b : List ℕ) → admissible b ≡ true → length b ≡ STATE_BYTES
unfolding admissible well_laid
state-long b h =
    let one = both _ _ h in
    let two = both _ _ one.0 in
    let three = both _ _ two.0 in
    let four = both _ _ three.0 in
    eqb-true (length b) STATE_BYTES four.0

-- the parts of pages, as the code counts them
page-count : (n at : ℕ) (m : List ℕ) → length (page_parts n at m) ≡ held n m
unfolding page_parts held
page-count zero at m = refl
page-count (suc n) at m = by (all_zero (take PAGE_BYTES m)) _ _ _ (page-count n (at + PAGE_BYTES) (drop PAGE_BYTES m))
  where
    by : (t : Bool) (p : Part) (ps : List Part) (k : ℕ) → length ps ≡ k → length (cond t [] (p ∷ []) ++ ps) ≡ cond t 0 1 + k
    by true p ps k e = omega arith
    by false p ps k e = omega arith

page-bodies : (n at : ℕ) (m : List ℕ) → bodies_of (page_parts n at m) ≡ bodies n at m
unfolding page_parts bodies_of bodies body
page-bodies zero at m = refl
page-bodies (suc n) at m = by (all_zero (take PAGE_BYTES m)) _ _ _ (page-bodies n (at + PAGE_BYTES) (drop PAGE_BYTES m))
  where
    by : (t : Bool) (p : Part) (ps : List Part) (bs : List ℕ) → bodies_of ps ≡ bs → bodies_of (cond t [] (p ∷ []) ++ ps) ≡ cond t [] p.body ++ bs
    by true p ps bs e = e
    by false p ps bs e = ap (λ (l : List ℕ). p.body ++ l) e

entry_first : (offset : ℕ) (p : Part) (ps : List Part) (size : ℕ) → length p.body ≡ size
    → entries_of offset (p ∷ ps) ≡ table_entry p.kind offset size ++ entries_of (offset + size) ps
unfolding entries_of table_entry
entry_first offset p ps size e = rw e (simp append_assoc)

page-entries : (n at : ℕ) (m : List ℕ) (offset : ℕ) → length m ≡ PAGE_BYTES * n → entries_of offset (page_parts n at m) ≡ entries (held n m) offset
unfolding page_parts entries held entries_of
page-entries zero at m offset l = refl
page-entries (suc n) at m offset l = by (all_zero (take PAGE_BYTES m)) _ _ (λ o. page-entries n (at + PAGE_BYTES) (drop PAGE_BYTES m) o (rest-long n m l))
  where
    size : length (bytes 8 at ++ take PAGE_BYTES m) ≡ BODY_BYTES
    size = simp (length-append, length-bytes-8, page-long m (omega arith)) (omega arith)

    by : (t : Bool) (ps : List Part) (k : ℕ) → ((o : ℕ) → entries_of o ps ≡ entries k o)
        → entries_of offset (cond t [] (page_part at (take PAGE_BYTES m) ∷ []) ++ ps) ≡ entries (cond t 0 1 + k) offset
    by true ps k e =
        let none : 0 + k ≡ k = omega arith in
        rw none (e offset)
    by false ps k e =
        let one : 1 + k ≡ suc k = omega arith in
        rw one (entry_first offset (page_part at (take PAGE_BYTES m)) ps BODY_BYTES size ∙ ap (λ (l : List ℕ). table_entry 2 offset BODY_BYTES ++ l) (e (offset + BODY_BYTES)))

laid_out : (n : ℕ) (b bs : List ℕ) (ps : List Part) → length b ≡ STATE_BYTES → length ps ≡ n → bodies_of ps ≡ bs
    → ((offset : ℕ) → entries_of offset ps ≡ entries n offset) → image_of_parts (state_part b ∷ ps) ≡ table_of n ++ (b ++ bs)
unfolding image_of_parts bodies_of table_of
laid_out n b bs ps size count has lists =
    let o : 4 + 12 * suc n ≡ table_bytes n = omega arith in
    let c : suc n ≡ n + 1 = omega arith in
    let table : entries_of (table_bytes n) (state_part b ∷ ps) ≡ table_entry 1 (table_bytes n) STATE_BYTES ++ entries n (table_bytes n + STATE_BYTES) =
    entry_first (table_bytes n) (state_part b) ps STATE_BYTES size ∙ rw lists
    in
    rw (count, o, c, table, has) (sym (append_assoc (bytes 4 (n + 1)) _ _))

-- the parts of an image
module _ (k : ℕ) (b m : List ℕ) (size : length b ≡ STATE_BYTES) (long : length m ≡ PAGE_BYTES * k) where
  pages-is : pages_of m ≡ k
  pages-is = omega arith

  pub image-is : image_of b m ≡ table_of (held k m) ++ (b ++ bodies k 0 m)
  unfolding image_of
  image-is =
      rw pages-is
      (laid_out (held k m) b (bodies k 0 m) (page_parts k 0 m) size (page-count k 0 m) (page-bodies k 0 m) (λ o. page-entries k 0 m o long))

  pub image-long : length (image_of b m) ≡ LEAST + MORE * held k m
  image-long = rw image-is (simp (length-append, length-table, size, bodies-long k 0 m long) (omega arith))

  held_in : pages_in (image_of b m) ≡ held k m
  held_in = rw image-long (omega arith)

  table-in : take (table_bytes (pages_in (image_of b m))) (image_of b m) ≡ table_of (held k m)
  table-in = rw (held_in, image-is) (take_at (table_of (held k m)) (b ++ bodies k 0 m) (table_bytes (held k m)) (length-table (held k m)))

  pub state-in : state_at (image_of b m) ≡ b
  state-in =
      rw (held_in, image-is, drop_at (table_of (held k m)) (b ++ bodies k 0 m) (table_bytes (held k m)) (length-table (held k m)))
      (take_at b (bodies k 0 m) STATE_BYTES size)

  bodies-in : bodies_at (image_of b m) ≡ bodies k 0 m
  bodies-in =
      let n = held k m in
      let rest = b ++ bodies k 0 m in
      rw (held_in, image-is, ← drop-drop STATE_BYTES (table_bytes n) (table_of n ++ rest), drop_at (table_of n) rest (table_bytes n) (length-table n))
      (drop_at b (bodies k 0 m) STATE_BYTES size)

  module _ (few : k ≤ 16) where
    pub memory-in : memory_from k 0 (bodies_at (image_of b m)) ≡ m
    memory-in = rw bodies-in (bodies-fill k 0 m (omega arith) long).1

    pub image-passes : admissible b ≡ true → passes k (image_of b m) ≡ true
    unfolding passes
    image-passes formed =
        let l = image-long in
        let h = held_in in
        let enough : LEAST ≤ length (image_of b m) = omega arith in
        let even : (length (image_of b m) - LEAST) % MORE ≡ 0 = omega arith in
        let most : pages_in (image_of b m) ≤ k = rw h (held-le k m) in
        rw (le-leb _ _ enough, eq-eqb _ _ even, le-leb _ _ most, table-in, state-in, formed, bodies-in, h, (bytes_eq-Decides (table_of (held k m)) _).1 refl)
        (bodies-fill k 0 m (omega arith) long).0

-- two machines with one image are equal
pub injective : (k : ℕ) (b b' m m' : List ℕ) → k ≤ 16 → admissible b ≡ true → admissible b' ≡ true → length m ≡ PAGE_BYTES * k → length m' ≡ PAGE_BYTES * k
    → image_of b m ≡ image_of b' m' → (b ≡ b') × (m ≡ m')
injective k b b' m m' few f f' l l' e = (
  sym (state-in k b m (state-long b f) l) ∙ rw e (state-in k b' m' (state-long b' f') l'),
  sym (memory-in k b m (state-long b f) l few) ∙ rw e (memory-in k b' m' (state-long b' f') l' few),
)

-- what is taken is the image of what is read of it
module _ (k : ℕ) (image : List ℕ) (small : Small image) (t : passes k image ≡ true) where
  abbrev read_memory : List ℕ
  read_memory = memory_from k 0 (bodies_at image)

  tests : (LEAST ≤ length image) × ((length image - LEAST) % MORE ≡ 0) × (take (table_bytes (pages_in image)) image ≡ table_of (pages_in image))
      × (admissible (state_at image) ≡ true) × (fill_pages k 0 (bodies_at image) ≡ true)
  unfolding passes
  tests =
      let five = both _ _ t in
      let four = both _ _ five.0 in
      let three = both _ _ four.0 in
      let two = both _ _ three.0 in
      let one = both _ _ two.0 in
      (leb-true LEAST (length image) one.0, eqb-true _ _ one.1, (bytes_eq-Decides _ _).0 three.1, four.1, five.1)

  pub passing-image : (admissible (state_at image) ≡ true) × (length read_memory ≡ PAGE_BYTES * k) × (image ≡ image_of (state_at image) read_memory)
  passing-image =
      let n = pages_in image in
      let mem = read_memory in
      let all = tests in
      let long : length mem ≡ PAGE_BYTES * k = memory-long k 0 (bodies_at image) in
      let size : length (state_at image) ≡ STATE_BYTES = state-long (state_at image) all.3 in
      let back : bodies k 0 mem ≡ bodies_at image = filled-bodies k 0 (bodies_at image) (λ i. rw get_or-drop (small _)) all.4 in
      let start = table_bytes n + STATE_BYTES in
      let count : BODY_BYTES * held k mem ≡ length image - start = sym (bodies-long k 0 mem long) ∙ rw back (length-drop start image) in
      let whole : length image ≡ LEAST + MORE * n = omega arith in
      let is : held k mem ≡ n = omega arith in (
        all.3,
        long,
        sym (image-is k (state_at image) mem size long
            ∙ rw (is, back, ← all.2, ← drop-drop STATE_BYTES (table_bytes n) image, take-append-drop STATE_BYTES (drop (table_bytes n) image))
            (take-append-drop (table_bytes n) image)),
      )
