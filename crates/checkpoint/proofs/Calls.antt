-- The two calls: their tests, and what they leave.
use Prim.Native.Nat.{ℕ, ◌+◌, ◌*◌, ◌<◌, ◌≤◌}
use mathlib.Core.Path.{◌≡◌, sym, ◌∙◌}
use mathlib.Core.Bool.{true, false}
use mathlib.Core.List.{List, ◌++◌}
use native.Mathlib.Omega.{arith}
use lib.Dec.{eqb}
use lib.ListN.{length}
use lib.Seq.{sets, sets-eq}
use borrow.Author.Tests.{leb-true, le-leb, lt-leb}
use Rattle.layout.specs.Layout.{STATE_BYTES, admissible}
use Rattle.memory.proofs.Numbers.{Small}
use Rattle.layout.proofs.Rows.{sets-next}
use Rattle.layout.proofs.Tests.{both}
use Rattle.checkpoint.specs.Image.{PAGE_BYTES, pages_of, image_of}
use Rattle.checkpoint.specs.Pages.{held, bodies, table_bytes, table_of}
use Rattle.told.specs.Told.{done_told, refused_told}
use Rattle.checkpoint.specs.Calls.{memory_fits, wrote, wrote_front, writable, writing_of, IsImage, readable}
use Rattle.checkpoint.specs.Tests.{memory_from, LEAST, MORE, state_at, bodies_at, passes}
use Rattle.checkpoint.proofs.Fits.{fits_whole, fits_few}
use Rattle.checkpoint.proofs.Pages.{held-le}
use Rattle.checkpoint.proofs.Images.{length-table, state-long, image-is, image-long, image-passes, passing-image}

-- writing
pub image-stored : (k : ℕ) (image b m : List ℕ) → length b ≡ STATE_BYTES → length m ≡ PAGE_BYTES * k
    → sets (sets (sets image 0 (table_of (held k m))) (table_bytes (held k m)) b) (table_bytes (held k m) + STATE_BYTES) (bodies k 0 m) ≡ sets image 0 (image_of b m)
image-stored k image b m size long =
    let n = held k m in
    rw (image-is k b m size long)
    (sets-next (sets image 0 (table_of n)) (table_bytes n) (table_bytes n + STATE_BYTES) b (bodies k 0 m) (omega arith)
    ∙ sets-next image 0 (table_bytes n) (table_of n) (b ++ bodies k 0 m) (omega (arith, length-table n)))

module _ (state memory output : List ℕ) where
  pub writing-misused : writable state memory ≡ false → wrote (refused_told 9 0) output ≡ writing_of state memory output
  unfolding writing_of
  writing-misused e = rw e

  module _ (e : writable state memory ≡ true) where
    pub writing-small : length output < length (image_of state memory) → wrote (refused_told 11 0) output ≡ writing_of state memory output
    unfolding writing_of
    writing-small h = rw (e, lt-leb _ _ h)

    pub writing-done : length (image_of state memory) ≤ length output → wrote_front (image_of state memory) output ≡ writing_of state memory output
    unfolding writing_of
    writing-done h = rw (e, le-leb _ _ h)

    pub writing-stored : (size : ℕ) (after : List ℕ) → size ≡ length (image_of state memory) → size ≤ length output
        → after ≡ sets output 0 (image_of state memory)
        → wrote (done_told size) after ≡ writing_of state memory output
    writing-stored size after is room stored =
        let image = image_of state memory in
        let fits : 0 + length image ≤ length output = omega arith in
        let none : 0 + length image ≡ length image = omega arith in
        rw (is, stored, sets-eq image output 0 fits, none) (writing-done (omega arith))

module _ (state memory : List ℕ) (e : writable state memory ≡ true) where
  pub writable-memory : memory_fits (length memory) ≡ true
  writable-memory = (both (memory_fits (length memory)) (admissible state) e).0

  pub writable-state : length state ≡ STATE_BYTES
  writable-state = state-long state (both (memory_fits (length memory)) (admissible state) e).1

  pub size_is : length (image_of state memory) ≡ LEAST + MORE * held (pages_of memory) memory
  size_is = image-long (pages_of memory) state memory writable-state (fits_whole (length memory) writable-memory)

  pub held-few : held (pages_of memory) memory ≤ 16
  held-few = omega (arith, held-le (pages_of memory) memory, fits_few (length memory) writable-memory)

-- reading
module _ (state memory : List ℕ) (r : readable state memory ≡ true) where
  pub readable-memory : memory_fits (length memory) ≡ true
  readable-memory = (both (memory_fits (length memory)) (eqb (length state) STATE_BYTES) r).0

module _ (image memory : List ℕ) (f : memory_fits (length memory) ≡ true) where
  pub no-image : passes (pages_of memory) image ≡ false → (b m : List ℕ) → IsImage (length memory) image b m → ⊥
  no-image t b m i =
      let long : length m ≡ PAGE_BYTES * pages_of memory = i.long ∙ fits_whole (length memory) f in
      let yes : passes (pages_of memory) (image_of b m) ≡ true = image-passes (pages_of memory) b m (state-long b i.formed) long (fits_few (length memory) f) i.formed in
      let no : passes (pages_of memory) (image_of b m) ≡ false = rw i.is at t in
      let q : ◌≡◌ {A = ℕ} 0 1 = cc in
      omega arith

  pub an-image : Small image → passes (pages_of memory) image ≡ true
      → IsImage (length memory) image (state_at image) (memory_from (pages_of memory) 0 (bodies_at image))
  an-image small t =
      let all = passing-image (pages_of memory) image small t in
      record { formed = all.0; long = all.1 ∙ sym (fits_whole (length memory) f); is = all.2 }

  pub enough : passes (pages_of memory) image ≡ true → LEAST ≤ length image
  unfolding passes
  enough t = leb-true _ _ (both _ _ (both _ _ (both _ _ (both _ _ (both _ _ t).0).0).0).0).0
