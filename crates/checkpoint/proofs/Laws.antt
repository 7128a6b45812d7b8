-- What follows of images and of the two calls.
use Prim.Native.Nat.{ℕ, ◌<◌}
use mathlib.Core.Path.{◌≡◌, refl, ap, sym, ◌∙◌}
use mathlib.Core.Bool.{Bool, true, false, cond}
use mathlib.Core.List.{List, [], append-nil}
use native.Mathlib.Omega.{arith}
use lib.Dec.{leb, lit<}
use lib.ListN.{length, take, drop, drop_of_length-le}
use lib.Seq.{take_at}
use borrow.Author.Tests.{eq-eqb}
use Rattle.layout.specs.Layout.{STATE_BYTES, state_bytes, state_in, admissible}
use Rattle.layout.proofs.Round.{read_back, limbs-fit, written-admissible}
use Rattle.layout.proofs.Tests.{both}
use Rattle.memory.specs.Bytes.{bytes}
use Rattle.told.specs.Told.{done_told, refused_told}
use Rattle.told.specs.declared.Told.{Told}
use Rattle.checkpoint.specs.Image.{entries_of, bodies_of, image_of_parts, page_parts, pages_of, image_of}
use Rattle.checkpoint.specs.Calls.{memory_fits, Wrote, wrote, wrote_front, writable, writing_of, IsImage, readable, ReadLeaves, misused, broken, restored}
use Rattle.checkpoint.specs.Statements.{OneMachine, OneState, WritingRestores, ReadingRewrites, LeastImage}
use Rattle.checkpoint.proofs.Fits.{fits_whole, fits_few}
use Rattle.checkpoint.proofs.Images.{injective}
use Rattle.checkpoint.proofs.Calls.{readable-memory, writing-done}

pub one-machine : OneMachine
one-machine len image s s' m m' f i i' =
    let w = fits_whole len f in
    injective (pages_of m) s s' m m' (rw i.long (fits_few len f)) i.formed i'.formed (rw i.long w) (i'.long ∙ rw i.long w) (sym i.is ∙ i'.is)

pub one_state : OneState
one_state s s' m m' h h' w w' f l e =
    let image = image_of (state_bytes s) m in
    let first : IsImage (length m) image (state_bytes s) m = record { formed = written-admissible s h w; long = refl; is = refl } in
    let second : IsImage (length m) image (state_bytes s') m' = record { formed = written-admissible s' h' w'; long = sym l; is = e } in
    let two = one-machine (length m) image (state_bytes s) (state_bytes s') m m' f first second in
    (sym (read_back s h (limbs-fit s h w)) ∙ ap state_in two.0 ∙ read_back s' h' (limbs-fit s' h' w'), two.1)

-- the promise of reading determines what it leaves
module _ (image state memory : List ℕ) where
  never : (t : Bool) → t ≡ true → t ≡ false → ⊥
  never t p q = let z : ◌≡◌ {A = ℕ} 0 1 = cc in omega arith

  pub reads-one : {t t' : Told} {s s' m m' : List ℕ} → ReadLeaves image state memory t s m → ReadLeaves image state memory t' s' m'
      → (t ≡ t') × (s ≡ s') × (m ≡ m')
  reads-one (misused x) (misused y) = (refl, refl, refl)
  reads-one (misused x) (broken y n) = absurd (never (readable state memory) y x)
  reads-one (misused x) (restored y i) = absurd (never (readable state memory) y x)
  reads-one (broken x n) (misused y) = absurd (never (readable state memory) x y)
  reads-one (broken x n) (broken y k) = (refl, refl, refl)
  reads-one (broken x n) (restored y i) = absurd (n _ _ i)
  reads-one (restored x i) (misused y) = absurd (never (readable state memory) x y)
  reads-one (restored x i) (broken y n) = absurd (n _ _ i)
  reads-one (restored x i) (restored y j) =
      let e = one-machine (length memory) image _ _ _ _ (readable-memory state memory x) i j in
      (refl, e.0, e.1)

not_done : (code n : ℕ) → 0 < code → refused_told code 0 ≡ done_told n → ⊥
not_done code n h e = omega (arith, ap (λ (t : Told). t.code) e)

-- what is known of a writing that was done
module _ (state memory output : List ℕ) where
  record Done (n : ℕ) (after : List ℕ) : Type 0 where
    pub fits : memory_fits (length memory) ≡ true
    pub formed : admissible state ≡ true
    pub size : n ≡ length (image_of state memory)
    pub front : take n after ≡ image_of state memory

  done-is : (n : ℕ) (after : List ℕ) → writing_of state memory output ≡ wrote (done_told n) after → Done n after
  unfolding writing_of
  done-is n after = by (writable state memory) refl (leb (length (image_of state memory)) (length output))
    where
      by : (t : Bool) → writable state memory ≡ t → (u : Bool)
          → cond t (cond u (wrote_front (image_of state memory) output) (wrote (refused_told 11 0) output)) (wrote (refused_told 9 0) output) ≡ wrote (done_told n) after
          → Done n after
      by true e true q =
          let two = both _ _ e in
          let image = image_of state memory in
          let size : n ≡ length image = sym (ap (λ (w : Wrote). w.told.length) q) in
          record {
            fits = two.0;
            formed = two.1;
            size = size;
            front = rw (size, ← ap (λ (w : Wrote). w.image) q) (take_at image (drop (length image) output) (length image) refl);
          }
      by true e false q = absurd (not_done _ n (lit< tt) (ap (λ (w : Wrote). w.told) q))
      by false e u q = absurd (not_done _ n (lit< tt) (ap (λ (w : Wrote). w.told) q))

pub writing-restores : WritingRestores
writing-restores state memory output after room spare n w size same t s m r =
    let done = done-is state memory output n after w in
    let fits : memory_fits (length spare) ≡ true = ap memory_fits same ∙ done.fits in
    reads-one (take n after) room spare r (restored (rw (fits, eq-eqb (length room) STATE_BYTES size)) (record { formed = done.formed; long = sym same; is = done.front }))

-- what is known of a reading that was done
pub restored-is : (image room spare s m : List ℕ) → ReadLeaves image room spare (done_told 0) s m
    → (readable room spare ≡ true) × IsImage (length spare) image s m
restored-is image room spare s m r = by r refl
  where
    by : {t : Told} {s m : List ℕ} → ReadLeaves image room spare t s m → t ≡ done_told 0 → (readable room spare ≡ true) × IsImage (length spare) image s m
    by (misused x) e = absurd (not_done _ 0 (lit< tt) e)
    by (broken x n) e = absurd (not_done _ 0 (lit< tt) e)
    by (restored x i) e = (x, i)

pub reading-rewrites : ReadingRewrites
reading-rewrites image room spare s m output r l =
    let is = restored-is image room spare s m r in
    let i = is.1 in
    let f : memory_fits (length m) ≡ true = ap memory_fits i.long ∙ readable-memory room spare is.0 in
    let e : writable s m ≡ true = rw (f, i.formed) in
    let none : drop (length image) output ≡ [] = drop_of_length-le output {i = length image} (omega arith) in
    sym (writing-done s m output e (omega (arith, ap length i.is))) ∙ rw (← i.is, none, append-nil image)

pub least-image : LeastImage
unfolding image_of image_of_parts entries_of bodies_of page_parts bytes
least-image = refl
