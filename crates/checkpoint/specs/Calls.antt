-- Document 02, A3: the two calls. An image is taken exactly if it is the image of a machine, and is read as that machine.
use Rattle.std.specs.Prelude.{ℕ, ◌%◌, ◌≡◌, Bool, true, false, cond, ◌&&◌, List, ◌++◌, length, drop, eqb, leb}
use Rattle.layout.specs.Layout.{STATE_BYTES, admissible}
use Rattle.told.specs.Told.{done_told, refused_told}
use Rattle.told.specs.declared.Told.{Told}
use Rattle.checkpoint.specs.Image.{PAGE_BYTES, image_of}

-- "Memory is a multiple of 4,096, at most 65,536"
unfoldable pub memory_fits : ℕ → Bool
memory_fits len = eqb (len % PAGE_BYTES) 0 && leb len 65536

-- what a writing answers, and what it leaves in the output
pub record Wrote : Type 0 where
  pub told : Told
  pub image : List ℕ

abbrev pub wrote : Told → List ℕ → Wrote
wrote told image = record { told = told; image = image }

-- an image at the front of the output; the bytes behind it stay
abbrev pub wrote_front : List ℕ → List ℕ → Wrote
wrote_front image output = wrote (done_told (length image)) (image ++ drop (length image) output)

-- "9 for a wrong memory length or a malformed state to write"
abbrev pub writable : List ℕ → List ℕ → Bool
writable state memory = memory_fits (length memory) && admissible state

-- "then 11 for .. an output too small"
unfoldable pub writing_of : List ℕ → List ℕ → List ℕ → Wrote
writing_of state memory output =
    cond (writable state memory)
    (cond (leb (length (image_of state memory)) (length output)) (wrote_front (image_of state memory) output) (wrote (refused_told 11 0) output))
    (wrote (refused_told 9 0) output)

-- the image of a state that the rules allow and a memory of so many bytes
pub record IsImage (len : ℕ) (image state memory : List ℕ) : Type 0 where
  pub formed : admissible state ≡ true
  pub long : length memory ≡ len
  pub is : image ≡ image_of state memory

-- what is lent to be read into: such a memory, and room for a state
abbrev pub readable : List ℕ → List ℕ → Bool
readable state memory = memory_fits (length memory) && eqb (length state) STATE_BYTES

-- what a reading answers, and what it leaves in state and memory
pub data ReadLeaves (image state memory : List ℕ) : Told → List ℕ → List ℕ → Type 0 where
  misused : readable state memory ≡ false → ReadLeaves image state memory (refused_told 9 0) state memory
  broken : readable state memory ≡ true → ((s m : List ℕ) → IsImage (length memory) image s m → ⊥)
      → ReadLeaves image state memory (refused_told 11 0) state memory
  restored : {s m : List ℕ} → readable state memory ≡ true → IsImage (length memory) image s m
      → ReadLeaves image state memory (done_told 0) s m
