-- What is proved of images and of the two calls together.
use Rattle.std.specs.Prelude.{ℕ, ◌≡◌, true, List, [], ◌∷◌, ◌++◌, length, take, replicate}
use Rattle.state.specs.Formed.{well_formed}
use Rattle.state.specs.declared.State.{State}
use Rattle.layout.specs.Layout.{STATE_BYTES, state_bytes}
use Rattle.layout.specs.Shape.{Shaped}
use Rattle.told.specs.Told.{done_told}
use Rattle.told.specs.declared.Told.{Told}
use Rattle.checkpoint.specs.Image.{image_of}
use Rattle.checkpoint.specs.Calls.{memory_fits, wrote, writing_of, IsImage, ReadLeaves}

-- Two machines with one image are equal: their state's bytes and their memories, of one length that fits.
abbrev pub OneMachine : Type 0
OneMachine =
    (len : ℕ) (image s s' m m' : List ℕ) → memory_fits len ≡ true → IsImage len image s m → IsImage len image s' m' → (s ≡ s') × (m ≡ m')

-- And so are their states. `Shaped` says that a state has sixteen registers, in numbers of 64 and of 8 bits.
abbrev pub OneState : Type 0
OneState =
    (s s' : State) (m m' : List ℕ) → Shaped s → Shaped s' → well_formed s.registers ≡ true → well_formed s'.registers ≡ true
    → memory_fits (length m) ≡ true → length m ≡ length m' → image_of (state_bytes s) m ≡ image_of (state_bytes s') m' → (s ≡ s') × (m ≡ m')

-- "Writing, then reading into memory of the same length, restores state and memory exactly": whatever a reading leaves of the n bytes that
-- a writing answered, whatever the state and the memory held that it is lent.
abbrev pub WritingRestores : Type 0
WritingRestores =
    (state memory output after room spare : List ℕ) (n : ℕ) → writing_of state memory output ≡ wrote (done_told n) after
    → length room ≡ STATE_BYTES → length spare ≡ length memory
    → (t : Told) (s m : List ℕ) → ReadLeaves (take n after) room spare t s m → (t ≡ done_told 0) × (s ≡ state) × (m ≡ memory)

-- Reading, then writing what was read into as many bytes, gives the image again.
abbrev pub ReadingRewrites : Type 0
ReadingRewrites =
    (image room spare s m output : List ℕ) → ReadLeaves image room spare (done_told 0) s m → length output ≡ length image
    → writing_of s m output ≡ wrote (done_told (length image)) image

-- The image of a fresh state at pc 0 and no memory, byte by byte: one entry, of kind 1, at byte 16, of 400 bytes; then the state's, all 0.
abbrev pub LeastImage : Type 0
LeastImage =
    image_of (replicate STATE_BYTES 0) []
    ≡ (1 ∷ 0 ∷ 0 ∷ 0 ∷ 1 ∷ 0 ∷ 0 ∷ 0 ∷ 16 ∷ 0 ∷ 0 ∷ 0 ∷ 144 ∷ 1 ∷ 0 ∷ 0 ∷ []) ++ replicate STATE_BYTES 0
