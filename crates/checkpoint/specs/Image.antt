-- Document 02, A3: what the image of a machine is.
use Rattle.std.specs.Prelude.{ℕ, zero, suc, ◌+◌, ◌*◌, ◌/◌, Bool, true, cond, ◌&&◌, List, [], ◌∷◌, ◌++◌, length, take, drop, eqb}
use Rattle.memory.specs.Bytes.{bytes}

-- what a table of contents lists: a body, of a kind
pub record Part : Type 0 where
  pub kind : ℕ
  pub body : List ℕ

-- "kind, offset in the image and length, 4 bytes each", the first body at an offset
unfoldable pub entries_of : ℕ → List Part → List ℕ
entries_of offset [] = []
entries_of offset (p ∷ ps) =
    bytes 4 p.kind ++ (bytes 4 offset ++ (bytes 4 (length p.body) ++ entries_of (offset + length p.body) ps))

-- "Bodies follow without gaps in table order, and nothing after them"
unfoldable pub bodies_of : List Part → List ℕ
bodies_of [] = []
bodies_of (p ∷ ps) = p.body ++ bodies_of ps

-- "The image has its table of contents first: a 4-byte entry count", then 12 bytes an entry
unfoldable pub image_of_parts : List Part → List ℕ
image_of_parts ps = bytes 4 (length ps) ++ (entries_of (4 + 12 * length ps) ps ++ bodies_of ps)

-- "Entry one is kind 1", a state's bytes
abbrev pub state_part : List ℕ → Part
state_part state = record { kind = 1; body = state }

abbrev pub PAGE_BYTES : ℕ
PAGE_BYTES = 4096

unfoldable pub all_zero : List ℕ → Bool
all_zero [] = true
all_zero (b ∷ bs) = eqb b 0 && all_zero bs

-- "kind 2: an 8-byte address and the 4,096 bytes"
abbrev pub page_part : ℕ → List ℕ → Part
page_part address page = record { kind = 2; body = bytes 8 address ++ page }

-- "by rising address", and only of "each page that holds a nonzero byte": the parts of n pages, the first at an address
unfoldable pub page_parts : ℕ → ℕ → List ℕ → List Part
page_parts zero address memory = []
page_parts (suc n) address memory =
    cond (all_zero (take PAGE_BYTES memory)) [] (page_part address (take PAGE_BYTES memory) ∷ [])
    ++ page_parts n (address + PAGE_BYTES) (drop PAGE_BYTES memory)

abbrev pub pages_of : List ℕ → ℕ
pages_of memory = length memory / PAGE_BYTES

-- of a state's bytes and a memory
unfoldable pub image_of : List ℕ → List ℕ → List ℕ
image_of state memory = image_of_parts (state_part state ∷ page_parts (pages_of memory) 0 memory)
