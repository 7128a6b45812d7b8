-- Inner: the tests of an image, as the code makes them. By its length it is known how many pages it holds.
use Rattle.std.specs.Prelude.{ℕ, zero, suc, ◌+◌, ◌-◌, ◌/◌, ◌%◌, Bool, cond, not, ◌&&◌, List, [], ◌++◌, length, take, drop, replicate, eqb, leb}
use Rattle.std.specs.Str.{bytes_eq}
use Rattle.memory.specs.Bytes.{number_at}
use Rattle.layout.specs.Layout.{STATE_BYTES, admissible}
use Rattle.checkpoint.specs.Image.{PAGE_BYTES, all_zero}
use Rattle.checkpoint.specs.Pages.{BODY_BYTES, table_bytes, table_of}

unfoldable pub blank : ℕ → List ℕ
blank n = replicate n 0

-- whether the body of the page at an address stands first
unfoldable pub stands : ℕ → List ℕ → Bool
stands at rest = leb BODY_BYTES (length rest) && eqb (number_at 8 rest 0) at

-- the page at an address, and how far its body reaches
unfoldable pub page_from : ℕ → List ℕ → List ℕ
page_from at rest = cond (stands at rest) (take PAGE_BYTES (drop 8 rest)) (blank PAGE_BYTES)

unfoldable pub reach_of : ℕ → List ℕ → ℕ
reach_of at rest = cond (stands at rest) BODY_BYTES 0

-- a body of zeros
unfoldable pub idle : ℕ → List ℕ → Bool
idle at rest = stands at rest && all_zero (take PAGE_BYTES (drop 8 rest))

-- whether these are the bodies of some n pages from an address on
unfoldable pub fill_pages : ℕ → ℕ → List ℕ → Bool
fill_pages zero at rest = eqb (length rest) 0
fill_pages (suc n) at rest = not (idle at rest) && fill_pages n (at + PAGE_BYTES) (drop (reach_of at rest) rest)

-- and those pages
unfoldable pub memory_from : ℕ → ℕ → List ℕ → List ℕ
memory_from zero at rest = []
memory_from (suc n) at rest = page_from at rest ++ memory_from n (at + PAGE_BYTES) (drop (reach_of at rest) rest)

-- the bytes of an image that holds no page, and those that a page adds
abbrev pub LEAST : ℕ
LEAST = table_bytes 0 + STATE_BYTES

abbrev pub MORE : ℕ
MORE = 12 + BODY_BYTES

abbrev pub pages_in : List ℕ → ℕ
pages_in image = (length image - LEAST) / MORE

abbrev pub state_at : List ℕ → List ℕ
state_at image = take STATE_BYTES (drop (table_bytes (pages_in image)) image)

abbrev pub bodies_at : List ℕ → List ℕ
bodies_at image = drop (table_bytes (pages_in image) + STATE_BYTES) image

unfoldable pub passes : ℕ → List ℕ → Bool
passes n image =
    leb LEAST (length image) && eqb ((length image - LEAST) % MORE) 0 && leb (pages_in image) n
    && bytes_eq (take (table_bytes (pages_in image)) image) (table_of (pages_in image))
    && admissible (state_at image) && fill_pages n 0 (bodies_at image)
