-- Numbers in bytes, little-endian, over the size.
use Rattle.std.specs.Prelude.{ℕ, zero, suc, ◌+◌, ◌*◌, ◌/◌, ◌%◌, Bool, cond, List, [], ◌∷◌, take, drop}
use Rattle.std.proofs.lemmas.List.Edits.{sets}

-- yes or no as a number
abbrev pub bit : Bool → ℕ
bit t = cond t 1 0

-- the number that bytes are, the lowest first
unfoldable pub number_of_bytes : List ℕ → ℕ
number_of_bytes [] = 0
number_of_bytes (b ∷ bs) = number_of_bytes bs * 256 + b

-- the low n bytes of a number, the lowest first
unfoldable pub bytes : ℕ → ℕ → List ℕ
bytes zero v = []
bytes (suc n) v = (v % 256) ∷ bytes n (v / 256)

-- the number in the n bytes from a place on, as far as they are there
abbrev pub number_at : ℕ → List ℕ → ℕ → ℕ
number_at n bs at = number_of_bytes (take n (drop at bs))

-- the bytes with the low n bytes of v from a place on, as far as they are there
abbrev pub put_at : ℕ → List ℕ → ℕ → ℕ → List ℕ
put_at n bs at v = sets bs at (bytes n v)
