-- Bytes of a text: spaces, digits, letters, names and decimal numbers.
use Rattle.std.specs.Prelude.{ℕ, ◌+◌, ◌-◌, ◌*◌, ◌%◌, ◌^◌, Bool, true, false, ◌&&◌, ◌||◌, List, [], ◌∷◌, leb, eqb, replicate}

abbrev pub is_space : ℕ → Bool
is_space b = eqb b 32

abbrev pub is_digit : ℕ → Bool
is_digit b = leb 48 b && leb b 57

abbrev pub is_letter : ℕ → Bool
is_letter b = leb 65 b && leb b 90 || leb 97 b && leb b 122

abbrev pub is_part : ℕ → Bool
is_part b = is_letter b || is_digit b

unfoldable pub every : (ℕ → Bool) → List ℕ → Bool
every p [] = true
every p (b ∷ t) = p b && every p t

unfoldable pub eq_bytes : List ℕ → List ℕ → Bool
eq_bytes [] [] = true
eq_bytes [] (b ∷ t) = false
eq_bytes (a ∷ s) [] = false
eq_bytes (a ∷ s) (b ∷ t) = eqb a b && eq_bytes s t

-- the first byte, 0 if there is none
unfoldable pub head_of : List ℕ → ℕ
head_of [] = 0
head_of (b ∷ t) = b

-- "a label is a letter, then letters or digits"
unfoldable pub is_name : List ℕ → Bool
is_name [] = false
is_name (b ∷ t) = is_letter b && every is_part t

-- a name's key: its last eight bytes as a number, the last one lowest
unfoldable pub key_from : ℕ → List ℕ → ℕ
key_from v [] = v
key_from v (b ∷ t) = key_from (v % 2 ^ 56 * 256 + b) t

abbrev pub key_of : List ℕ → ℕ
key_of name = key_from 0 name

-- at least one digit
unfoldable pub is_number : List ℕ → Bool
is_number [] = false
is_number (b ∷ t) = every is_digit (b ∷ t)

-- the number that digits stand for, after those that stand for v
unfoldable pub decimal_from : ℕ → List ℕ → ℕ
decimal_from v [] = v
decimal_from v (d ∷ ds) = decimal_from (v * 10 + (d - 48)) ds

abbrev pub decimal : List ℕ → ℕ
decimal ds = decimal_from 0 ds

abbrev pub spaces : ℕ → List ℕ
spaces n = replicate n 32
