-- Document 01, "Stops and refusals": the number and the particular of each refusal, and the code of each stop.
use Rattle.std.specs.Prelude.{ℕ, [], ◌∷◌, get_or}
use Rattle.refusal.specs.declared.Refusal.{Refusal}
use Rattle.refusal.specs.declared.Refusal.TheVariants.{DivisorZero, Beyond, Misaligned, BadOpcode, UnusedBits, PcMisaligned, PcBeyond, ListFull, Malformed}
use Rattle.refusal.specs.declared.Stop.{Stop}
use Rattle.refusal.specs.declared.Stop.TheVariants.{Fuel, Ebreak, Ecall, Refused}

-- the table's first column
abbrev pub number_of : Refusal → ℕ
number_of (DivisorZero pc) = 1
number_of (Beyond missing) = 2
number_of (Misaligned address) = 3
number_of (BadOpcode word) = 4
number_of (UnusedBits word) = 5
number_of (PcMisaligned pc) = 6
number_of (PcBeyond pc) = 7
number_of (ListFull pc) = 8
number_of Malformed = 9

-- the table's third column, but that document 02 (A2) makes the particular of 2 the first byte that is missing
abbrev pub particular_of : Refusal → ℕ
particular_of (DivisorZero pc) = pc
particular_of (Beyond missing) = missing
particular_of (Misaligned address) = address
particular_of (BadOpcode word) = word
particular_of (UnusedBits word) = word
particular_of (PcMisaligned pc) = pc
particular_of (PcBeyond pc) = pc
particular_of (ListFull pc) = pc
particular_of Malformed = 0

-- the refusal of a number and a particular, by which the definitions of every crate name it
abbrev pub refusal_of : ℕ → ℕ → Refusal
refusal_of k n =
    get_or
    (Malformed ∷ DivisorZero n ∷ Beyond n ∷ Misaligned n ∷ BadOpcode n ∷ UnusedBits n ∷ PcMisaligned n ∷ PcBeyond n ∷ ListFull n ∷ [])
    k
    Malformed

-- "code 0 fuel, 1 to 9 refusals, 64 Ebreak, 65 Ecall"
abbrev pub code_of : Stop → ℕ
code_of Fuel = 0
code_of Ebreak = 64
code_of Ecall = 65
code_of (Refused r) = number_of r

-- "particular 0 at stops"
abbrev pub particular_at : Stop → ℕ
particular_at Fuel = 0
particular_at Ebreak = 0
particular_at Ecall = 0
particular_at (Refused r) = particular_of r
