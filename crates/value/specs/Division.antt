-- Document 01, "Values and bounds": division uses all 64 bits. A divisor of 0 is refused (1) before any of these is asked;
-- here it answers what the library's division says, a quotient of 0 and the dividend as the remainder.
use Rattle.std.specs.Prelude.{ℕ, ◌/◌, ◌%◌, int_div, int_rem}
use Rattle.std.specs.Int.{w64}
use Rattle.std.proofs.Common.{to_z, of_z}

-- both read as signed, the quotient rounded toward zero, modulo 2^64: -2^63 by -1 gives 2^63
unfoldable pub div_of : ℕ → ℕ → ℕ
div_of a b = of_z w64 (int_div (to_z w64 a) (to_z w64 b))

-- the remainder that goes with it, of the dividend's sign
unfoldable pub rem_of : ℕ → ℕ → ℕ
rem_of a b = of_z w64 (int_rem (to_z w64 a) (to_z w64 b))

-- read as they are
abbrev pub divu_of : ℕ → ℕ → ℕ
divu_of a b = a / b

abbrev pub remu_of : ℕ → ℕ → ℕ
remu_of a b = a % b
