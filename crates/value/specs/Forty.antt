-- Document 01, "Values and bounds": 40-bit values. Each operand is a whole value, of which the low 40 bits are taken.
use Rattle.std.specs.Prelude.{ℕ, ◌+◌, ◌-◌, ◌*◌, ◌/◌, ◌%◌, ◌^◌, Bool, ℤ, pos, negsuc, bit_and, bit_or, bit_xor, int_lt, nat_lt}
use Rattle.std.specs.Int.Signed.{shr_z}
use Rattle.encoding.specs.Fields.{signed_of}

-- "`Value40` takes the low 40 bits"
abbrev pub low40 : ℕ → ℕ
low40 a = a % 2 ^ 40

-- "add, subtract and multiply are modulo 2^40"
abbrev pub add40 : ℕ → ℕ → ℕ
add40 a b = (a + b) % 2 ^ 40

abbrev pub sub40 : ℕ → ℕ → ℕ
sub40 a b = (low40 a + (2 ^ 40 - low40 b)) % 2 ^ 40

abbrev pub mul40 : ℕ → ℕ → ℕ
mul40 a b = a * b % 2 ^ 40

abbrev pub and40 : ℕ → ℕ → ℕ
and40 a b = bit_and (low40 a) (low40 b)

abbrev pub or40 : ℕ → ℕ → ℕ
or40 a b = bit_or (low40 a) (low40 b)

abbrev pub xor40 : ℕ → ℕ → ℕ
xor40 a b = bit_xor (low40 a) (low40 b)

-- "shifts of 40 or more give 0": 2^40 then divides 2^k, and 2^k is above every 40-bit value
unfoldable pub shl40 : ℕ → ℕ → ℕ
shl40 a k = low40 a * 2 ^ k % 2 ^ 40

unfoldable pub shr40 : ℕ → ℕ → ℕ
shr40 a k = low40 a / 2 ^ k

-- "signed reading is by bit 39"
unfoldable pub signed40 : ℕ → ℤ
signed40 a = signed_of 39 (low40 a)

-- an integer modulo 2^40
abbrev pub modulo40 : ℤ → ℕ
modulo40 (pos n) = n % 2 ^ 40
modulo40 (negsuc n) = 2 ^ 40 - 1 - n % 2 ^ 40

-- the signed reading over 2^k, rounded down: from 40 on that is 0 or -1, so "arithmetic ones 0 or 2^40-1"
unfoldable pub sra40 : ℕ → ℕ → ℕ
sra40 a k = modulo40 (shr_z (signed40 a) (2 ^ k))

unfoldable pub slt40 : ℕ → ℕ → Bool
slt40 a b = int_lt (signed40 a) (signed40 b)

abbrev pub ult40 : ℕ → ℕ → Bool
ult40 a b = nat_lt (low40 a) (low40 b)
