-- Document 01, "Values and bounds", its second paragraph: the bits that are noted of each result, from the operands' bits.
use Rattle.std.specs.Prelude.{ℕ, ◌+◌, ◌-◌, ◌*◌, min, max, Bool, cond, leb, ltb}
use Rattle.std.specs.Int.Count.{count_leading_zeros}

-- "notes of 0 to 64 bits, capped at 64"
abbrev pub capped : ℕ → ℕ
capped b = min b 64

-- "A constant's bound is the bits it needs, 0 for 0": of its 64 bits those that are no leading zeros
unfoldable pub bits_of : ℕ → ℕ
bits_of x = 64 - count_leading_zeros 64 x

-- "Add: larger plus 1."
abbrev pub after_add : ℕ → ℕ → ℕ
after_add a b = capped (max a b + 1)

-- "Sub, Or, Xor: larger." "A move that happens: larger of source's and destination's."
abbrev pub after_larger : ℕ → ℕ → ℕ
after_larger a b = capped (max a b)

-- "Mul, Mulh: sum."
abbrev pub after_mul : ℕ → ℕ → ℕ
after_mul a b = capped (a + b)

-- "Division: the dividend's."
abbrev pub after_div : ℕ → ℕ
after_div a = capped a

-- "And: smaller."
abbrev pub after_and : ℕ → ℕ → ℕ
after_and a b = capped (min a b)

-- "Left shift: b+k, at most 40."
abbrev pub after_shl : ℕ → ℕ → ℕ
after_shl b k = min (b + k) 40

-- "Srl: b-k, at least 0."
abbrev pub after_srl : ℕ → ℕ → ℕ
after_srl b k = capped (b - k)

-- "Sra: 40 if b is 40 or more, else as Srl."
abbrev pub after_sra : ℕ → ℕ → ℕ
after_sra b k = cond (leb 40 b) 40 (after_srl b k)

-- "Comparison 1."
abbrev pub after_cmp : ℕ
after_cmp = 1

-- "Loads 8, 16, 32, and 40 for Ld, signed loads too", of a load's size in bytes
abbrev pub after_load : ℕ → ℕ
after_load size = min (8 * size) 40

-- "A check is needed above 40 bits."
abbrev pub needs_check : ℕ → Bool
needs_check b = ltb 40 b
