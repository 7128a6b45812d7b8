-- Document 01, "Values and bounds": Mulh uses all 64 bits of both operands.
use Rattle.std.specs.Prelude.{ℕ, ◌*◌, ◌/◌, ◌%◌, ◌^◌}

-- bits 40 to 79 of the product
abbrev pub mulh_of : ℕ → ℕ → ℕ
mulh_of a b = a * b / 2 ^ 40 % 2 ^ 40
