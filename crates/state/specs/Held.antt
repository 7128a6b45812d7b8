-- Document 01, "Values and bounds" and "Limbs": what one register holds, and its limbs.
use Rattle.std.specs.Prelude.{ℕ, ◌+◌, ◌*◌, ◌/◌, ◌%◌, ◌^◌, Bool, true, false}

-- "A register is whole (64 bits) or accumulated (two limbs)"
pub data Held : Type 0 where
  Whole : ℕ → Held
  Limbs : ℕ → ℕ → Held

-- a whole register's value is uncut; an accumulated one's is low + 2^20 * high, modulo 2^40
unfoldable pub value_of : Held → ℕ
value_of (Whole n) = n
value_of (Limbs low high) = (low + 2 ^ 20 * high) % 2 ^ 40

-- "A whole register's limbs are bits 0-19 and 20-39"
unfoldable pub low_of : Held → ℕ
low_of (Whole n) = n % 2 ^ 20
low_of (Limbs low high) = low

unfoldable pub high_of : Held → ℕ
high_of (Whole n) = n / 2 ^ 20 % 2 ^ 20
high_of (Limbs low high) = high

-- normalising limbs to a width: what stays of each, and the carry out of each, the low one's into the high one
pub record Normal : Type 0 where
  pub low : ℕ
  pub high : ℕ
  pub carry0 : ℕ
  pub carry1 : ℕ

abbrev pub normal : ℕ → ℕ → ℕ → Normal
normal width low high =
    record {
      low = low % 2 ^ width;
      high = (high + low / 2 ^ width) % 2 ^ width;
      carry0 = low / 2 ^ width;
      carry1 = (high + low / 2 ^ width) / 2 ^ width;
    }

-- the whole value of two limbs below 2^20
abbrev pub joined : Normal → ℕ
joined n = n.low + 2 ^ 20 * n.high

-- "Normalising it, or R0, does nothing"; an accumulated one is made whole
unfoldable pub settled : Held → Held
settled (Whole n) = Whole n
settled (Limbs low high) = Whole (joined (normal 20 low high))

-- how it is kept: a mark, and one number, which of an accumulated register is low + 2^30 * high
unfoldable pub held_of : Bool → ℕ → Held
held_of true v = Limbs (v % 2 ^ 30) (v / 2 ^ 30)
held_of false v = Whole v

unfoldable pub kept : Held → ℕ
kept (Whole n) = n
kept (Limbs low high) = low + 2 ^ 30 * high

unfoldable pub waits : Held → Bool
waits (Whole n) = false
waits (Limbs low high) = true
