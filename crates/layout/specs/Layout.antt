-- Document 01 on the host's call: the bytes of a state. Every number in them is little-endian.
use Rattle.std.specs.Prelude.{ℕ, zero, suc, ◌+◌, ◌*◌, ◌%◌, ◌^◌, Bool, cond, ◌&&◌, List, [], ◌∷◌, ◌++◌, length, leb, eqb}
use Rattle.memory.specs.Bytes.{bit, bytes, number_at}
use Rattle.state.specs.Held.{Held, Whole, Limbs, kept, waits}
use Rattle.state.specs.declared.registers.Registers.{Registers}
use Rattle.state.specs.Registers.{registers, holds, noted}
use Rattle.state.specs.Formed.{limbs_fit, all_below, well_formed}
use Rattle.state.specs.declared.State.{State}

-- "The state is 400 bytes": a header, then sixteen records
abbrev pub HEADER_BYTES : ℕ
HEADER_BYTES = 16

abbrev pub RECORD_BYTES : ℕ
RECORD_BYTES = 24

abbrev pub STATE_BYTES : ℕ
STATE_BYTES = HEADER_BYTES + 16 * RECORD_BYTES

-- "pc (8), halt mark 0 or 1, 7 zeros"
unfoldable pub header_bytes : ℕ → Bool → List ℕ
header_bytes pc halted = bytes 8 pc ++ (bytes 1 (bit halted) ++ bytes 7 0)

-- "kind 0 or 1": whole, or accumulated
unfoldable pub kind_of : Held → ℕ
kind_of (Whole n) = 0
kind_of (Limbs low high) = 1

-- "two 8-byte numbers (whole value and 0, or limbs)", the low limb first
unfoldable pub first_of : Held → ℕ
first_of (Whole n) = n
first_of (Limbs low high) = low

unfoldable pub second_of : Held → ℕ
second_of (Whole n) = 0
second_of (Limbs low high) = high

-- "kind 0 or 1, bound, 6 zeros, two 8-byte numbers"
unfoldable pub record_bytes : Held → ℕ → List ℕ
record_bytes h bound = bytes 1 (kind_of h) ++ (bytes 1 bound ++ (bytes 6 0 ++ (bytes 8 (first_of h) ++ bytes 8 (second_of h))))

-- the records of n registers, from register i on
unfoldable pub records : ℕ → ℕ → Registers → List ℕ
records zero i R = []
records (suc n) i R = record_bytes (holds R i) (noted R i) ++ records n (i + 1) R

unfoldable pub state_bytes : State → List ℕ
state_bytes s = header_bytes s.pc s.halted ++ records 16 0 s.registers

-- the same places, read: where register i's record starts, and what stands in it
abbrev pub record_at : ℕ → ℕ
record_at i = HEADER_BYTES + RECORD_BYTES * i

abbrev pub kind_in : List ℕ → ℕ → ℕ
kind_in b i = number_at 1 b (record_at i)

abbrev pub bound_in : List ℕ → ℕ → ℕ
bound_in b i = number_at 1 b (record_at i + 1)

abbrev pub zeros_in : List ℕ → ℕ → ℕ
zeros_in b i = number_at 6 b (record_at i + 2)

abbrev pub first_in : List ℕ → ℕ → ℕ
first_in b i = number_at 8 b (record_at i + 8)

abbrev pub second_in : List ℕ → ℕ → ℕ
second_in b i = number_at 8 b (record_at i + 16)

-- what a register holds by its record; a limb that `well_laid` turns away is cut, so that every record has an answer
unfoldable pub held_by : ℕ → ℕ → ℕ → Held
held_by kind first second = cond (eqb kind 1) (Limbs (first % 2 ^ 30) (second % 2 ^ 30)) (Whole first)

abbrev pub held_in : List ℕ → ℕ → Held
held_in b i = held_by (kind_in b i) (first_in b i) (second_in b i)

-- f at n numbers, from i on
unfoldable pub table : {A : Type 0} → ℕ → ℕ → (ℕ → A) → List A
table zero i f = []
table (suc n) i f = f i ∷ table n (i + 1) f

unfoldable pub state_in : List ℕ → State
state_in b =
    record {
      pc = number_at 8 b 0;
      halted = eqb (number_at 1 b 8) 1;
      registers = registers (table 16 0 (λ i. kept (held_in b i))) (table 16 0 (λ i. waits (held_in b i))) (table 16 0 (bound_in b));
    }

-- a whole register's second number is 0, limbs are below 2^30, and there is no third kind
unfoldable pub numbers_fit : ℕ → ℕ → ℕ → Bool
numbers_fit kind first second = cond (eqb kind 1) (limbs_fit (Limbs first second)) (eqb kind 0 && eqb second 0)

unfoldable pub record_laid : List ℕ → ℕ → Bool
record_laid b i = eqb (zeros_in b i) 0 && numbers_fit (kind_in b i) (first_in b i) (second_in b i)

-- the bytes are those of some state: their number, the header and each record are as laid down ("A wrong length .. its header too")
unfoldable pub well_laid : List ℕ → Bool
well_laid b = eqb (length b) STATE_BYTES && leb (number_at 1 b 8) 1 && eqb (number_at 7 b 9) 0 && all_below (record_laid b) 16

-- and of one that the rules allow: its bounds are at most 64, and R0 is whole, zero, bound 0
unfoldable pub admissible : List ℕ → Bool
admissible b = well_laid b && well_formed (state_in b).registers

-- what is written whole: a lent slice of another size isn't written
unfoldable pub written : ℕ → List ℕ → List ℕ → List ℕ
written size new old = cond (eqb (length old) size) new old
