-- The states that refusal 9 turns away.
use Rattle.std.specs.Prelude.{ℕ, zero, suc, ◌^◌, Bool, true, false, not, ◌&&◌, ltb, leb, eqb, get_or}
use mathlib.Core.List.{List, replicate}
use Rattle.state.specs.Held.{Held, Whole, Limbs}
use Rattle.state.specs.Registers.{holds, noted, registers}
use Rattle.state.specs.declared.State.{State}
use Rattle.state.specs.declared.registers.Registers.{Registers}

-- "Accumulated limbs are below 2^30"
unfoldable pub limbs_fit : Held → Bool
limbs_fit (Whole n) = true
limbs_fit (Limbs low high) = ltb low (2 ^ 30) && ltb high (2 ^ 30)

unfoldable pub is_zero : Held → Bool
is_zero (Whole n) = eqb n 0
is_zero (Limbs low high) = false

-- "Bounds are notes of 0 to 64 bits"
unfoldable pub register_fits : Registers → ℕ → Bool
register_fits R n = leb (noted R n) 64 && limbs_fit (holds R n)

-- "R0 is whole, zero, bound 0"
unfoldable pub zero_fits : Registers → Bool
zero_fits R = is_zero (holds R 0) && eqb (noted R 0) 0

-- p holds at each number below n
unfoldable pub all_below : (ℕ → Bool) → ℕ → Bool
all_below p zero = true
all_below p (suc n) = p n && all_below p n

unfoldable pub well_formed : Registers → Bool
well_formed R = zero_fits R && all_below (register_fits R) 16

-- of the marks: no register is accumulated
unfoldable pub all_whole : List Bool → Bool
all_whole fs = all_below (λ n. not (get_or fs n false)) 16

-- "Fresh registers are whole 0, bound 0"
abbrev pub fresh_at : ℕ → State
fresh_at pc = record { pc = pc; halted = false; registers = registers (replicate 16 0) (replicate 16 false) (replicate 16 0) }
