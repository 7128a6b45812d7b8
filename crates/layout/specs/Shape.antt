-- What every state of the program is, before any rule: sixteen registers, in numbers of 64 and of 8 bits.
use Rattle.std.specs.Prelude.{ℕ, ◌^◌, ◌<◌, ◌≡◌, length, get_or}
use Rattle.state.specs.declared.State.{State}

pub record Shaped (s : State) : Type 0 where
  pub pc-fits : s.pc < 2 ^ 64
  pub values_long : length s.registers.values ≡ 16
  pub accumulated-long : length s.registers.accumulated ≡ 16
  pub bounds-long : length s.registers.bounds ≡ 16
  pub value-fits : (k : ℕ) → get_or s.registers.values k 0 < 2 ^ 64
  pub bound-fits : (k : ℕ) → get_or s.registers.bounds k 0 < 2 ^ 8
