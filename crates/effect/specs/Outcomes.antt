-- What an instruction does, or why it is refused.
use Rattle.std.specs.Prelude.{ℕ, Bool}
use Rattle.refusal.specs.declared.Refusal.{Refusal}
use Rattle.memory.specs.declared.Size.{Size}

pub data Goes : Type 0 where
  On : Goes
  Ebreak : Goes
  Ecall : Goes

pub data Stores : Type 0 where
  Nothing : Stores
  Bytes : Size → ℕ → ℕ → Stores

-- the register that is written (R0: none), whether its value is to be checked, where the run goes on, and what is stored
pub record Effect : Type 0 where
  pub rd : ℕ
  pub value : ℕ
  pub bound : ℕ
  pub checked : Bool
  pub next : ℕ
  pub goes : Goes
  pub stores : Stores

pub data Outcome : Type 0 where
  Does : Effect → Outcome
  Refuses : Refusal → Outcome
