-- What the sixteen registers hold. Above this file the definitions see them through `holds`, `noted`, `put` and `normalise` alone.
use Rattle.std.specs.Prelude.{ℕ, zero, suc, ◌%◌, Bool, false, List, get_or, set}
use Rattle.state.specs.Held.{Held, settled, held_of, kept, waits}
use Rattle.state.specs.declared.registers.Registers.{Registers}

abbrev pub registers : List ℕ → List Bool → List ℕ → Registers
registers vs fs bs = record { values = vs; accumulated = fs; bounds = bs }

-- registers are numbered modulo 16
abbrev pub held_at : List ℕ → List Bool → ℕ → Held
held_at vs fs n = held_of (get_or fs (n % 16) false) (get_or vs (n % 16) 0)

abbrev pub bound_at : List ℕ → ℕ → ℕ
bound_at bs n = get_or bs (n % 16) 0

abbrev pub holds : Registers → ℕ → Held
holds R n = held_at R.values R.accumulated n

abbrev pub noted : Registers → ℕ → ℕ
noted R n = bound_at R.bounds n

-- R0 "ignores writes of either"
unfoldable pub place : ℕ → ℕ → Bool → ℕ → Registers → Registers
place zero v w b R = R
place (suc k) v w b R = registers (set R.values (suc k) v) (set R.accumulated (suc k) w) (set R.bounds (suc k) b)

abbrev pub put : Registers → ℕ → Held → ℕ → Registers
put R n h b = place (n % 16) (kept h) (waits h) b R

-- normalising "makes it whole, keeps its bound"
unfoldable pub normalise : ℕ → Registers → Registers
normalise n R = put R n (settled (holds R n)) (noted R n)

-- R1 to Rk, one after another
unfoldable pub normalise_to : ℕ → Registers → Registers
normalise_to zero R = R
normalise_to (suc k) R = normalise (suc k) (normalise_to k R)
