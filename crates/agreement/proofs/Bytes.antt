-- A state written as bytes and read again: what the bytes hold of it is decided by the registers' values.
use Prim.Native.Nat.{ℕ, zero, suc, ◌+◌, ◌*◌, ◌%◌, ◌^◌, ◌<◌}
use mathlib.Core.Path.{◌≡◌, refl, ap, ◌∙◌, fun_ext}
use mathlib.Core.Bool.{Bool, true, false}
use mathlib.Core.List.{List, ◌∷◌}
use lib.Dec.{eqb, lit<}
use native.Mathlib.Omega.{arith}
use Rattle.memory.specs.Bytes.{bit, number_of_bytes, bytes}
use Rattle.state.specs.Held.{Held, Whole, Limbs, low_of, high_of, value_of, held_of, kept, waits}
use Rattle.state.specs.declared.registers.Registers.{Registers}
use Rattle.state.specs.Registers.{registers, holds, noted}
use Rattle.state.specs.Formed.{well_formed}
use Rattle.state.specs.declared.State.{State}
use Rattle.execute.specs.World.{World, world, world_of}
use Rattle.layout.specs.Layout.{header_bytes, kind_of, first_of, second_of, record_bytes, records, state_bytes, held_by, table, state_in}
use Rattle.host.specs.Call.{state_of}
use Rattle.memory.proofs.Numbers.{number-bytes}
use Rattle.layout.proofs.Contents.{held-packed}
use Rattle.agreement.specs.Reading.{read_values, no_marks, read_all, read_world}
use Rattle.agreement.proofs.Formed.{formed}
use Rattle.agreement.proofs.Reading.{read_held}

-- a number's n bytes, read
abbrev again : ℕ → ℕ → ℕ
again n v = number_of_bytes (bytes n v)

abbrev held_again : Held → Held
held_again h = held_by (again 1 (kind_of h)) (again 8 (first_of h)) (again 8 (second_of h))

abbrev state_again : State → State
state_again s =
    let R = s.registers in
    record {
      pc = again 8 s.pc;
      halted = eqb (again 1 (bit s.halted)) 1;
      registers = registers (table 16 0 (λ i. kept (held_again (holds R i)))) (table 16 0 (λ i. waits (held_again (holds R i)))) (table 16 0 (λ i. again 1 (noted R i)));
    }

state-again : (s : State) → state_in (state_bytes s) ≡ state_again s
unfolding state_in state_bytes header_bytes records record_bytes table bytes number_of_bytes
state-again s = refl

-- ---- what is read of a table of registers
read_table : (n i : ℕ) (f : ℕ → Held) → read_values (table n i (λ k. kept (f k))) (table n i (λ k. waits (f k))) ≡ table n i (λ k. value_of (held_of (waits (f k)) (kept (f k))))
unfolding read_values table
read_table zero i f = refl
read_table (suc n) i f = ap (λ (l : List ℕ). value_of (held_of (waits (f i)) (kept (f i))) ∷ l) (read_table n (i + 1) f)

no-marks : (n i : ℕ) (f : ℕ → Bool) → no_marks (table n i f) ≡ table n i (λ _. false)
unfolding no_marks table
no-marks zero i f = refl
no-marks (suc n) i f = ap (λ (l : List Bool). false ∷ l) (no-marks n (i + 1) f)

whole_again : (n : ℕ) → held_again (Whole n) ≡ Whole (again 8 n)
unfolding kind_of first_of second_of held_by bytes number_of_bytes
whole_again n = refl

-- limbs below 2^30, and their value below 2^40, fit into eight bytes
value-again : (h : Held) → (low_of h < 2 ^ 30) × (high_of h < 2 ^ 30) → value_of (held_again h) ≡ again 8 (value_of h)
unfolding value_of low_of high_of kind_of first_of second_of held_by
value-again (Whole n) s = ap value_of (whole_again n)
value-again (Limbs low high) s =
    rw (number-bytes 1 1 (lit< tt), number-bytes 8 low (omega (arith, s.0)), number-bytes 8 high (omega (arith, s.1)), number-bytes 8 ((low + 2 ^ 20 * high) % 2 ^ 40) (omega arith))
    (omega (arith, s.0, s.1))

-- the value is that of the register read
same : (R : Registers) (i : ℕ) → again 8 (value_of (holds R i)) ≡ again 8 (value_of (holds (read_all R) i))
unfolding value_of
same R i = rw (read_held R i)

-- ---- the world of values that the bytes of a world hold
abbrev pub in_bytes : World → World
in_bytes v =
    world (again 8 v.pc) (eqb (again 1 (bit v.halted)) 1)
    (registers (table 16 0 (λ i. again 8 (value_of (holds v.registers i)))) (table 16 0 (λ _. false)) (table 16 0 (λ i. again 1 (noted v.registers i))))
    v.memory

pub bytes_read : (w : World) → well_formed w.registers ≡ true → read_world (world_of (state_in (state_bytes (state_of w))) w.memory) ≡ in_bytes (read_world w)
bytes_read w e =
    let R = w.registers in
    rw (state-again (state_of w), read_table 16 0 (λ i. held_again (holds R i)), no-marks 16 0 (λ i. waits (held_again (holds R i))))
    (ap (λ (f : ℕ → ℕ). world (again 8 w.pc) (eqb (again 1 (bit w.halted)) 1) (registers (table 16 0 f) (table 16 0 (λ _. false)) (table 16 0 (λ i. again 1 (noted R i)))) w.memory)
    (fun_ext (λ i. ap value_of (held-packed (again 1 (kind_of (holds R i))) _ _) ∙ value-again (holds R i) ((formed R e).small i) ∙ same R i)))
