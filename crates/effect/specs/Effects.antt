-- What an instruction does, as a function of what it sees: the pc, the registers' values and bounds, and memory. It is decided before
-- anything changes, and it is the same in both modes.
use Rattle.refusal.specs.declared.Refusal.{Refusal}
use Rattle.std.specs.Prelude.{Err, Ok, Result, ⊤, ℕ, ◌*◌, ◌/◌, Bool, false, cond, List, length, eqb}
use Rattle.refusal.specs.Stops.{refusal_of}
use Rattle.value.specs.Forty.{add40, sub40, mul40}
use Rattle.bound.specs.Bits.{needs_check}
use Rattle.memory.specs.Memory.{load_of, store_of}
use Rattle.memory.specs.declared.Size.{Size}
use Rattle.state.specs.Held.{value_of}
use Rattle.state.specs.declared.registers.Registers.{Registers}
use Rattle.state.specs.Registers.{holds, noted}
use Rattle.effect.specs.Operations.{plus64, divided, result, register_form, moves, taken, load_size, loaded, store_size}
use Rattle.effect.specs.Notes.{Notes}
use Rattle.instruction.specs.declared.Instruction.{Instruction}
use Rattle.instruction.specs.declared.Instruction.TheVariants.{Add, Sub, Addi, Mul, Divide, Op, OpImm, Move, Load, Store, Branch, Jal, Jalr, Ecall, Ebreak}
use Rattle.instruction.specs.declared.Division.{Division}
use Rattle.instruction.specs.declared.MoveKind.{MoveKind}
use Rattle.instruction.specs.declared.LoadKind.{LoadKind}
use Rattle.instruction.specs.declared.StoreKind.{StoreKind}
use Rattle.effect.specs.Outcomes.{Goes, Nothing, Bytes, Outcome, Does, Refuses}
use Rattle.effect.specs.Outcomes as G

pub record Seen : Type 0 where
  pub pc : ℕ
  pub value : ℕ → ℕ
  pub bound : ℕ → ℕ

unfoldable pub seen : ℕ → Registers → Seen
seen pc R = record { pc = pc; value = λ n. value_of (holds R n); bound = λ n. noted R n }

-- the effects: a register written, of which a check may be needed; nothing but going on; bytes stored
abbrev pub writing : Bool → ℕ → ℕ → ℕ → ℕ → Outcome
writing checked rd v b next = Does (record { rd = rd; value = v; bound = b; checked = checked; next = next; goes = G.On; stores = Nothing })

abbrev pub writes : ℕ → ℕ → ℕ → ℕ → Outcome
writes rd v b next = writing false rd v b next

-- "where a check is needed": above 40 bits
abbrev pub writes_checked : ℕ → ℕ → ℕ → ℕ → Outcome
writes_checked rd v b next = writing (needs_check b) rd v b next

abbrev pub goes_to : ℕ → Goes → Outcome
goes_to next g = Does (record { rd = 0; value = 0; bound = 0; checked = false; next = next; goes = g; stores = Nothing })

abbrev pub stores_at : Size → ℕ → ℕ → ℕ → Outcome
stores_at size address v next =
    Does (record { rd = 0; value = 0; bound = 0; checked = false; next = next; goes = G.On; stores = Bytes size address v })

-- "1: divisor 0"
unfoldable pub dividing : Notes → Division → ℕ → ℕ → ℕ → ℕ → ℕ → ℕ → Outcome
dividing N op pc rd a b x y = cond (eqb b 0) (Refuses (refusal_of 1 pc)) (writes rd (divided op a b) (N.quotient op x y) (plus64 pc 4))

-- a move that happens notes the larger of the source's and the destination's bound; one that does not leaves rd as it is
unfoldable pub moving : Notes → MoveKind → ℕ → ℕ → ℕ → ℕ → ℕ → ℕ → Outcome
moving N op pc rd a b x z = cond (moves op b) (writes rd a (N.moved x z) (plus64 pc 4)) (goes_to (plus64 pc 4) G.On)

-- a load or a store is refused as memory says (3, or else 2), or does what follows
unfoldable pub on_loaded : (ℕ → Outcome) → Result ℕ Refusal → Outcome
on_loaded f (Ok v) = f v
on_loaded f (Err r) = Refuses r

unfoldable pub on_storable : Outcome → Result ⊤ Refusal → Outcome
on_storable does (Ok tt) = does
on_storable does (Err r) = Refuses r

unfoldable pub loading : Notes → LoadKind → ℕ → ℕ → ℕ → List ℕ → Outcome
loading N op pc rd address m = on_loaded (λ v. writes rd (loaded op v) (N.loaded op) (plus64 pc 4)) (load_of (load_size op) m address)

unfoldable pub storing : StoreKind → ℕ → ℕ → ℕ → List ℕ → Outcome
storing op pc address v m = on_storable (stores_at (store_size op) address v (plus64 pc 4)) (store_of (store_size op) (length m) address)

unfoldable pub effect : Notes → Instruction → Seen → List ℕ → Outcome
effect N (Add rd rs1 rs2) v m =
    writes_checked rd (add40 (v.value rs1) (v.value rs2)) (N.sum (v.bound rs1) (v.bound rs2)) (plus64 v.pc 4)
effect N (Sub rd rs1 rs2) v m = writes rd (sub40 (v.value rs1) (v.value rs2)) (N.difference (v.bound rs1) (v.bound rs2)) (plus64 v.pc 4)
effect N (Addi rd rs1 imm) v m = writes rd (add40 (v.value rs1) imm) (N.sum (v.bound rs1) (N.immediate imm)) (plus64 v.pc 4)
effect N (Mul rd rs1 rs2) v m =
    writes_checked rd (mul40 (v.value rs1) (v.value rs2)) (N.product (v.bound rs1) (v.bound rs2)) (plus64 v.pc 4)
effect N (Divide op rd rs1 rs2) v m = dividing N op v.pc rd (v.value rs1) (v.value rs2) (v.bound rs1) (v.bound rs2)
effect N (Op op rd rs1 rs2) v m =
    writes rd (result op (v.value rs1) (v.value rs2)) (N.result op (v.bound rs1) (v.bound rs2) (v.value rs2)) (plus64 v.pc 4)
effect N (OpImm op rd rs1 imm) v m =
    writes rd (result (register_form op) (v.value rs1) imm) (N.result (register_form op) (v.bound rs1) (N.immediate imm) imm) (plus64 v.pc 4)
effect N (Move op rd rs1 rs2) v m = moving N op v.pc rd (v.value rs1) (v.value rs2) (v.bound rs1) (v.bound rd)
effect N (Load op rd rs1 imm) v m = loading N op v.pc rd (plus64 (v.value rs1) imm) m
effect N (Store op rs1 rs2 imm) v m = storing op v.pc (plus64 (v.value rs1) imm) (v.value rs2) m
effect N (Branch op rs1 rs2 imm) v m = goes_to (plus64 v.pc (cond (taken op (v.value rs1) (v.value rs2)) imm 4)) G.On
effect N (Jal rd imm) v m = writes rd (plus64 v.pc 4) (N.link (plus64 v.pc 4)) (plus64 v.pc imm)
-- the target is of the register as it was, its lowest bit cleared
effect N (Jalr rd rs1 imm) v m = writes rd (plus64 v.pc 4) (N.link (plus64 v.pc 4)) (plus64 (v.value rs1) imm / 2 * 2)
-- "Ecall moves on by 4"
effect N Ecall v m = goes_to (plus64 v.pc 4) G.Ecall
-- "Ebreak keeps the pc"
effect N Ebreak v m = goes_to v.pc G.Ebreak
