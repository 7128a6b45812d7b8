-- The bound that an effect writes is at most 64, where the notes are; and document 01's notes are.
use Rattle.std.specs.Prelude.{Err, Ok, Result, ⊤}
use Prim.Native.Nat.{ℕ, ◌≤◌, ◌%◌}
use mathlib.Core.Path.{◌≡◌, refl}
use mathlib.Core.List.{List}
use native.Mathlib.Omega.{arith}
use lib.Dec.{leb, eqb}
use Rattle.refusal.specs.declared.Refusal.{Refusal}
use Rattle.bound.specs.Bits.{bits_of, after_srl}
use Rattle.effect.specs.Notes.{Notes, result_bits, document_notes}
use Rattle.effect.specs.Operations.{moves}
use Rattle.effect.specs.Effects.{Seen, dividing, moving, on_loaded, on_storable, loading, storing, effect}
use Rattle.effect.specs.Outcomes.{Effect, Outcome, Does, Refuses}
use Rattle.instruction.specs.declared.Operation.{Operation}
use Rattle.instruction.specs.declared.Operation.TheVariants.{Mulh, And, Or, Xor, Sll, Srl, Sra, Slt, Sltu, Sge, Sgeu, Seq, Sne}
use Rattle.instruction.specs.declared.Instruction.{Instruction}
use Rattle.instruction.specs.declared.Instruction.TheVariants.{Add, Sub, Addi, Mul, Divide, Op, OpImm, Move, Load, Store, Branch, Jal, Jalr, Ecall, Ebreak}
use Rattle.agreement.specs.Keeping.{Capped}
use Rattle.agreement.proofs.Cases.{cond-case}

data Bounded : Outcome → Type 0 where
  does : {e : Effect} → e.bound ≤ 64 → Bounded (Does e)
  refuses : {r : Refusal} → Bounded (Refuses r)

goes : {e : Effect} → e.bound ≡ 0 → Bounded (Does e)
goes {e} z = let l : e.bound ≤ 64 = omega arith in does l

bounded-loaded : (f : ℕ → Outcome) (l : Result ℕ Refusal) → ((v : ℕ) → Bounded (f v)) → Bounded (on_loaded f l)
unfolding on_loaded
bounded-loaded f (Ok v) h = h v
bounded-loaded f (Err r) h = refuses

bounded-storable : (o : Outcome) (s : Result ⊤ Refusal) → Bounded o → Bounded (on_storable o s)
unfolding on_storable
bounded-storable o (Ok tt) h = h
bounded-storable o (Err r) h = refuses

module _ (N : Notes) (c : Capped N) where
  effect-bounded : (i : Instruction) (v : Seen) (m : List ℕ) → Bounded (effect N i v m)
  unfolding effect dividing moving loading storing
  effect-bounded (Add rd rs1 rs2) v m = does (c.sum _ _)
  effect-bounded (Sub rd rs1 rs2) v m = does (c.difference _ _)
  effect-bounded (Addi rd rs1 imm) v m = does (c.sum _ _)
  effect-bounded (Mul rd rs1 rs2) v m = does (c.product _ _)
  effect-bounded (Divide op rd rs1 rs2) v m = cond-case Bounded (eqb (v.value rs2) 0) _ _ (λ _. refuses) (λ _. does (c.quotient op _ _))
  effect-bounded (Op op rd rs1 rs2) v m = does (c.result op _ _ _)
  effect-bounded (OpImm op rd rs1 imm) v m = does (c.result _ _ _ _)
  effect-bounded (Move op rd rs1 rs2) v m = cond-case Bounded (moves op (v.value rs2)) _ _ (λ _. does (c.moved _ _)) (λ _. goes refl)
  effect-bounded (Load op rd rs1 imm) v m = bounded-loaded _ _ (λ n. does (c.loaded op))
  effect-bounded (Store op rs1 rs2 imm) v m = bounded-storable _ _ (goes refl)
  effect-bounded (Branch op rs1 rs2 imm) v m = goes refl
  effect-bounded (Jal rd imm) v m = does (c.link _)
  effect-bounded (Jalr rd rs1 imm) v m = does (c.link _)
  effect-bounded Ecall v m = goes refl
  effect-bounded Ebreak v m = goes refl

  pub effect-bound : (i : Instruction) (v : Seen) (m : List ℕ) (e : Effect) → effect N i v m ≡ Does e → e.bound ≤ 64
  effect-bound i v m e p = it (rw p at (effect-bounded i v m))
    where
      it : {o : Effect} → Bounded (Does o) → o.bound ≤ 64
      it (does l) = l

bits-capped : (v : ℕ) → bits_of v ≤ 64
unfolding bits_of
bits-capped v = omega arith

result-capped : (op : Operation) (x y b : ℕ) → result_bits op x y b ≤ 64
unfolding result_bits
result-capped Mulh x y b = omega arith
result-capped And x y b = omega arith
result-capped Or x y b = omega arith
result-capped Xor x y b = omega arith
result-capped Sll x y b = omega arith
result-capped Srl x y b = omega arith
result-capped Sra x y b = cond-case (λ (n : ℕ). n ≤ 64) (leb 40 x) 40 (after_srl x (b % 64)) (λ _. omega arith) (λ _. omega arith)
result-capped Slt x y b = omega arith
result-capped Sltu x y b = omega arith
result-capped Sge x y b = omega arith
result-capped Sgeu x y b = omega arith
result-capped Seq x y b = omega arith
result-capped Sne x y b = omega arith

pub document-capped : Capped document_notes
document-capped =
    record {
      sum = λ x y. omega arith;
      difference = λ x y. omega arith;
      product = λ x y. omega arith;
      quotient = λ op x y. omega arith;
      result = result-capped;
      moved = λ x y. omega arith;
      loaded = λ op. omega arith;
      link = bits-capped;
    }
