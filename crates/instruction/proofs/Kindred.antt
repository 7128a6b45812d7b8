-- The opcodes of one kind, by their places among the fifty.
use mathlib.Core.Path.{◌≡◌}
use mathlib.Core.List.{List, map}
use Prim.Native.Nat.{ℕ}
use lib.Dec.{eqb}
use lib.ListN.{get_or}
use types.Run.{OneOf}
use Rattle.opcode.specs.Opcodes.{all}
use Rattle.opcode.specs.declared.Opcode.{Opcode}
use Rattle.opcode.specs.declared.Opcode.TheVariants as O
use Rattle.opcode.proofs.Arms.{those, along, arm}
use Rattle.opcode.proofs.Variants.{place, all-at}
use Rattle.instruction.specs.Operands.{built, instruction_of}
use Rattle.instruction.specs.declared.Instruction.{Instruction}
use Rattle.instruction.specs.declared.Parts.{Parts}

-- the places of the opcodes that f takes where it takes Add
abbrev pub alike : (Opcode → ℕ) → List ℕ
alike f = those (λ (op : Opcode). eqb (f op) (f O.Add)) 0 all

-- the last arm of a `match` on an opcode: they are the opcodes that it takes
pub others : {X : Type 0} (tag : X → ℕ) (f : Opcode → X) (x : X)
    → map (λ (k : ℕ). f (get_or all k O.Add)) (alike (λ (op : Opcode). tag (f op))) ≡ map (λ (k : ℕ). x) (alike (λ (op : Opcode). tag (f op)))
    → (op : Opcode) → OneOf (alike (λ (op : Opcode). tag (f op))) (place op) → x ≡ f op
others tag f x = arm all O.Add place all-at f x (alike (λ (op : Opcode). tag (f op)))

-- an instruction that is the joined one at some places
pub at_places : (p : Parts) (f : Opcode → Instruction) (ks : List ℕ)
    → map (λ (k : ℕ). f (get_or all k O.Add)) ks ≡ map (λ (k : ℕ). built (get_or all k O.Add) p.a p.b p.c p.imm) ks
    → OneOf ks (place p.op) → f p.op ≡ instruction_of p
at_places p f ks e = along all O.Add place all-at f (λ (op : Opcode). built op p.a p.b p.c p.imm) ks e p.op
