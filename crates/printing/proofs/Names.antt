-- The names of the fifty opcodes: how long they are, and the letters of their keys.
use Prim.Native.Nat.{ℕ}
use mathlib.Core.List.{List}
use mathlib.Core.Path.{◌≡◌, refl}
use lib.Dec.{eqb}
use lib.ListN.{length}
use Rattle.labels.specs.Bytes.{key_from}
use Rattle.opcode.proofs.Arms.{those, everywhere}
use Rattle.opcode.proofs.Variants.{place, all-at}
use Rattle.opcode.specs.Opcodes.{all}
use Rattle.opcode.specs.declared.Opcode.{Opcode}
use Rattle.opcode.specs.declared.Opcode.TheVariants as O
use Rattle.names.specs.Names.{name_of, name_key}
use Rattle.printing.specs.Passes.{places}

abbrev pub size : Opcode → ℕ
size op = length (name_of op)

-- the places of the opcodes whose names are n letters long
abbrev pub sized : ℕ → List ℕ
sized n = those (λ (op : Opcode). eqb (size op) n) 0 all

pub name-letters : (op : Opcode) → places 256 0 (size op) (name_key op) ≡ name_of op
unfolding all key_from places
name-letters = everywhere all O.Add place all-at (λ (op : Opcode). places 256 0 (size op) (name_key op)) name_of refl refl
