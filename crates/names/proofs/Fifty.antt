-- The fifty names, computed once over the list of opcodes: they differ, and the code's table has them. Assumes nothing.
use Rattle.std.specs.Prelude.{Some}
use Rattle.std.proofs.lemmas.Bool.{and_parts}
use mathlib.Core.Path.{◌≡◌, refl, sym, ap, ◌∙◌}
use mathlib.Core.Bool.{true}
use mathlib.Core.List.{List, map}
use Prim.Native.Nat.{ℕ, ◌-◌, ◌≤◌}
use lib.Dec.{leb}
use lib.ListN.{get_or}
use borrow.Author.Tests.{leb-true}
use Rattle.encoding.specs.Fields.{within}
use Rattle.labels.specs.Bytes.{key_from, key_of}
use Rattle.opcode.specs.Opcodes.{opcode_number, all, first_with, opcode_in}
use Rattle.opcode.specs.declared.Opcode.{Opcode}
use Rattle.opcode.specs.declared.Opcode.TheVariants as O
use Rattle.opcode.proofs.Arms.{everywhere}
use Rattle.opcode.proofs.Variants.{place, all-at}
use Rattle.names.specs.Names.{name_of, name_key}

-- an opcode's name is found, so no two have the same
pub found : (op : Opcode) → opcode_in name_key (name_key op) ≡ Some op
unfolding all first_with key_from
found = everywhere all O.Add place all-at (λ (op : Opcode). opcode_in name_key (name_key op)) (λ (op : Opcode). Some op) refl refl

pub distinct : (o p : Opcode) → name_of o ≡ name_of p → o ≡ p
distinct o p e = let q : Some o ≡ Some p = sym (found o) ∙ ap (λ (n : List ℕ). opcode_in name_key (key_of n)) e ∙ found p in cc

-- ---- the code's table
pub numbered : (op : Opcode) → (1 ≤ opcode_number op) × (opcode_number op ≤ 50)
unfolding all
numbered op =
    let w = everywhere all O.Add place all-at (λ (op : Opcode). within 1 50 (opcode_number op)) (λ (op : Opcode). true) refl refl op in
    (leb-true 1 (opcode_number op) (and_parts (leb 1 (opcode_number op)) (leb (opcode_number op) 50) w).0, leb-true (opcode_number op) 50 (and_parts (leb 1 (opcode_number op)) (leb (opcode_number op) 50) w).1)

pub key-at : (op : Opcode) → get_or (map name_key all) (opcode_number op - 1) 0 ≡ name_key op
unfolding all key_from
key-at = everywhere all O.Add place all-at (λ (op : Opcode). get_or (map name_key all) (opcode_number op - 1) 0) (λ (op : Opcode). name_key op) refl refl
