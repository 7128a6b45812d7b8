-- The forms are document 01's kinds of words, by the numbers of the opcodes.
use Rattle.std.proofs.Common.{◌≡◌, ℕ, Bool, true, false, List, [], ◌∷◌, refl}
use Rattle.encoding.specs.Kinds.{is_r, is_i, is_s, is_b, is_j}
use Rattle.opcode.specs.Opcodes.{opcode_number, form_of, all}
use Rattle.opcode.specs.declared.Opcode.{Opcode}
use Rattle.opcode.specs.declared.Opcode.TheVariants as O
use Rattle.opcode.specs.declared.Form.{Form}
use Rattle.opcode.specs.declared.Form.TheVariants.{R, I, Shift, S, B, J, Alone}
use Rattle.opcode.proofs.Arms.{everywhere}
use Rattle.opcode.proofs.Variants.{place, all-at}

-- of kind R, I, S, B, J
abbrev pub kinds_at : ℕ → List Bool
kinds_at n = is_r n ∷ is_i n ∷ is_s n ∷ is_b n ∷ is_j n ∷ []

abbrev pub kinds_of : Form → List Bool
kinds_of R = true ∷ false ∷ false ∷ false ∷ false ∷ []
kinds_of I = false ∷ true ∷ false ∷ false ∷ false ∷ []
kinds_of Shift = false ∷ true ∷ false ∷ false ∷ false ∷ []
kinds_of S = false ∷ false ∷ true ∷ false ∷ false ∷ []
kinds_of B = false ∷ false ∷ false ∷ true ∷ false ∷ []
kinds_of J = false ∷ false ∷ false ∷ false ∷ true ∷ []
kinds_of Alone = true ∷ false ∷ false ∷ false ∷ false ∷ []

pub kinds : (op : Opcode) → kinds_at (opcode_number op) ≡ kinds_of (form_of op)
unfolding all
kinds = everywhere all O.Add place all-at (λ (op : Opcode). kinds_at (opcode_number op)) (λ (op : Opcode). kinds_of (form_of op)) refl refl
