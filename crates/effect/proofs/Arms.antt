-- The last arm of a table takes the opcodes of other forms.
use Prim.Native.Nat.{ℕ}
use mathlib.Core.Path.{◌≡◌, ◌∙◌}
use mathlib.Core.Bool.{Bool, true, false, not}
use mathlib.Core.List.{List, map}
use lib.ListN.{get_or}
use types.Run.{OneOf}
use native.Mathlib.Omega.{arith}
use Rattle.effect.specs.Tables.{Where}
use Rattle.opcode.specs.Opcodes.{form_of, all}
use Rattle.opcode.specs.declared.Opcode.{Opcode}
use Rattle.opcode.specs.declared.Opcode.TheVariants as O
use Rattle.opcode.specs.declared.Form.{Form}
use Rattle.opcode.proofs.Arms.{those, arm}
use Rattle.opcode.proofs.Variants.{place, all-at}

-- an arm of the form, and the last one
pub of-form : {A B : Type 0} → A → Where true A B
of-form a = record { within = λ e. a; elsewhere = λ e. let z : ◌≡◌ {A = ℕ} 0 1 = cc in absurd (omega arith) }

abbrev others : (Form → Bool) → List ℕ
others f = those (λ (op : Opcode). not (f (form_of op))) 0 all

pub of_others : {A B : Type 0} (f : Form → Bool)
    → map (λ (k : ℕ). f (form_of (get_or all k O.Add))) (others f) ≡ map (λ (k : ℕ). false) (others f)
    → (op : Opcode) → OneOf (others f) (place op) → B → Where (f (form_of op)) A B
of_others {A} {B} f e op h b =
    let z : false ≡ f (form_of op) = arm all O.Add place all-at (λ (op : Opcode). f (form_of op)) false (others f) e op h in
    record { within = λ q. never (z ∙ q); elsewhere = λ q. b }
  where
    never : false ≡ true → A
    never q = let z : ◌≡◌ {A = ℕ} 0 1 = cc in absurd (omega arith)
