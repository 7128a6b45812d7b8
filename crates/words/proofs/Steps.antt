-- Calls joined, over plain values.
use Rattle.std.specs.Prelude.{Err, Ok}
use Prim.Native.Nat.{ℕ, ◌/◌, ◌^◌}
use mathlib.Core.Path.{◌≡◌, sym, ap, ◌∙◌}
use borrow.Author.Tests.{eq-eqb, ne_eqb}
use Rattle.encoding.specs.Fields.{field}
use Rattle.refusal.specs.declared.Refusal.TheVariants.{UnusedBits}
use Rattle.opcode.specs.Opcodes.{form_of}
use Rattle.forms.specs.Forms.{used_bits, immediate_of}
use Rattle.words.specs.Words.{apart_of}
use Rattle.opcode.specs.declared.Opcode.{Opcode}
use Rattle.opcode.specs.declared.Form.{Form}

module _ (op : Opcode) (f : Form) (u w : ℕ) (e : f ≡ form_of op) (h : u ≡ w / 2 ^ used_bits f) where
  pub apart-refused : (u ≡ 0 → ⊥) → Err (UnusedBits w) ≡ apart_of op w
  unfolding apart_of
  apart-refused n = rw (ne_eqb (w / 2 ^ used_bits (form_of op)) 0 (λ z. n (h ∙ ap (λ (g : Form). w / 2 ^ used_bits g) e ∙ z)))

  pub apart-made : (a b c i : ℕ) → u ≡ 0 → a ≡ field 7 4 w → b ≡ field 11 4 w → c ≡ field 15 4 w → i ≡ immediate_of f w
      → Ok (record { op = op; a = a; b = b; c = c; imm = i }) ≡ apart_of op w
  unfolding apart_of
  apart-made a b c i z p q r k =
      rw (eq-eqb (w / 2 ^ used_bits (form_of op)) 0 (ap (λ (g : Form). w / 2 ^ used_bits g) (sym e) ∙ sym h ∙ z), p, q, r, k, e)
