-- A word that is not decoded is refused 4 or 5.
use Rattle.std.specs.Prelude.{Err, None, Ok, Option, Result, Some}
use Prim.Native.Nat.{ℕ, ◌/◌, ◌^◌, ◌≤◌}
use mathlib.Core.Path.{◌≡◌}
use mathlib.Core.Bool.{Bool, true, false, cond}
use native.Mathlib.Omega.{arith}
use lib.Dec.{eqb}
use Rattle.refusal.specs.Stops.{number_of, refusal_of}
use Rattle.refusal.specs.declared.Refusal.{Refusal}
use Rattle.opcode.specs.Opcodes.{form_of}
use Rattle.opcode.specs.declared.Opcode.{Opcode}
use Rattle.forms.specs.Forms.{used_bits}
use Rattle.instruction.specs.declared.Parts.{Parts}
use Rattle.words.specs.Words.{apart_of, found_apart, take_in, decoded_of, decode_in}

data FourOrFive : Result Parts Refusal → Type 0 where
  apart : {p : Parts} → FourOrFive (Ok p)
  refused : {r : Refusal} → 4 ≤ number_of r → number_of r ≤ 5 → FourOrFive (Err r)

by_bits : (clear : Bool) (p : Parts) (w : ℕ) → FourOrFive (cond clear (Ok p) (Err (refusal_of 5 w)))
by_bits true p w = apart
by_bits false p w = refused {r = refusal_of 5 w} (omega arith) (omega arith)

by-opcode : (f : Option Opcode) (w : ℕ) → FourOrFive (found_apart f w)
unfolding found_apart apart_of
by-opcode (Some op) w = by_bits (eqb (w / 2 ^ used_bits (form_of op)) 0) _ w
by-opcode None w = refused {r = refusal_of 4 w} (omega arith) (omega arith)

by_number : (t : Result Parts Refusal) → FourOrFive t → (r : Refusal) → decoded_of t ≡ Err r → (4 ≤ number_of r) × (number_of r ≤ 5)
unfolding decoded_of
by_number (Ok p) apart r e = let z : ◌≡◌ {A = ℕ} 0 1 = cc in absurd (omega arith)
by_number (Err q) (refused low high) r e =
    let same : r ≡ q = cc in
    rw same (low, high)

pub decoded-refused : (num : Opcode → ℕ) (w : ℕ) (r : Refusal) → decode_in num w ≡ Err r → (4 ≤ number_of r) × (number_of r ≤ 5)
unfolding take_in
decoded-refused num w = by_number (take_in num w) (by-opcode _ w)
