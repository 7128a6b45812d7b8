-- A word by its form: what it settles, which forms have no limb form, and the word taken apart.
use Rattle.std.specs.Prelude.{None, Option, Result, Some}
use Rattle.refusal.specs.declared.Refusal.{Refusal}
use Prim.Native.Nat.{ℕ, ◌/◌, ◌^◌}
use mathlib.Core.Path.{◌≡◌, refl, sym, ap, ◌∙◌}
use mathlib.Core.Bool.{Bool, true, false, cond, not, ◌&&◌}
use mathlib.Core.List.{List, [], map}
use lib.ListN.{length}
use lib.Dec.{eqb}
use borrow.Author.Tests.{eq-eqb}
use Rattle.encoding.specs.Fields.{field}
use Rattle.refusal.specs.declared.Refusal.TheVariants.{UnusedBits, BadOpcode}
use Rattle.memory.specs.Memory as M
use Rattle.opcode.specs.Opcodes.{form_of, all, opcode_number, opcode_in}
use Rattle.opcode.specs.declared.Opcode.{Opcode}
use Rattle.opcode.specs.declared.Opcode.TheVariants as O
use Rattle.opcode.specs.declared.Form.{Form}
use Rattle.opcode.specs.declared.Form.TheVariants as F
use Rattle.opcode.proofs.Arms.{everywhere}
use Rattle.opcode.proofs.Variants.{place, all-at, form-place}
use Rattle.forms.specs.Forms.{used_bits, immediate_of}
use Rattle.instruction.specs.Operands.{built, instruction_of}
use Rattle.instruction.specs.Kinds.{store_kind_of, branch_kind_of}
use Rattle.instruction.specs.declared.Instruction.{Instruction}
use Rattle.instruction.specs.declared.Instruction.TheVariants.{Store, Branch, Jal, Ecall, Ebreak}
use Rattle.instruction.specs.declared.Parts.{Parts}
use Rattle.words.specs.Words.{apart_of, found_apart, take_in, decoded_of, decode_in}
use Rattle.words.proofs.Steps.{apart-refused, apart-made}
use Rattle.state.specs.declared.registers.Registers.{Registers}
use Rattle.state.specs.Registers.{holds, normalise}
use Rattle.state.specs.Held.{value_of}
use Rattle.state.specs.Registers as Rg
use Rattle.effect.specs.Notes.{Notes, document_notes}
use Rattle.effect.specs.Operations.{plus64, taken, store_size}
use Rattle.effect.specs.Outcomes.{Outcome}
use Rattle.effect.specs.Outcomes as G
use Rattle.effect.specs.Effects.{seen, writes, goes_to, stores_at, on_storable, storing, effect}
use Rattle.deferred.specs.Sources.{sources, normalise_each}
use Rattle.deferred.specs.Limbs.{limbed, limbs, limbs_if}
use Rattle.deferred.proofs.Forms.{placed, settles-placed}
use Rattle.execute.specs.World.{world, Stepped, stepped, refused, done}
use Rattle.execute.specs.Modes.{limbs_in, settle_sources}
use Rattle.execute.specs.Rules.{rules_of, obey}
use Rattle.execute.specs.Starts.{started, obeyed, doing, on_whole, carried, settle_two}
use Rattle.execute.specs.declared.Mode.{Mode}
use Rattle.execute.specs.declared.Mode.TheVariants.{Plain, Deferred}
use Rattle.execute.specs.declared.Start.{Start}
use Rattle.execute.specs.declared.Went.TheVariants as W
use Rattle.execute.proofs.Ending.{went-halt}
use Rattle.execute.proofs.Finish.{not-on-limbs}

abbrev parts : Opcode → ℕ → ℕ → ℕ → ℕ → Parts
parts op a b c imm = record { op = op; a = a; b = b; c = c; imm = imm }

pub none : (S : Registers) → normalise 0 S ≡ S
unfolding normalise Rg.place
none S = refl

-- of two registers x and y that a form settles
pub settled : (k : Mode) (f : Form) (op : Opcode) (a b c imm x y : ℕ) (S : Registers) → form_of op ≡ f
    → normalise y (normalise x S) ≡ placed f (parts op a b c imm) S → settle_two k x y S ≡ settle_sources k (built op a b c imm) S
unfolding settle_sources
settled Plain f op a b c imm x y S e q = refl
settled Deferred f op a b c imm x y S e q = q ∙ settles-placed (parts op a b c imm) f S e

-- an outcome that is the instruction's effect, on what its form settles
pub decided : (s : Start) (i : Instruction) (R : Registers) (m : List ℕ) (o : Outcome) (T : Registers)
    → o ≡ effect (rules_of s.choices).notes i (seen s.pc R) m → T ≡ settle_sources s.choices.mode i R → carried s o R T m ≡ on_whole s i R m
decided s i R m o T e f = rw (e, f)

-- an instruction known by the form of its opcode, or by its opcode: f says which
module _ (f : Opcode → Bool) (g : Opcode → Instruction) (op : Opcode) (a b c imm : ℕ) where
  known : cond (f O.Add) (built O.Add a b c imm) (g O.Add) ≡ g O.Add
      → map (λ (op : Opcode). cond (f op) (built op a b c imm) (g op)) all ≡ map g all → f op ≡ true → built op a b c imm ≡ g op
  known z e h = rw h at (everywhere all O.Add place all-at (λ (op : Opcode). cond (f op) (built op a b c imm) (g op)) g z e op)

abbrev of : Form → Opcode → Bool
of f op = eqb (form-place (form_of op)) (form-place f)

of-form : (f : Form) (op : Opcode) → form_of op ≡ f → of f op ≡ true
of-form f op e = eq-eqb _ _ (ap form-place e)

module _ (N : Notes) (op : Opcode) (a b c imm pc : ℕ) (R : Registers) (m : List ℕ) where
  pub branched : form_of op ≡ F.B
      → goes_to (plus64 pc (cond (taken (branch_kind_of op) (value_of (holds R a)) (value_of (holds R b))) imm 4)) G.On
      ≡ effect N (built op a b c imm) (seen pc R) m
  unfolding effect seen all
  branched e = rw (known (of F.B) (λ (op : Opcode). Branch (branch_kind_of op) a b imm) op a b c imm refl refl (of-form F.B op e))

  pub stored : form_of op ≡ F.S
      → on_storable (stores_at (store_size (store_kind_of op)) (plus64 (value_of (holds R a)) imm) (value_of (holds R b)) (plus64 pc 4))
      (M.store_of (store_size (store_kind_of op)) (length m) (plus64 (value_of (holds R a)) imm))
      ≡ effect N (built op a b c imm) (seen pc R) m
  unfolding effect seen storing all
  stored e = rw (known (of F.S) (λ (op : Opcode). Store (store_kind_of op) a b imm) op a b c imm refl refl (of-form F.S op e))

  pub jumped : form_of op ≡ F.J → writes a (plus64 pc 4) (N.link (plus64 pc 4)) (plus64 pc imm) ≡ effect N (built op a b c imm) (seen pc R) m
  unfolding effect seen all
  jumped e = rw (known (of F.J) (λ (op : Opcode). Jal a imm) op a b c imm refl refl (of-form F.J op e))

-- Jal has no source
pub unsettled : (k : Mode) (op : Opcode) (a b c imm : ℕ) (S : Registers) → form_of op ≡ F.J → S ≡ settle_sources k (built op a b c imm) S
unfolding settle_sources
unsettled Plain op a b c imm S e = refl
unsettled Deferred op a b c imm S e = settles-placed (parts op a b c imm) F.J S e

abbrev pub is_ecall : Opcode → Bool
is_ecall op = eqb (opcode_number op) (opcode_number O.Ecall)

-- the forms that have no limb form
abbrev unlimbed : Form → Bool
unlimbed F.R = false
unlimbed F.I = false
unlimbed F.Shift = true
unlimbed F.S = true
unlimbed F.B = true
unlimbed F.J = true
unlimbed F.Alone = true

none-limbed : (N : Notes) (op : Opcode) (a b c imm : ℕ) (S : Registers) → limbs_if (unlimbed (form_of op)) N (built op a b c imm) S ≡ limbed false S
unfolding limbs all
none-limbed N op a b c imm S =
    everywhere all O.Add place all-at
    (λ (op : Opcode). limbs_if (unlimbed (form_of op)) N (built op a b c imm) S)
    (λ (op : Opcode). limbed false S)
    refl
    refl
    op

pub no-limb-form : (k : Mode) (N : Notes) (f : Form) (op : Opcode) (a b c imm : ℕ) (S : Registers) → form_of op ≡ f → unlimbed f ≡ true
    → limbed false S ≡ limbs_in k N (built op a b c imm) S
unfolding limbs_in
no-limb-form Plain N f op a b c imm S e h = refl
no-limb-form Deferred N f op a b c imm S e h = sym (rw (e, h) at (none-limbed N op a b c imm S))

-- a word with bits that its form does not use, and one taken apart
module _ (s : Start) (R : Registers) (m : List ℕ) (op : Opcode) (f : Form) (u word : ℕ) (e : f ≡ form_of op) (h : u ≡ word / 2 ^ used_bits f) where
  pub obeyed-refused : (u ≡ 0 → ⊥) → refused (UnusedBits word) (started s R m) ≡ obeyed s (decoded_of (apart_of op word)) R m
  unfolding obey decoded_of
  obeyed-refused n = ap (λ (t : Result Parts Refusal). obeyed s (decoded_of t) R m) (apart-refused op f u word e h n)

  pub obeyed-made : (p : Parts) (i : ℕ) (x : Stepped) → u ≡ 0 → i ≡ immediate_of f word
      → p ≡ parts op (field 7 4 word) (field 11 4 word) (field 15 4 word) i
      → x ≡ doing s (instruction_of p) R m → x ≡ obeyed s (decoded_of (apart_of op word)) R m
  unfolding obey decoded_of
  obeyed-made p i x z q r y =
      (rw r at y)
      ∙ ap (λ (t : Result Parts Refusal). obeyed s (decoded_of t) R m)
      (apart-made op f u word e h (field 7 4 word) (field 11 4 word) (field 15 4 word) i z refl refl refl q)

-- Ecall and Ebreak have no operands: their instruction is known by the opcode alone
module _ (s : Start) (R : Registers) (m : List ℕ) (op : Opcode) (u word : ℕ) (x : Stepped) (e : F.Alone ≡ form_of op) (h : u ≡ word / 2 ^ used_bits F.Alone) (z : u ≡ 0) where
  alone : (i : Instruction) → built op (field 7 4 word) (field 11 4 word) (field 15 4 word) 0 ≡ i → x ≡ doing s i R m
      → x ≡ obeyed s (decoded_of (apart_of op word)) R m
  unfolding immediate_of
  alone i b y =
      obeyed-made s R m op F.Alone u word e h (parts op (field 7 4 word) (field 11 4 word) (field 15 4 word) 0) 0 x z refl refl
      (y ∙ ap (λ (j : Instruction). doing s j R m) (sym b))

  pub an-ecall : is_ecall op ≡ true → x ≡ doing s Ecall R m → x ≡ obeyed s (decoded_of (apart_of op word)) R m
  unfolding all
  an-ecall t y = alone Ecall (known is_ecall (λ (op : Opcode). Ecall) op _ _ _ _ refl refl t) y

  pub an-ebreak : is_ecall op ≡ false → x ≡ doing s Ebreak R m → x ≡ obeyed s (decoded_of (apart_of op word)) R m
  unfolding all
  an-ebreak t y =
      alone Ebreak
      (known (λ (op : Opcode). of F.Alone op && not (is_ecall op)) (λ (op : Opcode). Ebreak) op _ _ _ _ refl refl (rw (of-form F.Alone op (sym e), t) refl))
      y

-- a word found, or not
pub obeyed-found : (s : Start) (R : Registers) (m : List ℕ) (f : Option Opcode) (op : Opcode) (word : ℕ) (x : Stepped)
    → f ≡ opcode_in opcode_number (field 0 7 word) → f ≡ Some op → x ≡ obeyed s (decoded_of (apart_of op word)) R m
    → x ≡ obeyed s (decode_in opcode_number word) R m
unfolding take_in found_apart
obeyed-found s R m f op word x e h y = y ∙ ap (λ (g : Option Opcode). obeyed s (decoded_of (found_apart g word)) R m) (sym h ∙ e)

pub obeyed-unknown : (s : Start) (R : Registers) (m : List ℕ) (f : Option Opcode) (word : ℕ)
    → f ≡ opcode_in opcode_number (field 0 7 word) → f ≡ None → refused (BadOpcode word) (started s R m) ≡ obeyed s (decode_in opcode_number word) R m
unfolding take_in found_apart decoded_of obey
obeyed-unknown s R m f word e h = ap (λ (g : Option Opcode). obeyed s (decoded_of (found_apart g word)) R m) (sym h ∙ e)

-- "Ebreak keeps the pc and marks the halt"
pub halted : (s : Start) (R : Registers) (m : List ℕ) → stepped W.Ebreak (world s.pc true R m) [] ≡ doing s Ebreak R m
unfolding effect seen settle_sources sources normalise_each
halted s R m =
    not-on-limbs s.choices.mode s.room document_notes Ebreak (started s R m) R (stepped W.Ebreak (world s.pc true R m) [])
    (no-limb-form s.choices.mode document_notes F.Alone O.Ebreak 0 0 0 0 R refl refl)
    (went-halt s.room (started s R m) R s.pc ∙ ap (λ (T : Registers). done s.room (goes_to s.pc G.Ebreak) (started s R m) T) (stays s.choices.mode))
  where
    stays : (k : Mode) → R ≡ settle_sources k Ebreak R
    stays Plain = refl
    stays Deferred = refl
