-- Inner: what the tables of the forms answer, read as outcomes.
use Rattle.std.specs.Prelude.{Err, Ok, Result, ℕ, ◌≡◌, Bool, true, false, List}
use Rattle.refusal.specs.declared.Refusal.{Refusal}
use Rattle.opcode.specs.declared.Opcode.{Opcode}
use Rattle.opcode.specs.declared.Form.{Form}
use Rattle.opcode.specs.declared.Form.TheVariants as F
use Rattle.instruction.specs.Operands.{built}
use Rattle.effect.specs.Operations.{plus64}
use Rattle.effect.specs.Notes.{document_notes}
use Rattle.effect.specs.Outcomes.{Outcome}
use Rattle.effect.specs.Outcomes as G
use Rattle.effect.specs.Effects.{Seen, writing, goes_to, effect}
use Rattle.effect.specs.declared.registers.Operands.{Operands}
use Rattle.effect.specs.declared.registers.Deed.{Deed}
use Rattle.effect.specs.declared.registers.Deed.TheVariants as D
use Rattle.effect.specs.declared.immediate.Source.{Source}
use Rattle.effect.specs.declared.immediate.Turn.{Turn}

-- a table says A of the opcodes of its form, and B of all others
pub record Where (form : Bool) (A B : Type 0) : Type 0 where
  pub within : form ≡ true → A
  pub elsewhere : form ≡ false → B

abbrev pub is_registers : Form → Bool
is_registers F.R = true
is_registers F.I = false
is_registers F.Shift = false
is_registers F.S = false
is_registers F.B = false
is_registers F.J = false
is_registers F.Alone = false

abbrev pub is_immediate : Form → Bool
is_immediate F.R = false
is_immediate F.I = true
is_immediate F.Shift = false
is_immediate F.S = false
is_immediate F.B = false
is_immediate F.J = false
is_immediate F.Alone = false

abbrev pub is_shift : Form → Bool
is_shift F.R = false
is_shift F.I = false
is_shift F.Shift = true
is_shift F.S = false
is_shift F.B = false
is_shift F.J = false
is_shift F.Alone = false

-- of the destination and the pc
abbrev pub deed_outcome : ℕ → ℕ → Result Deed Refusal → Outcome
deed_outcome rd pc (Ok (D.Writes b v)) = writing false rd v b (plus64 pc 4)
deed_outcome rd pc (Ok (D.Checks b v)) = writing true rd v b (plus64 pc 4)
deed_outcome rd pc (Ok D.Passes) = goes_to (plus64 pc 4) G.On
deed_outcome rd pc (Err r) = G.Refuses r

abbrev pub turn : ℕ → ℕ → ℕ → Turn
turn next b v = record { next = next; bound = b; value = v }

-- of the destination
abbrev pub turn_outcome : ℕ → Result Turn Refusal → Outcome
turn_outcome rd (Ok t) = writing false rd t.value t.bound t.next
turn_outcome rd (Err r) = G.Refuses r

abbrev pub Comes : Result Deed Refusal → (ℕ → ℕ → Outcome) → Type 0
Comes d f = (rd pc : ℕ) → deed_outcome rd pc d ≡ f rd pc

abbrev pub Turns : Result Turn Refusal → (ℕ → Outcome) → Type 0
Turns t f = (rd : ℕ) → turn_outcome rd t ≡ f rd

-- what an instruction reads of two registers, or of one
abbrev pub two_of : ℕ → ℕ → ℕ → Seen → Operands
two_of a b c v = record { pc = v.pc; s = v.value b; t = v.value c; x = v.bound a; y = v.bound b; z = v.bound c }

abbrev pub one_of : ℕ → ℕ → Seen → Source
one_of b imm v = record { pc = v.pc; s = v.value b; y = v.bound b; imm = imm }

-- the effect of an opcode, whatever was seen and wherever in it the operands were read
abbrev pub DecidesTwo : Opcode → Operands → Result Deed Refusal → Type 0
DecidesTwo op o r =
    (a b c imm : ℕ) (v : Seen) (m : List ℕ) → o ≡ two_of a b c v → deed_outcome a v.pc r ≡ effect document_notes (built op a b c imm) v m

abbrev pub DecidesOne : Opcode → Source → List ℕ → Result Turn Refusal → Type 0
DecidesOne op o m r =
    (a b c imm : ℕ) (v : Seen) → o ≡ one_of b imm v → turn_outcome a r ≡ effect document_notes (built op a b c imm) v m

-- a shift sees no memory
abbrev pub DecidesShift : Opcode → Source → Result Turn Refusal → Type 0
DecidesShift op o r = (m : List ℕ) → DecidesOne op o m r
