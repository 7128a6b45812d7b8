-- What the table of a form answers is determined by the effect of an instruction of the opcode: of rd 1, rs1 2 and rs2 3, where the
-- operands stand in those registers.
use Prim.Native.Nat.{ℕ}
use mathlib.Core.Path.{◌≡◌, refl, sym, ap, ◌∙◌}
use mathlib.Core.Bool.{Bool, true, false, cond}
use mathlib.Core.List.{List, []}
use lib.Dec.{eqb}
use Rattle.std.specs.Prelude.{Err, Ok, Result}
use Rattle.refusal.specs.declared.Refusal.{Refusal}
use Rattle.opcode.specs.Opcodes.{form_of}
use Rattle.opcode.specs.declared.Opcode.{Opcode}
use Rattle.effect.specs.Outcomes.{Outcome, Does, Refuses}
use Rattle.effect.specs.Effects.{Seen}
use Rattle.effect.specs.Tables.{Where, is_registers, is_immediate, is_shift, deed_outcome, turn, turn_outcome, DecidesTwo, DecidesOne, DecidesShift}
use Rattle.effect.specs.declared.registers.Operands.{Operands}
use Rattle.effect.specs.declared.registers.Deed.{Deed}
use Rattle.effect.specs.declared.registers.Deed.TheVariants as D
use Rattle.effect.specs.declared.immediate.Source.{Source}
use Rattle.effect.specs.declared.immediate.Turn.{Turn}

-- of a form or of another, each determined
of_either : {X : Type 0} (A : X → Type 0) (t : Bool) (z x y : X) → (A x → A y → x ≡ y) → Where t (A x) (x ≡ z) → Where t (A y) (y ≡ z) → x ≡ y
of_either A true z x y f p q = f (p.within refl) (q.within refl)
of_either A false z x y f p q = p.elsewhere refl ∙ sym (q.elsewhere refl)

abbrev deed_in : Outcome → Result Deed Refusal
deed_in (Refuses r) = Err r
deed_in (Does e) = Ok (cond (eqb e.rd 0) D.Passes (cond e.checked (D.Checks e.bound e.value) (D.Writes e.bound e.value)))

deed-back : (pc : ℕ) (r : Result Deed Refusal) → deed_in (deed_outcome 1 pc r) ≡ r
deed-back pc (Ok (D.Writes b v)) = refl
deed-back pc (Ok (D.Checks b v)) = refl
deed-back pc (Ok D.Passes) = refl
deed-back pc (Err r) = refl

abbrev turn_in : Outcome → Result Turn Refusal
turn_in (Refuses r) = Err r
turn_in (Does e) = Ok (turn e.next e.bound e.value)

turn-back : (r : Result Turn Refusal) → turn_in (turn_outcome 1 r) ≡ r
turn-back (Ok t) = refl
turn-back (Err r) = refl

abbrev two_seen : Operands → Seen
two_seen o =
    record { pc = o.pc; value = λ n. cond (eqb n 2) o.s o.t; bound = λ n. cond (eqb n 1) o.x (cond (eqb n 2) o.y o.z) }

abbrev one_seen : Source → Seen
one_seen o = record { pc = o.pc; value = λ n. o.s; bound = λ n. o.y }

pub one-deed : (op : Opcode) (o : Operands) (r s : Result Deed Refusal) → Where (is_registers (form_of op)) (DecidesTwo op o r) (r ≡ Ok D.Passes)
    → Where (is_registers (form_of op)) (DecidesTwo op o s) (s ≡ Ok D.Passes) → r ≡ s
one-deed op o r s =
    of_either (DecidesTwo op o) (is_registers (form_of op)) (Ok D.Passes) r s
    (λ p q. sym (deed-back o.pc r) ∙ ap deed_in (p 1 2 3 0 (two_seen o) [] refl ∙ sym (q 1 2 3 0 (two_seen o) [] refl)) ∙ deed-back o.pc s)

turns-alike : (op : Opcode) (o : Source) (m : List ℕ) (r s : Result Turn Refusal) → DecidesOne op o m r → DecidesOne op o m s → r ≡ s
turns-alike op o m r s p q =
    sym (turn-back r) ∙ ap turn_in (p 1 2 3 o.imm (one_seen o) refl ∙ sym (q 1 2 3 o.imm (one_seen o) refl)) ∙ turn-back s

pub one-turn : (op : Opcode) (o : Source) (m : List ℕ) (r s : Result Turn Refusal) → Where (is_immediate (form_of op)) (DecidesOne op o m r) (r ≡ Ok (turn 0 0 0))
    → Where (is_immediate (form_of op)) (DecidesOne op o m s) (s ≡ Ok (turn 0 0 0)) → r ≡ s
one-turn op o m r s = of_either (DecidesOne op o m) (is_immediate (form_of op)) (Ok (turn 0 0 0)) r s (turns-alike op o m r s)

pub one_shift : (op : Opcode) (o : Source) (r s : Turn) → Where (is_shift (form_of op)) (DecidesShift op o (Ok r)) (r ≡ turn 0 0 0)
    → Where (is_shift (form_of op)) (DecidesShift op o (Ok s)) (s ≡ turn 0 0 0) → r ≡ s
one_shift op o r s =
    of_either (λ (t : Turn). DecidesShift op o (Ok t)) (is_shift (form_of op)) (turn 0 0 0) r s
    (λ p q. let e : ◌≡◌ {A = Result Turn Refusal} (Ok r) (Ok s) = turns-alike op o [] (Ok r) (Ok s) (p []) (q []) in cc)
