-- A refused step changes nothing: of the definitions.
use Prim.Native.Nat.{ℕ}
use mathlib.Core.Path.{◌≡◌, refl}
use mathlib.Core.Bool.{◌&&◌}
use mathlib.Core.List.{List, []}
use native.Mathlib.Omega.{arith}
use lib.ListN.{length}
use Rattle.refusal.specs.declared.Refusal.{Refusal}
use Rattle.state.specs.declared.registers.Registers.{Registers}
use Rattle.words.specs.Words.{fits_of}
use Rattle.effect.specs.Outcomes.{Goes, Outcome, Does, Refuses}
use Rattle.effect.specs.Outcomes as G
use Rattle.pending.specs.Pending.{Lists, lists_fit, room_of, lacks, listing}
use Rattle.pending.specs.declared.Check.{Check}
use Rattle.pending.specs.declared.Room.{Room}
use Rattle.pending.specs.declared.Room.TheVariants.{Unlent}
use Rattle.execute.specs.World.{World, Stepped, refused, went_of, checks_for, does, done}
use Rattle.execute.specs.Modes.{limbs_in}
use Rattle.execute.specs.Execute.{onward, finish, execute, admits}
use Rattle.execute.specs.Rules.{Rules}
use Rattle.execute.specs.declared.Mode.{Mode}
use Rattle.execute.specs.declared.Went.TheVariants as W
use Rattle.given.specs.Given.{execute_one}
use Rattle.step.specs.Step.{Left, left, step_of, step}
use Rattle.agreement.specs.Keeping.{Restores, Undoes}
use Rattle.agreement.specs.Statements.{RefusedStepsRestore, RefusedInstructionsUndo, RefusedGivenUndo}
use Rattle.agreement.proofs.Cases.{cond-case, step_case}

-- an effect that is carried out is no refusal
pub no-refusal : {P : Type 0} (g : Goes) (r : Refusal) → went_of g ≡ W.Refused r → P
no-refusal G.On r e = let z : ◌≡◌ {A = ℕ} 0 1 = cc in absurd (omega arith)
no-refusal G.Ebreak r e = let z : ◌≡◌ {A = ℕ} 0 1 = cc in absurd (omega arith)
no-refusal G.Ecall r e = let z : ◌≡◌ {A = ℕ} 0 1 = cc in absurd (omega arith)

refused-undoes : (r : Refusal) (w : World) → Undoes (refused r w) w
refused-undoes r w q e = (refl, refl)

done-undoes : (room : Room) (o : Outcome) (w : World) (R : Registers) → Undoes (done room o w R) w
unfolding done
done-undoes room (Refuses r) w R = refused-undoes r w
done-undoes room (Does e) w R =
    cond-case (λ (s : Stepped). Undoes s w) (lacks room (length (checks_for e))) (refused _ w) (does e w.halted R w.memory)
    (λ _. refused-undoes _ w)
    (λ _ r p. no-refusal e.goes r p)

pub refused-instructions-undo : RefusedInstructionsUndo
unfolding execute finish
refused-instructions-undo k room N i w =
    let l = limbs_in k N i w.registers in
    cond-case (λ (s : Stepped). Undoes s w) l.waits (onward w l.registers) _
    (λ _ r p. no-refusal G.On r p)
    (λ _. done-undoes room _ w _)

pub refused-given-undo : RefusedGivenUndo
unfolding execute_one
refused-given-undo k N i w =
    cond-case (λ (s : Stepped). Undoes s w) (admits k w.registers && fits_of i) (execute k Unlent N i w) (refused _ w)
    (λ _. refused-instructions-undo k Unlent N i w)
    (λ _. refused-undoes _ w)

-- with no check asked for, the lists stay
none-listed : (cs : List Check) (pc : ℕ) (l : Lists) → cs ≡ [] → listing cs pc l ≡ l
unfolding listing
none-listed cs pc l e = rw e

pub inner-restores : (k : Mode) (R : Rules) (w : World) (l : Lists) → Restores (step_of k R w l) w l
unfolding step_of
inner-restores k R w l r e =
    let room = room_of l in
    let t = step_case (λ (w : World) (s : Stepped). Undoes s w) k room R refused-undoes (refused-instructions-undo k room R.notes) w r e in
    (t.0, none-listed _ w.pc l t.1)

pub refused-steps-restore : RefusedStepsRestore
unfolding step
refused-steps-restore k R w l =
    cond-case (λ (s : Left). Restores s w l) (admits k w.registers && lists_fit l) (step_of k R w l) (left _ w l)
    (λ _. inner-restores k R w l)
    (λ _ r e. (refl, refl))
