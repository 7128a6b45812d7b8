-- A refused step changes nothing: of the code, by the contracts of the calls that step.
use Prim.Native.Nat.{ℕ, ◌≤◌}
use mathlib.Core.Path.{◌≡◌, refl, ap, subst⁻¹}
use mathlib.Core.Bool.{◌&&◌}
use mathlib.Core.List.{List}
use lib.Dec.{leb}
use native.Mathlib.Omega.{arith}
use Rattle.refusal.specs.declared.Refusal.{Refusal}
use Rattle.state.specs.declared.State.{State}
use Rattle.execute.specs.World.{World, world_of, Stepped}
use Rattle.execute.specs.Rules.{Rules, rules_of, document_rules}
use Rattle.execute.specs.declared.Mode.{Mode}
use Rattle.execute.specs.declared.Went.{Went}
use Rattle.execute.specs.declared.Went.TheVariants as W
use Rattle.pending.specs.Pending.{Lists}
use Rattle.step.specs.Step.{Left, left, step}
use Rattle.run.specs.Run.{stop_of}
use Rattle.host.specs.Call.{state_of, mode_of}
use Rattle.checks.specs.Records.{listed}
use Rattle.checks.specs.declared.Pending.{Pending}
use Rattle.checks.proofs.Listed.{listed-injective}
use Rattle.lent.specs.Lent.{lent_step, laid, state_of_lent, lent_served, record_after, step_lent}
use Rattle.lent.specs.Lent as L
use Rattle.lent.specs.declared.exported.Lent.{Lent}
use Rattle.agreement.specs.Contracts.{world_stepped, lists_stepped, world_executed}
use Rattle.agreement.specs.ByHand.{changeable, lent_given}
use Rattle.agreement.specs.Keeping.{Restores, Undoes}
use Rattle.agreement.specs.Statements.{StepCallsRestore, GivenCallsUndo, RecordStepsRestore, StepsInPlaceRestore, LentStepsRestore}
use Rattle.agreement.proofs.Cases.{cond-case}
use Rattle.agreement.proofs.Refused.{refused-steps-restore, refused-given-undo}

-- what a step leaves that is the one defined
restores : {s : Left} (k : Mode) (R : Rules) (w : World) (l : Lists) → s ≡ step k R w l → Restores s w l
restores k R w l p = subst⁻¹ (λ (s : Left). Restores s w l) p (refused-steps-restore k R w l)

pub step-calls-restore : StepCallsRestore
step-calls-restore κs a x p = restores a.0.mode (rules_of a.0) (world_stepped κs a) (lists_stepped κs a) p

pub given-calls-undo : GivenCallsUndo
given-calls-undo κs a x p =
    let w = world_executed κs a in
    subst⁻¹ (λ (s : Stepped). Undoes s w) p (refused-given-undo a.0.mode (rules_of a.0).notes a.1.0 w)

-- ---- over records
same_kept : {S : Type 0} {s t : S} {m m' : List ℕ} {k l : List Pending} {n c : ℕ} → s ≡ t → m ≡ m' → listed n k ≡ listed c l → changeable s m k n ≡ changeable t m' l c
same_kept {k = k} {l = l} {n = n} {c = c} p q r = let e = listed-injective n c k l r in rw (p, q, e.0, e.1)

same-records : {g : Went} {s t : State} {m m' : List ℕ} {k l : List Pending} {n c : ℕ}
    → Restores (left g (world_of s m) (listed n k)) (world_of t m') (listed c l) → (r : Refusal) → g ≡ W.Refused r → changeable s m k n ≡ changeable t m' l c
same-records h r e =
    let x = h r e in
    same_kept (ap state_of x.0) (ap (λ (w : World). w.memory) x.0) x.1

pub record-steps-restore : RecordStepsRestore
record-steps-restore = (
  λ M 𝓤 𝓛 m run κs a g r e. refl,
  λ κs a x p. same-records (restores a.0.mode (rules_of a.0) _ _ p),
)

pub steps-in-place-restore : StepsInPlaceRestore
steps-in-place-restore = (
  λ M 𝓤 𝓛 m run κs a g r e. refl,
  λ κs a x p. same-records (restores a.1.0.mode (rules_of a.1.0) _ _ p),
)

-- ---- over a record of numbers: 1 to 9 is the code of a refusal
abbrev Stays : Lent → List ℕ → Lists → L.LentStep → Type 0
Stays r m l s = 1 ≤ s.answer.code → s.answer.code ≤ 9 → (s.state ≡ r) × (s.memory ≡ m) × (s.lists ≡ l)

served-stays : (r : Lent) (w : World) (l : Lists) (s : Left) → Restores s w l → Stays r w.memory l (lent_served r s)
unfolding record_after stop_of
served-stays r w l s h = by s.went refl
  where
    by : (g : Went) → s.went ≡ g → Stays r w.memory l (lent_served r s)
    by W.On e = rw e (λ low high. absurd (omega (arith, low)))
    by W.Ebreak e = rw e (λ low high. absurd (omega (arith, high)))
    by W.Ecall e = rw e (λ low high. absurd (omega (arith, high)))
    by (W.Refused q) e = λ low high. let x = h q e in (rw e, ap (λ (v : World). v.memory) x.0, x.1)

lent-stays : (mode : ℕ) (r : Lent) (m : List ℕ) (l : Lists) → Stays r m l (step_lent mode r m l)
unfolding step_lent
lent-stays mode r m l =
    let w = world_of (state_of_lent r) m in
    cond-case (Stays r m l) (leb mode 1 && laid r) (lent_served r (step (mode_of mode) document_rules w l)) (lent_step _ r m l)
    (λ _. served-stays r w l _ (refused-steps-restore (mode_of mode) document_rules w l))
    (λ _ low high. (refl, refl, refl))

pub lent-steps-restore : LentStepsRestore
lent-steps-restore = (
  λ M 𝓤 𝓛 m run κs a g r e. refl,
  λ κs a x p low high.
      let b = lent_given κs a in
      let l = listed b.count b.list in
      let t = subst⁻¹ (λ (s : L.LentStep). Stays b.state b.memory l s) p (lent-stays a.1.1.1.1.0 b.state b.memory l) low high in
      same_kept t.0 t.1 t.2,
)
