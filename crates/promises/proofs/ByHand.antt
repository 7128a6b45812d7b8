-- Each public function that is proved by hand: what it tells, which its clauses are, and that this determines what a call leaves. `tools/promises`
-- holds this list to the source too.
use Prim.Native.Nat.{ℕ}
use mathlib.Core.Path.{◌≡◌, refl, sym, ap, ap₂, ◌∙◌}
use mathlib.Core.List.{List}
use lib.ListN.{set}
use Rattle.checks.specs.contracts as checks
use Rattle.checked.specs.contracts as checked
use Rattle.lent.specs.contracts as lent
use Rattle.execute.specs.World.{world_of}
use Rattle.execute.specs.Rules.{rules_of}
use Rattle.pending.specs.Pending.{Lists, empty_answer, empty_lists, entry_at}
use Rattle.step.specs.Step.{Left}
use Rattle.run.specs.Run.{Answer, run}
use Rattle.host.specs.Call.{state_of}
use Rattle.checks.specs.Records.{listed, answer_to, with_one}
use Rattle.checked.specs.Machine.{ran_over}
use Rattle.checks.specs.declared.Pending.{Pending}
use Rattle.checks.proofs.Listed.{listed-injective}
use Rattle.lent.specs.Lent.{LentStep}
use Rattle.agreement.specs.Contracts.{Telling}
use Rattle.agreement.specs.ByHand.{steps, steps_in_place, steps_lent}
use Rattle.promises.specs.ByHand.{ByHand}
use Rattle.promises.proofs.Laws.{one, ◌&◌}
use Rattle.promises.proofs.Regrouped.{one_step_of, ran_of, outcome_of}

-- records that are listed as one thing are one
records-one : {n m : ℕ} {l k : List Pending} {h : Lists} → listed n l ≡ h → listed m k ≡ h → l ≡ k
records-one p q = (listed-injective _ _ _ _ (p ∙ sym q)).1

-- what is read off a promise's equation, of which h is the part that lists records
over : {A B : Type 0} {v u w : A} {n m : ℕ} {l k : List Pending} (f : A → List Pending → B) (h : A → Lists) → h u ≡ listed n l → h w ≡ listed m k
    → u ≡ v → w ≡ v → f u l ≡ f w k
over f h s t p q = ap₂ f (p ∙ sym q) (records-one (sym s ∙ ap h p) (sym t ∙ ap h q))

-- ---- checks
abbrev appends : Telling checks.append.ended
appends κs a r e =
    (r ≡ answer_to a.1.1.0 a.1.0 a.0.now)
    × (listed (with_one a.1.1.0 a.1.0 a.0.now).count e.0.now ≡ with_one a.1.1.0 a.1.0 a.0.now)

pub checks·append : ByHand checks.append.ended (λ M 𝓤 𝓛. checks.append.clauses 𝓛) appends
checks·append =
    (λ M 𝓤 𝓛 m run κs a g r e. refl, λ κs a x y p q. ap₂ (λ r l. r & l & x.1.1) (p.0 ∙ sym q.0) (records-one p.1 q.1))

abbrev empties : Telling checks.empty.ended
empties κs a r e =
    (r ≡ empty_answer (listed a.1.0 a.0.now))
    × (listed (empty_lists (listed a.1.0 a.0.now)).count e.0.now ≡ empty_lists (listed a.1.0 a.0.now))

pub checks·empty : ByHand checks.empty.ended (λ M 𝓤 𝓛. checks.empty.clauses 𝓛) empties
checks·empty =
    (λ M 𝓤 𝓛 m run κs a g r e. refl, λ κs a x y p q. ap₂ (λ r l. r & l & x.1.1) (p.0 ∙ sym q.0) (records-one p.1 q.1))

abbrev reads : Telling checks.read.ended
reads κs a r e = r ≡ entry_at a.1.1.0 (listed a.1.0 a.0.now)

pub checks·read : ByHand checks.read.ended (λ M 𝓤 𝓛. checks.read.clauses 𝓛) reads
checks·read = (λ M 𝓤 𝓛 m run κs a g r e. refl, λ κs a x y. one (λ r. r & x.1))

abbrev notes : Telling checks.note_at.ended
notes κs a r e = e.0.now ≡ set a.0.now a.1.0 a.1.1.0

pub checks·note-at : ByHand checks.note_at.ended (λ M 𝓤 𝓛. checks.note_at.clauses 𝓛) notes
checks·note-at = (λ M 𝓤 𝓛 m run κs a g r e. refl, λ κs a x y. one (λ l. tt & l & x.1.1))

-- ---- checked
pub checked·step : ByHand checked.step.ended (λ M 𝓤 𝓛. checked.step.clauses 𝓛) steps
checked·step = (
  λ M 𝓤 𝓛 m run κs a g r e. refl,
  λ κs a x y. over (λ (s : Left) l. one_step_of s & tt & tt & s.world.memory & l & tt & tt) (λ s. s.lists) refl refl,
)

abbrev runs : Telling checked.run.ended
runs κs a r e =
    ran_over r e.1.1.1.0.now e.1.1.1.1.0.now
    ≡ run a.0.mode (rules_of a.0) a.1.1.0 (world_of a.1.0 a.1.1.1.0.now) (listed a.1.1.1.1.1.0 a.1.1.1.1.0.now)

pub checked·run : ByHand checked.run.ended (λ M 𝓤 𝓛. checked.run.clauses 𝓛) runs
checked·run = (
  λ M 𝓤 𝓛 m run κs a g r e. refl,
  λ κs a x y. over (λ (s : Answer) l. ran_of s & tt & tt & tt & s.world.memory & l & tt & tt) (λ s. s.lists) refl refl,
)

-- ---- lent
pub lent·step-in-place : ByHand lent.step_in_place.ended (λ M 𝓤 𝓛. lent.step_in_place.clauses 𝓛) steps_in_place
lent·step-in-place = (
  λ M 𝓤 𝓛 m run κs a g r e. refl,
  λ κs a x y. over (λ (s : Left) l. outcome_of s & state_of s.world & tt & s.world.memory & l & tt & tt) (λ s. s.lists) refl refl,
)

pub lent·exported·zkir-step : ByHand lent.exported.zkir_step.ended (λ M 𝓤 𝓛. lent.exported.zkir_step.clauses 𝓛) steps_lent
lent·exported·zkir-step =
    (λ M 𝓤 𝓛 m run κs a g r e. refl, λ κs a x y. over (λ (s : LentStep) l. s.answer & s.state & s.memory & l & tt & tt & tt) (λ s. s.lists) refl refl)
