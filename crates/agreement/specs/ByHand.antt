-- The functions that are proved by hand. The kit gives their contract as clauses of its logic, not as a fact that a caller reads: `Says` is
-- that these clauses are one fact, and no more. Of the steps over a list of records: that fact, and all that a call can change.
use Rattle.std.specs.Prelude.{ℕ, ◌≡◌, List}
use base.Logic.{SProp}
use contract.Lifetimes.{Lfts}
use contract.Monad.{Fun}
use contract.Notation.{connectives}
use denote.Triple.Entry.{Args, Res}
use denote.Triple.Clauses.{Ended, Clauses, AtExit}
use types.Logic.{Logic}
use seplogic.Ra.Ura.{Ura}
use prog.Memory.{Memory}
use prog.Routine.{Routine}
use Rattle.state.specs.declared.State.{State}
use Rattle.execute.specs.World.{world_of}
use Rattle.execute.specs.Rules.{rules_of}
use Rattle.step.specs.Step.{left, step}
use Rattle.checks.specs.Records.{listed}
use Rattle.checks.specs.declared.Pending.{Pending}
use Rattle.checked.specs.Machine.{stepped_over}
use Rattle.checked.specs.contracts.step as checked·step
use Rattle.lent.specs.Lent.{lent_step, step_lent}
use Rattle.lent.specs.declared.exported.Lent.{Lent}
use Rattle.lent.specs.contracts.step_in_place
use Rattle.lent.specs.contracts.exported.zkir_step
use Rattle.agreement.specs.Contracts.{Leaves, Telling}

abbrev pub Clausing : Ended → Type 2
Clausing T = (M : Type 1) (𝓤 : Ura M) (𝓛 : Logic 𝓤) → (Memory → SProp 𝓤) → (Routine → Fun 𝓤) → Clauses 𝓤 T

abbrev pub Says : (T : Ended) → Clausing T → Telling T → Type 2
Says T clauses told =
    (M : Type 1) (𝓤 : Ura M) (𝓛 : Logic 𝓤) (m : Memory → SProp 𝓤) (run : Routine → Fun 𝓤)
    (κs : Lfts T.signature.lifetimes) (a : Args T.signature κs) (g : (clauses M 𝓤 𝓛 m run κs a).ghost) (r : Res T.signature κs) (e : AtExit T κs)
    → (clauses M 𝓤 𝓛 m run κs a).ensures g r e ≡ (connectives 𝓤).⌜◌⌝ (told κs a r e)

-- all that a step over records can change; S is the type of its state
pub record Changeable (S : Type 0) : Type 0 where
  pub state : S
  pub memory : List ℕ
  pub list : List Pending
  pub count : ℕ

abbrev pub changeable : {S : Type 0} → S → List ℕ → List Pending → ℕ → Changeable S
changeable s m l n = record { state = s; memory = m; list = l; count = n }

-- ---- `checked::step`: choices, state, memory, list, count
abbrev pub steps : Telling checked·step.ended
steps κs a r e =
    stepped_over r e.1.1.0.now e.1.1.1.0.now
    ≡ step a.0.mode (rules_of a.0) (world_of a.1.0 a.1.1.0.now) (listed a.1.1.1.1.0 a.1.1.1.0.now)

module _ (κs : Lfts 2) (a : Args checked·step.signature κs) where
  abbrev pub records_given : Changeable State
  records_given = changeable a.1.0 a.1.1.0.now a.1.1.1.0.now a.1.1.1.1.0

  abbrev pub records_after : Leaves checked·step.ended κs a → Changeable State
  records_after x = changeable x.0.state x.1.1.1.0 x.1.1.1.1.0 x.0.count

-- ---- `lent::step_in_place`: state, choices, memory, list, count
abbrev pub steps_in_place : Telling step_in_place.ended
steps_in_place κs a r e =
    left r.went (world_of e.0.now e.1.1.0.now) (listed r.count e.1.1.1.0.now)
    ≡ step a.1.0.mode (rules_of a.1.0) (world_of a.0.now a.1.1.0.now) (listed a.1.1.1.1.0 a.1.1.1.0.now)

module _ (κs : Lfts 3) (a : Args step_in_place.signature κs) where
  abbrev pub place_given : Changeable State
  place_given = changeable a.0.now a.1.1.0.now a.1.1.1.0.now a.1.1.1.1.0

  abbrev pub place_after : Leaves step_in_place.ended κs a → Changeable State
  place_after x = changeable x.1.0 x.1.1.1.0 x.1.1.1.1.0 x.0.count

-- ---- `lent::exported::zkir_step`: state, memory, list, count, mode
abbrev pub steps_lent : Telling zkir_step.ended
steps_lent κs a r e =
    lent_step r e.0.now e.1.0.now (listed r.count e.1.1.0.now)
    ≡ step_lent a.1.1.1.1.0 a.0.now a.1.0.now (listed a.1.1.1.0 a.1.1.0.now)

module _ (κs : Lfts 3) (a : Args zkir_step.signature κs) where
  abbrev pub lent_given : Changeable Lent
  lent_given = changeable a.0.now a.1.0.now a.1.1.0.now a.1.1.1.0

  abbrev pub lent_after : Leaves zkir_step.ended κs a → Changeable Lent
  lent_after x = changeable x.1.0 x.1.1.0 x.1.1.1.0 x.0.count
