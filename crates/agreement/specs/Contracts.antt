-- A function's own contract, as the kit hands it to a caller, and what calls of the code leave by it.
use Rattle.std.specs.Prelude.{ℕ, List}
use contract.Lifetimes.{Lfts}
use denote.Triple.Entry.{Args, Res}
use denote.Triple.Clauses.{Ended, Lasts, AtExit, at_exit}
use Rattle.execute.specs.World.{World, world_of, Stepped}
use Rattle.execute.specs.declared.Mode.{Mode}
use Rattle.execute.specs.declared.Mode.TheVariants.{Plain, Deferred}
use Rattle.pending.specs.Pending.{Lists, lists}
use Rattle.given.specs.Given.{executed}
use Rattle.step.specs.Step.{Left, one_step}
use Rattle.run.specs.Run.{Answer, ran}
use Rattle.host.specs.Call.{Called, called}
use Rattle.given.specs.contracts.execute as given·execute
use Rattle.step.specs.contracts.step as step·step
use Rattle.run.specs.contracts.run_plain
use Rattle.run.proofs.run_plain as run_plain_told
use Rattle.run.proofs.run_deferred
use Rattle.host.specs.contracts.zkir_run

-- T is a function's signature, with what of its parameters a caller sees once the call is over
module _ (T : Ended) where
  -- what a call leaves: its result, and the last value of everything lent
  abbrev pub Leaves : (κs : Lfts T.signature.lifetimes) → Args T.signature κs → Type 0
  Leaves κs a = Res T.signature κs × Lasts T κs a

  -- what a contract tells of the arguments, the result and the parameters after the call
  abbrev pub Telling : Type 1
  Telling = (κs : Lfts T.signature.lifetimes) → Args T.signature κs → Res T.signature κs → AtExit T κs → Type 0

  -- it allows a call with the arguments a to leave x
  abbrev pub Allows : Telling → (κs : Lfts T.signature.lifetimes) (a : Args T.signature κs) → Leaves κs a → Type 0
  Allows told κs a x = told κs a x.0 (at_exit T κs a x.1)

-- a run's arguments, which are the same for both: state, fuel, memory, values, bounds, pcs, count
module _ (κs : Lfts 4) (a : Args run_plain.signature κs) where
  abbrev pub world_given : World
  world_given = world_of a.0 a.1.1.0.now

  abbrev pub fuel_given : ℕ
  fuel_given = a.1.0

  abbrev pub lists_given : Lists
  lists_given = lists a.1.1.1.1.1.1.0 a.1.1.1.0.now a.1.1.1.1.0.now a.1.1.1.1.1.0.now

  -- and what it leaves
  abbrev pub ran_to : Leaves run_plain.ended κs a → Answer
  ran_to x = ran x.0 x.1.1.1.0 x.1.1.1.1.0 x.1.1.1.1.1.0 x.1.1.1.1.1.1.0

-- what the contract of each mode's run tells
unfoldable pub told_by : Mode → Telling run_plain.ended
told_by Plain = run_plain_told.Reads.Learnt
told_by Deferred = run_deferred.Reads.Learnt

-- a single step: choices, state, memory, values, bounds, pcs, count
module _ (κs : Lfts 4) (a : Args step·step.signature κs) where
  abbrev pub world_stepped : World
  world_stepped = world_of a.1.0 a.1.1.0.now

  abbrev pub lists_stepped : Lists
  lists_stepped = lists a.1.1.1.1.1.1.0 a.1.1.1.0.now a.1.1.1.1.0.now a.1.1.1.1.1.0.now

  abbrev pub stepped_to : Leaves step·step.ended κs a → Left
  stepped_to x = one_step x.0 x.1.1.1.0 x.1.1.1.1.0 x.1.1.1.1.1.0 x.1.1.1.1.1.1.0

-- one given instruction: choices, instruction, state, memory
module _ (κs : Lfts 1) (a : Args given·execute.signature κs) where
  abbrev pub world_executed : World
  world_executed = world_of a.1.1.0 a.1.1.1.0.now

  abbrev pub executed_to : Leaves given·execute.ended κs a → Stepped
  executed_to x = executed x.0 x.1.1.1.1.0

-- the host's call: state, memory and answer bytes, fuel, and then the mode
pub record CallGiven : Type 0 where
  pub state : List ℕ
  pub memory : List ℕ
  pub answer : List ℕ
  pub fuel : ℕ

module _ (κs : Lfts 3) (a : Args zkir_run.signature κs) where
  abbrev pub call_given : CallGiven
  call_given = record { state = a.0.now; memory = a.1.0.now; answer = a.1.1.0.now; fuel = a.1.1.1.0 }

  abbrev pub mode_given : ℕ
  mode_given = a.1.1.1.1.0

  abbrev pub called_to : Leaves zkir_run.ended κs a → Called
  called_to x = called x.0 x.1.0 x.1.1.0 x.1.1.1.0
