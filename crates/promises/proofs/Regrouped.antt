-- The records in which a promise gathers what a call leaves, taken apart again; the checks apart, which a promise has as a list.
use Rattle.execute.specs.World.{Stepped}
use Rattle.execute.specs.declared.Advance.{Advance}
use Rattle.given.specs.declared.Executed.{Executed}
use Rattle.step.specs.Step.{Left}
use Rattle.run.specs.Run.{Answer}
use Rattle.step.specs.Leg.{Leg}
use Rattle.step.specs.declared.leg.Gone.{Gone}
use Rattle.std.specs.Prelude.{Option}
use Rattle.pending.specs.declared.Check.{Check}
use Rattle.step.specs.declared.OneStep.{OneStep}
use Rattle.run.specs.declared.Ran.{Ran}
use Rattle.host.specs.Call.{state_of}
use Rattle.lent.specs.declared.InPlace.{InPlace}

abbrev pub advance_of : Stepped → Option Check → Advance
advance_of s cs = record { went = s.went; pc = s.world.pc; halted = s.world.halted; checks = cs }

abbrev pub executed_of : Stepped → Option Check → Executed
executed_of s cs = record { went = s.went; checks = cs; state = state_of s.world }

abbrev pub one_step_of : Left → OneStep
one_step_of l = record { went = l.went; count = l.lists.count; state = state_of l.world }

abbrev pub ran_of : Answer → Ran
ran_of a = record { stop = a.stop; steps = a.steps; count = a.lists.count; state = state_of a.world }

abbrev pub gone_of : Leg → Option Check → Gone
gone_of l cs = record { went = l.went; steps = l.steps; checks = cs; pc = l.pc; state = state_of l.world }

abbrev pub outcome_of : Left → InPlace
outcome_of l = record { went = l.went; count = l.lists.count }
