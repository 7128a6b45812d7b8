-- Inner: a run on its way, between two legs.
use Rattle.std.specs.Prelude.{ℕ, ◌+◌, ◌-◌, ◌%◌, ◌^◌, Bool, cond, not, ◌&&◌, List, nat_lt}
use Rattle.refusal.specs.Stops.{refusal_of}
use Rattle.refusal.specs.declared.Stop.TheVariants as S
use Rattle.state.specs.declared.State.{State}
use Rattle.execute.specs.World.{world_of}
use Rattle.execute.specs.Rules.{rules_of}
use Rattle.execute.specs.declared.Choices.{Choices}
use Rattle.pending.specs.Pending.{Lists}
use Rattle.step.specs.Step.{goes_on}
use Rattle.step.specs.declared.leg.Gone.{Gone}
use Rattle.run.specs.Run.{Answer, answer, preceded, stop_of, loop}
use Rattle.run.specs.declared.legs.Going.{Going}

-- where it begins: refused (9), halted, or about to go
abbrev pub begun : Choices → State → ℕ → Bool → Going
begun c s fuel taken =
    record {
      on = taken && not s.halted;
      choices = c;
      left = fuel;
      stop = cond taken S.Ebreak (S.Refused (refusal_of 9 0));
      steps = 0;
      state = s;
    }

-- after a leg
abbrev pub next : Going → Gone → Going
next r g =
    record {
      on = goes_on g.went && nat_lt 0 (r.left - g.steps);
      choices = r.choices;
      left = r.left - g.steps;
      stop = stop_of g.went;
      steps = (r.steps + g.steps) % 2 ^ 64;
      state = g.state;
    }

-- what it comes to
abbrev pub comes_to : Going → List ℕ → Lists → Answer
comes_to r m l =
    cond r.on
    (preceded r.steps (loop r.left r.choices.mode (rules_of r.choices) (world_of r.state m) l))
    (answer r.stop r.steps (world_of r.state m) l)
