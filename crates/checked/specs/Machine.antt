-- Step and run over a list of records: what the code gives back, with what was lent to it.
use Rattle.std.specs.Prelude.{ℕ, List}
use Rattle.execute.specs.World.{world_of}
use Rattle.step.specs.Step.{Left, left}
use Rattle.run.specs.Run.{Answer, answer}
use Rattle.step.specs.declared.OneStep.{OneStep}
use Rattle.run.specs.declared.Ran.{Ran}
use Rattle.checks.specs.Records.{listed}
use Rattle.checks.specs.declared.Pending.{Pending}

abbrev pub stepped_over : OneStep → List ℕ → List Pending → Left
stepped_over r m l = left r.went (world_of r.state m) (listed r.count l)

abbrev pub ran_over : Ran → List ℕ → List Pending → Answer
ran_over r m l = answer r.stop r.steps (world_of r.state m) (listed r.count l)
