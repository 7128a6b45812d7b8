-- Inner: what the private functions of the exported step promise.
use Rattle.std.specs.Prelude.{ℕ, false, cond, ◌&&◌, leb, replicate}
use Rattle.state.specs.Registers.{registers}
use Rattle.state.specs.declared.State.{State}
use Rattle.execute.specs.declared.Mode.TheVariants.{Deferred}
use Rattle.step.specs.declared.OneStep.{OneStep}
use Rattle.host.specs.Call.{mode_of}
use Rattle.lent.specs.Lent.{laid, state_of_lent, record_after, answer_of}
use Rattle.lent.specs.declared.exported.Lent.{Lent}
use Rattle.lent.specs.declared.exported.Ready.{Ready}
use Rattle.lent.specs.declared.exported.Done.{Done}

-- a state that every step refuses
abbrev pub shut : State
shut = record { pc = 0; halted = false; registers = registers (replicate 16 0) (replicate 16 false) (replicate 16 1) }

-- what is stepped
unfoldable pub readied : Lent → ℕ → Ready
readied r mode =
    cond (leb mode 1 && laid r) (record { choices = record { mode = mode_of mode }; state = state_of_lent r }) (record { choices = record { mode = Deferred }; state = shut })

-- what a step gives
abbrev pub concluded : Lent → OneStep → Done
concluded r d = record { answer = answer_of d.went d.count; lent = record_after r d.went d.state }
