-- Inner: the run of a state that its mode takes, with no list lent.
use Rattle.std.specs.Prelude.{ℕ, cond}
use Rattle.pending.specs.Pending.{no_lists}
use Rattle.refusal.specs.declared.Stop.TheVariants as S
use Rattle.execute.specs.World.{World}
use Rattle.execute.specs.Rules.{rules_of}
use Rattle.execute.specs.declared.Choices.{Choices}
use Rattle.run.specs.Run.{Answer, answer, loop}

abbrev pub unlisted_run : Choices → ℕ → World → Answer
unlisted_run c fuel w = cond w.halted (answer S.Ebreak 0 w no_lists) (loop fuel c.mode (rules_of c) w no_lists)
