use Rattle.execute.proofs.Ending.{went-writes, went_to, went-checks, went-full}
use mathlib.Core.Path.{sym, ◌∙◌}
use Rattle.execute.proofs.registers.act.Goals as goal

pub returns-then-lacks : goal.returns-then-lacks
returns-then-lacks c = λ m. rw (c.refuse.ensures, c.in-Checks.is) (went-full _ _ _ _ _ _ _ (sym c.lacks.ensures ∙ c.if-lacks.true))

pub returns-in-Writes : goal.returns-in-Writes
returns-in-Writes c = λ m. rw (c.onward.ensures, c.in-Writes.is) (went-writes _ _ _ _ _ _ _ _ c.put.ensures)

pub returns-else-lacks : goal.returns-else-lacks
returns-else-lacks c = λ m. rw (c.checked.ensures, c.in-Checks.is) (went-checks _ _ _ _ _ _ _ _ (sym c.lacks.ensures ∙ c.if-lacks.false) c.put-in-Checks.ensures)

pub returns-in-Passes : goal.returns-in-Passes
returns-in-Passes c = λ m. rw (c.onward-in-Passes.ensures, c.in-Passes.is, c.settle_two.ensures) (went_to _ _ _ _)
