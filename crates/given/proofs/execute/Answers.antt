use Rattle.given.proofs.Encoding.{not-admitted, not-encoded, encoded}
use mathlib.Core.Path.{sym, ◌∙◌}
use Rattle.given.proofs.execute.Goals as goal

pub returns-then-not-admits : goal.returns-then-not-admits
returns-then-not-admits c = rw c.malformed.ensures (not-admitted _ _ _ _ (sym c.admits.ensures ∙ c.if-not-admits.true))

pub returns-in-Ok : goal.returns-in-Ok
returns-in-Ok c = encoded _ _ _ _ _ (sym c.in-Ok.is ∙ c.encode.ensures) (sym c.admits.ensures ∙ c.if-not-admits.false) c.execute_word.ensures

pub returns-in-Err : goal.returns-in-Err
returns-in-Err c = rw c.malformed-in-Err.ensures (not-encoded _ _ _ _ _ _ c.encode.ensures c.in-Err.is)
