use Rattle.normalize.proofs.Cases.{write-malformed, write-zero, write-large, write_done}
use mathlib.Core.Path.{sym, ◌∙◌}
use native.Mathlib.Omega.{arith}
use Rattle.normalize.proofs.normalize_and_write.Goals as goal

pub returns-then-reg-ge16 : goal.returns-then-reg-ge16
returns-then-reg-ge16 c = c.malformed.ensures ∙ write-malformed _ _ _ _ (omega arith)

pub returns-then-reg-eq0 : goal.returns-then-reg-eq0
returns-then-reg-eq0 c = rw c.zeros.ensures (write-zero _ _ _ _ c.if-reg-eq0.true)

pub returns-then-would_overflow : goal.returns-then-would_overflow
returns-then-would_overflow c = c.malformed-then-would_overflow.ensures ∙ write-large _ _ _ _ (omega arith) c.if-reg-eq0.false (sym c.would_overflow.ensures ∙ c.if-would_overflow.true)

pub returns : goal.returns
returns c = write_done _ _ _ _ _ _ (omega arith) c.if-reg-eq0.false (sym c.would_overflow.ensures ∙ c.if-would_overflow.false) c.result_of-result.ensures (rw (← c.joined.ensures) c.made_whole.ensures)
