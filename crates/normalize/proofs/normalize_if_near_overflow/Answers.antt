use Rattle.state.proofs.Normal.{waits-held}
use Rattle.normalize.proofs.Cases.{near-malformed, near-whole, near-limbs}
use mathlib.Core.Bool.{true, false}
use mathlib.Core.Path.{sym, ◌∙◌}
use native.Mathlib.Omega.{arith}
use Rattle.normalize.proofs.normalize_if_near_overflow.Goals as goal

pub returns-then-reg-ge16 : goal.returns-then-reg-ge16
returns-then-reg-ge16 c = c.malformed.ensures ∙ near-malformed _ _ (omega arith)

pub returns-then-not-waits_at : goal.returns-then-not-waits_at
returns-then-not-waits_at c = c.unneeded.ensures ∙ near-whole _ _ (omega arith) (waits-held _ _ ∙ sym c.waits_at.ensures ∙ c.if-not-waits_at.true)

pub returns-then-not-would_overflow : goal.returns-then-not-would_overflow
returns-then-not-would_overflow c = c.unneeded-then-not-would_overflow.ensures ∙ near-limbs _ _ false (omega arith) (waits-held _ _ ∙ sym c.waits_at.ensures ∙ c.if-not-waits_at.false) (rw (← c.low_at-low.ensures.0, ← c.high_at-high.ensures.0) (sym c.would_overflow.ensures ∙ c.if-not-would_overflow.true))

pub returns : goal.returns
returns c = c.normalize_register.ensures ∙ near-limbs _ _ true (omega arith) (waits-held _ _ ∙ sym c.waits_at.ensures ∙ c.if-not-waits_at.false) (rw (← c.low_at-low.ensures.0, ← c.high_at-high.ensures.0) (sym c.would_overflow.ensures ∙ c.if-not-would_overflow.false))
