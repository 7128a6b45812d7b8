use Rattle.state.proofs.Normal.{waits-held}
use Rattle.normalize.proofs.Cases.{register-malformed, register-zero, register-whole, register-limbs}
use mathlib.Core.Path.{sym, ◌∙◌}
use native.Mathlib.Omega.{arith}
use Rattle.normalize.proofs.normalize_register.Goals as goal

pub returns-then-reg-ge16 : goal.returns-then-reg-ge16
returns-then-reg-ge16 c = c.malformed.ensures ∙ register-malformed _ _ (omega arith)

pub returns-then-reg-eq0 : goal.returns-then-reg-eq0
returns-then-reg-eq0 c = c.unneeded.ensures ∙ register-zero _ _ c.if-reg-eq0.true

pub returns-then-not-waits_at : goal.returns-then-not-waits_at
returns-then-not-waits_at c = c.unneeded-then-not-waits_at.ensures ∙ register-whole _ _ (omega arith) c.if-reg-eq0.false (waits-held _ _ ∙ sym c.waits_at.ensures ∙ c.if-not-waits_at.true)

pub returns : goal.returns
returns c = c.normalize_and_write.ensures ∙ register-limbs _ _ _ _ (omega arith) c.if-reg-eq0.false (waits-held _ _ ∙ sym c.waits_at.ensures ∙ c.if-not-waits_at.false) c.low_at-low.ensures.0 c.high_at-high.ensures.0
