use Rattle.state.proofs.Files.{normalise-none, normalise-set}
use mathlib.Core.Path.{sym}
use Rattle.state.proofs.registers.Registers.normalise.Goals as goal

pub returns-then-i-eq0 : goal.returns-then-i-eq0
returns-then-i-eq0 c = sym (normalise-none _ _ c.if-i-eq0.true)

pub returns : goal.returns
returns c = rw c.value_at-v.ensures (sym (normalise-set _ _ c.if-i-eq0.false))
