use mathlib.Core.Path.{◌≡◌}
use mathlib.Core.Bool.{true}
use Rattle.lent.specs.Lent.{mark_fits}
use Rattle.state.specs.Formed.{all_below}
use Rattle.lent.proofs.exported.kinds_fit.Given as goal

abbrev pub invariant-loop-kind : goal.invariant-loop-kind
invariant-loop-kind l = all_below (mark_fits l.kinds) l.kind-index ≡ true
