use Rattle.state.specs.Formed.{all_below}
use lib.ListN.{get_or}
use mathlib.Core.Bool.{true, false, not}
use mathlib.Core.Path.{◌≡◌}
use Rattle.state.proofs.registers.Registers.all_whole.Given as goal

abbrev pub invariant-loop-waits : goal.invariant-loop-waits
invariant-loop-waits l = all_below (λ n. not (get_or l.self.accumulated n false)) l.waits-index ≡ true
