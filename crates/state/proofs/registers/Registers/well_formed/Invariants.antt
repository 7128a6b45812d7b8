use Rattle.state.specs.Formed.{all_below, register_fits}
use mathlib.Core.Bool.{true}
use mathlib.Core.Path.{◌≡◌}
use Rattle.state.proofs.registers.Registers.well_formed.Given as goal

abbrev pub invariant-loop-n : goal.invariant-loop-n
invariant-loop-n l = all_below (register_fits l.self) l.n ≡ true
