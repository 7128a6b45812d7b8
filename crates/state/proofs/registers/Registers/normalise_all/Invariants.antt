use Rattle.state.specs.Registers.{normalise_to}
use mathlib.Core.Path.{◌≡◌}
use Rattle.state.proofs.registers.Registers.normalise_all.Given as goal

abbrev pub invariant-loop-k : goal.invariant-loop-k
invariant-loop-k l = l.self ≡ normalise_to l.k l.initial.self
