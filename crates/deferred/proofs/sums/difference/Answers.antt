use Rattle.deferred.proofs.Waiting.{covers-limbs}
use Rattle.state.specs.Held.{kept, waits}
use mathlib.Core.Path.{sym, ◌∙◌}
use native.Mathlib.Omega.{arith}
use Rattle.deferred.proofs.sums.difference.Goals as goal

pub overflow_sub-result : goal.overflow_sub-result
overflow_sub-result c = let t = covers-limbs c.args.x c.args.y (sym c.covered.ensures ∙ c.if-not-covered.false) in omega arith

pub overflow_sub-result-2 : goal.overflow_sub-result-2
overflow_sub-result-2 c = let t = covers-limbs c.args.x c.args.y (sym c.covered.ensures ∙ c.if-not-covered.false) in omega arith

pub returns : goal.returns
unfolding kept waits
returns c = λ rd rs1 R. rw (sym c.covered.ensures ∙ c.if-not-covered.false, c.after_larger.ensures)
