use Rattle.deferred.proofs.Waiting.{waited, forced}
use Rattle.deferred.specs.Limbs.{limbed}
use mathlib.Core.Bool.{true}
use mathlib.Core.Path.{ap, sym, ◌∙◌}
use Rattle.deferred.proofs.sums.sum.Goals as goal

pub returns-then-fit : goal.returns-then-fit
returns-then-fit c = λ rd rs1 R. ap (limbed true) (rw c.after_add-bound.ensures (waited rd _ c.args.x c.args.y R _ (sym c.fit.ensures ∙ c.if-fit.true)))

pub returns : goal.returns
returns c = λ rd rs1 R. ap (limbed true) (rw (c.after_add-bound.ensures, c.sum_of_whole.ensures) (forced rd _ c.args.x c.args.y R _ _ _ (sym c.fit.ensures ∙ c.if-fit.false) c.value.ensures c.value-2.ensures))
