use Rattle.state.specs.declared.registers.Registers.{Registers}
use Rattle.state.specs.Registers.{put}
use Rattle.state.specs.Held.{Whole, kept, waits}
use mathlib.Core.Path.{ap, ◌∙◌}
use Rattle.execute.proofs.carrying.put.Goals as goal

pub returns : goal.returns
unfolding kept waits
returns c = c.write.ensures ∙ ap (λ (R : Registers). put R c.args.w.rd (Whole c.args.w.value) c.args.w.bound) c.settle_two.ensures
