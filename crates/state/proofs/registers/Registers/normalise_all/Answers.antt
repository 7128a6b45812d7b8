use Rattle.state.proofs.Files.{normalise_to-more}
use Rattle.state.specs.Registers.{normalise, normalise_to}
use mathlib.Core.Path.{refl, sym, ap, ◌∙◌}
use Prim.Native.Nat.{◌+◌}
use Rattle.state.proofs.registers.Registers.normalise_all.Goals as goal

pub loop-k-init : goal.loop-k-init
unfolding normalise_to
loop-k-init c = refl

pub loop-k-preserved : goal.loop-k-preserved
loop-k-preserved c = c.normalise.ensures ∙ ap (normalise (c.loop-k.k + 1)) c.loop-k.invariant ∙ sym (normalise_to-more _ _)
