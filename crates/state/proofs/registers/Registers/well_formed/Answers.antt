use Rattle.state.proofs.Below.{all_none, all_more, all-stop}
use Rattle.state.specs.Formed.{zero_fits, well_formed}
use mathlib.Core.Path.{◌≡◌, sym, ◌∙◌}
use native.Mathlib.Omega.{arith}
use Rattle.state.proofs.registers.Registers.well_formed.Goals as goal

pub returns-then-not-zero_fits : goal.returns-then-not-zero_fits
unfolding well_formed zero_fits
returns-then-not-zero_fits c = rw (sym c.zero_fits.ensures ∙ c.if-not-zero_fits.true)

pub loop-n-init : goal.loop-n-init
loop-n-init c = all_none _

pub returns-then-not-fits_at : goal.returns-then-not-fits_at
unfolding well_formed zero_fits
returns-then-not-fits_at c = rw (sym c.zero_fits.ensures ∙ c.if-not-zero_fits.false) (sym (all-stop _ 16 _ c.loop-n-test.true (sym c.fits_at.ensures ∙ c.if-not-fits_at.true)))

pub loop-n-preserved : goal.loop-n-preserved
loop-n-preserved c = all_more _ _ c.loop-n.invariant (sym c.fits_at.ensures ∙ c.if-not-fits_at.false)

pub returns : goal.returns
unfolding well_formed zero_fits
returns c = let e : c.loop-n.n ≡ 16 = omega arith in
    rw (sym c.zero_fits.ensures ∙ c.if-not-zero_fits.false) (sym (rw e at c.loop-n.invariant))
