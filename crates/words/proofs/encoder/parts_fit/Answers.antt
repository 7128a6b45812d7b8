use Rattle.words.specs.Words.{parts_fit}
use Rattle.words.proofs.encoder.parts_fit.Goals as goal

pub returns : goal.returns
unfolding parts_fit
returns c = rw (c.imm_fits.ensures, c.form_of.ensures)
