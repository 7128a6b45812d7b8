use Rattle.execute.proofs.Admitting.{not-formed}
use Rattle.execute.specs.Execute.{admits}
use mathlib.Core.Path.{sym, ◌∙◌}
use Rattle.execute.proofs.admits.Goals as goal

pub returns-then-not-well_formed : goal.returns-then-not-well_formed
returns-then-not-well_formed c = sym (not-formed _ _ (sym c.well_formed-2.ensures ∙ c.if-not-well_formed.true))

pub returns-in-Plain : goal.returns-in-Plain
unfolding admits
returns-in-Plain c = rw (c.in-Plain.is, sym c.well_formed-2.ensures ∙ c.if-not-well_formed.false) c.all_whole.ensures

pub returns-in-Deferred : goal.returns-in-Deferred
unfolding admits
returns-in-Deferred c = rw (c.in-Deferred.is, sym c.well_formed-2.ensures ∙ c.if-not-well_formed.false)
