use Rattle.memory.proofs.Accesses.{on-served, on-beyond, on-mis, served-fits}
use mathlib.Core.Path.{sym, ◌∙◌}
use Rattle.memory.proofs.fetch.Goals as goal

pub four_at-requires : goal.four_at-requires
four_at-requires c = served-fits _ _ _ (sym c.reach.ensures ∙ c.in-Served.is)

pub returns-in-Served : goal.returns-in-Served
returns-in-Served c = rw c.four_at.ensures (on-served _ _ _ _ (sym c.reach.ensures ∙ c.in-Served.is))

pub returns-in-Beyond : goal.returns-in-Beyond
returns-in-Beyond c = on-beyond _ _ _ _ (sym c.reach.ensures ∙ c.in-Beyond.is)

pub returns-in-Misaligned : goal.returns-in-Misaligned
returns-in-Misaligned c = on-mis _ _ _ _ (sym c.reach.ensures ∙ c.in-Misaligned.is)
