use Rattle.state.specs.Registers.{normalise_to}
use Rattle.deferred.specs.Sources.{sources, normalise_each}
use Rattle.execute.specs.Modes.{settle_sources}
use Rattle.execute.proofs.alone.settle_all.Goals as goal

pub returns-in-Deferred : goal.returns-in-Deferred
unfolding settle_sources sources normalise_each normalise_to
returns-in-Deferred c = rw c.in-Deferred.is (c.normalise_all.ensures)

pub returns-in-Plain : goal.returns-in-Plain
unfolding settle_sources
returns-in-Plain c = rw c.in-Plain.is
