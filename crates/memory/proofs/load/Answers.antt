use Rattle.memory.proofs.Accesses.{stored-fits}
use mathlib.Core.Path.{sym, ◌∙◌}
use Rattle.memory.proofs.load.Goals as goal

pub read-requires : goal.read-requires
read-requires c = stored-fits c.args.size _ _ (sym c.storable.ensures ∙ c.in_ok-storable.was)
