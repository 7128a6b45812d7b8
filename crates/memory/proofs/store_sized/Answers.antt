use Rattle.memory.proofs.Accesses.{stored-fits}
use mathlib.Core.Path.{sym, ◌∙◌}
use Rattle.memory.proofs.store_sized.Goals as goal

pub write-requires : goal.write-requires
write-requires c = stored-fits c.args.size _ _ (sym c.storable.ensures ∙ c.in_ok-storable.was)
