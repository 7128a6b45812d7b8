-- The functions that are proved by hand: that their clauses are one fact, and that it determines what a call leaves.
use denote.Triple.Clauses.{Ended}
use Rattle.agreement.specs.Contracts.{Telling}
use Rattle.agreement.specs.ByHand.{Clausing, Says}
use Rattle.promises.specs.Determined.{Determined}

abbrev pub ByHand : (T : Ended) → Clausing T → Telling T → Type 2
ByHand T clauses told = Says T clauses told × Determined T told
