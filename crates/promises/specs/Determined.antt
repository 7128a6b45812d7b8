-- "The promise of every public function determines its answer and all memory and records lent to it afterwards, for each input, refused
-- ones too."
use Rattle.std.specs.Prelude.{◌≡◌}
use contract.Lifetimes.{Lfts}
use denote.Triple.Entry.{Args}
use denote.Triple.Clauses.{Ended}
use Rattle.agreement.specs.Contracts.{Leaves, Telling, Allows}

-- "two results allowed by it are equal": the results, with everything lent, that a function's own contract allows for the same arguments
abbrev pub Determined : (T : Ended) → Telling T → Type 0
Determined T told =
    (κs : Lfts T.signature.lifetimes) (a : Args T.signature κs) (x y : Leaves T κs a) → Allows T told κs a x → Allows T told κs a y → x ≡ y
