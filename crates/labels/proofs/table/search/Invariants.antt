use Rattle.std.proofs.Common.{◌≡◌, ◌/◌, ◌-◌, ◌<◌, length}
use Rattle.labels.specs.Table.{search_from, search_in}
use Rattle.labels.specs.Reading.{name_at}
use Rattle.labels.proofs.table.search.Given as goal

abbrev pub invariant-loop-passed : goal.invariant-loop-passed
invariant-loop-passed l =
    (l.k < l.slots) × ((l.slots ≡ length l.table / 3) × (search_in l.text l.table (name_at l.s l.at) ≡ search_from l.text l.table (name_at l.s l.at) (l.slots - l._passed) l.k))
