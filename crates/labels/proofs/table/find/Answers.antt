use Rattle.std.proofs.Common.{ℕ, ◌≡◌, List, None, sym}
use mathlib.Core.Logic.{◌⊎◌, inl, inr}
use Rattle.labels.specs.Table.{index_by, index_in, found_by}
use Rattle.labels.specs.declared.table.Slot.{Slot}
use Rattle.labels.specs.declared.table.Slot.TheVariants.{Free, Full}
use Rattle.labels.proofs.table.find.Goals as goal

pub returns-in-Held : goal.returns-in-Held
unfolding index_in
returns-in-Held c = simp (sym c.in-Held.ensures.value, c.name_at-name.ensures)

not_held : (r : Slot) (table : List ℕ) (after : ℕ) → ((k : ℕ) × (r ≡ Free k)) ⊎ (r ≡ Full) → None ≡ found_by (index_by r table) after
not_held r table after (inl (k, e)) = simp e
not_held r table after (inr e) = simp e

pub returns-in-Free : goal.returns-in-Free
unfolding index_in
returns-in-Free c = simp (sym c.search.ensures.value) (not_held c.search.result c.args.table.now _ c.in-Free.is)
