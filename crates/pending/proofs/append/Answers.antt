use Rattle.std.specs.Prelude.{Ok}
use Rattle.pending.proofs.Lists.{append-malformed, append-full, append-done}
use Rattle.pending.specs.Pending.{Lists, lacks}
use Rattle.pending.specs.declared.Room.{Room}
use mathlib.Core.Path.{sym, ◌∙◌, ap}
use Rattle.pending.proofs.append.Goals as goal

pub returns-then-not-lists_fit : goal.returns-then-not-lists_fit
returns-then-not-lists_fit c = let t = append-malformed _ _ _ _ (sym c.lists_fit.ensures ∙ c.if-not-lists_fit.true) in (t.0, rw t.1)

pub returns-then-lacks : goal.returns-then-lacks
returns-then-lacks c = let t = append-full _ _ _ _ (sym c.lists_fit.ensures ∙ c.if-not-lists_fit.false) (ap (λ (r : Room). lacks r 1) (sym c.room_at.ensures) ∙ sym c.lacks.ensures ∙ c.if-lacks.true) in (t.0, rw t.1)

pub returns : goal.returns
returns c = let t = append-done _ _ _ _ (sym c.lists_fit.ensures ∙ c.if-not-lists_fit.false) (ap (λ (r : Room). lacks r 1) (sym c.room_at.ensures) ∙ sym c.lacks.ensures ∙ c.if-lacks.false) in (ap (λ (l : Lists). Ok l.count) c.note.ensures ∙ t.0, rw (t.1, ← c.note.ensures))
