use Rattle.std.proofs.Common.{sym, ◌∙◌}
use Rattle.run.proofs.Loops.{fits, turned, falls}
use Rattle.run.proofs.go.Goals as goal

pub loop-r-smaller : goal.loop-r-smaller
loop-r-smaller c = rw c.next-r.ensures (falls c.loop-r.r _ _ _ c.advance-g.result c.loop-r-test.true c.advance-g.ensures)

pub loop-r-preserved : goal.loop-r-preserved
loop-r-preserved c = (c.m-1.given ∙ c.loop-r.invariant.0, c.values-1.given ∙ c.loop-r.invariant.1, c.bounds-1.given ∙ c.loop-r.invariant.2, c.pcs-1.given ∙ c.loop-r.invariant.3, rw c.next-r.ensures (fits c.loop-r.r _ _ _ c.advance-g.result c.loop-r-test.true c.advance-g.ensures c.loop-r.invariant.4), rw (c.next-r.ensures, c.list-listed.ensures) (turned c.loop-r.r _ _ _ c.advance-g.result c.loop-r-test.true c.advance-g.ensures _ (sym c.room_at.ensures) c.loop-r.invariant.4) ∙ c.loop-r.invariant.5)
