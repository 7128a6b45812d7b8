use Rattle.std.proofs.Common.{sym, ◌∙◌}
use Rattle.run.proofs.Loops.{fits, turned, falls}
use Rattle.checks.proofs.Listed.{room-is}
use Rattle.checked.proofs.go.Goals as goal

pub loop-r-smaller : goal.loop-r-smaller
loop-r-smaller c = rw c.next-r.ensures (falls c.loop-r.r _ _ _ c.advance-g.result c.loop-r-test.true c.advance-g.ensures)

pub loop-r-preserved : goal.loop-r-preserved
loop-r-preserved c =
    let l = c.loop-r in (
      rw c.next-r.ensures (fits l.r _ _ _ c.advance-g.result c.loop-r-test.true c.advance-g.ensures l.invariant.0),
      rw (c.next-r.ensures, c.note-count.ensures) (turned l.r _ _ _ c.advance-g.result c.loop-r-test.true c.advance-g.ensures _ (room-is l.count l.list ∙ sym c.room_at.ensures) l.invariant.0)
          ∙ l.invariant.1,
    )
