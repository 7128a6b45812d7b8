use Rattle.std.proofs.Common.{◌≡◌}
use lib.Seq.{sets}
use Rattle.printing.specs.Passes.{places}
use Rattle.printing.proofs.put.put_places.Given as goal

abbrev pub invariant-loop-i : goal.invariant-loop-i
invariant-loop-i g l = sets l.text l.at (places g.row.BASE g.row.ZERO l.i l.rest) ≡ sets l.initial.text l.at (places g.row.BASE g.row.ZERO l.size l.number)
