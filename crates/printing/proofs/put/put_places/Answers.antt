use Rattle.std.proofs.Common.{arith, ◌≡◌, ◌+◌, ◌-◌, ap, sym, ◌∙◌}
use Rattle.printing.proofs.Pieces.{length-places, place-more, places_none}
use Rattle.printing.proofs.put.put_places.Goals as goal

pub loop-i-preserved : goal.loop-i-preserved
loop-i-preserved g c =
    let l = c.loop-i in
    let more : l.i - 1 + 1 ≡ l.i = omega arith in
    place-more g.row.BASE g.row.ZERO l.text c.args.at (l.i - 1) l.rest ∙ rw more l.invariant

pub returns : goal.returns
returns g c =
    let a = c.args in
    let l = c.loop-i in
    let none : l.i ≡ 0 = omega arith in
    record {
      stop = ap (a.at +◌) (sym (length-places g.row.BASE g.row.ZERO a.size a.number));
      left = rw (none, places_none g.row.BASE g.row.ZERO l.rest) at l.invariant;
    }
