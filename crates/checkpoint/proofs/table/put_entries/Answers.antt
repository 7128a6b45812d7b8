use Rattle.checkpoint.proofs.Steps.{entries-more, entries_none}
use Rattle.std.proofs.Common.{arith, sym, ◌∙◌}
use Rattle.checkpoint.proofs.table.put_entries.Goals as goal

pub loop-i-preserved : goal.loop-i-preserved
loop-i-preserved c =
    let a = c.args in
    let l = c.loop-i in
    rw c.put_entry.ensures (sym (entries-more l.into a.n a.offset l.i (omega arith)) ∙ l.invariant)

pub returns : goal.returns
returns c = rw (entries_none c.args.n c.loop-i.i _ (omega arith)) at c.loop-i.invariant
