use Rattle.checkpoint.proofs.Steps.{table-stored}
use Rattle.checkpoint.proofs.table.put_table.Goals as goal

pub returns : goal.returns
returns c =
    let a = c.args in
    let count = c.put_number.ensures in
    let state = c.put_entry.ensures in
    rw (c.put_entries.ensures, state, count) (table-stored _ a.n)
