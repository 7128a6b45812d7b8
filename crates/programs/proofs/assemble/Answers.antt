use Rattle.programs.proofs.Ends.{left-cleared}
use Rattle.programs.proofs.assemble.Goals as goal

pub returns : goal.returns
returns c =
    let a = c.args in
    rw c.answer.ensures
    (left-cleared a.text.now a.words.now a.labels.now _ c.assemble_with-left.new.words c.clear.new.table c.assemble_with-left.new.table c.clear-2.new.table
    c.clear.ensures c.assemble_with-left.ensures.0 c.assemble_with-left.ensures.1 c.clear-2.ensures)
