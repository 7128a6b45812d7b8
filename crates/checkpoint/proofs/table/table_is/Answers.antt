use Rattle.checkpoint.proofs.Steps.{table_front}
use Rattle.std.proofs.Common.{rules, ◌∙◌}
use Rattle.checkpoint.proofs.table.table_is.Goals as goal

pub returns : goal.returns
returns c = c.eq.ensures ∙ rw (table_front _ _ c.args.n c.put_table.ensures (search rules))
