use Rattle.std.proofs.Common.{◌∙◌}
use Rattle.run.proofs.Loops.{begins}
use Rattle.checked.proofs.Turning.{entry}
use Rattle.checked.proofs.run.Goals as goal

pub returns : goal.returns
returns c =
    c.go.ensures
    ∙ rw c.begin.ensures (begins _ _ _ _ _ _ (c.takes-taken.ensures ∙ entry c.args.choices c.args.s c.args.count c.args.list.now))
