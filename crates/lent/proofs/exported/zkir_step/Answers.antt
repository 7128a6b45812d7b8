use Rattle.lent.proofs.Laws.{says-lent}
use Rattle.lent.proofs.exported.zkir_step.Goals as goal

pub returns : goal.returns
returns c =
    let a = c.args in
    says-lent a.mode a.state.now a.memory.now _ a.count a.list.now _ _ _ _ c.prepare-a.ensures c.step-r.ensures c.conclude-d.ensures
