use native.Mathlib.Omega.{arith}
use mathlib.Core.Path.{sym, ◌∙◌}
use Rattle.layout.proofs.Stored.{records-more, records-none}
use Rattle.layout.proofs.writing.put_records.Goals as goal

pub loop-i-preserved : goal.loop-i-preserved
loop-i-preserved c =
    let a = c.args in
    let l = c.loop-i in (
      omega arith,
      rw (c.put_three.ensures, c.record_of-r.ensures) (sym (records-more a.registers.now l.bytes l.i (omega arith)) ∙ l.invariant.1),
    )

pub returns : goal.returns
returns c = sym (records-none _ _ _ (omega arith)) ∙ c.loop-i.invariant.1
