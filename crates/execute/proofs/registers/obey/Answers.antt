use Rattle.execute.proofs.Forms.{obeyed-refused, obeyed-made}
use Rattle.opcode.specs.declared.Form.TheVariants as F
use mathlib.Core.Path.{sym}
use Rattle.execute.proofs.registers.obey.Goals as goal

pub returns-then-unused-ne0 : goal.returns-then-unused-ne0
returns-then-unused-ne0 c = λ m. rw c.refuse.ensures (obeyed-refused _ _ _ _ F.R _ _ (sym c.requires) c.unused.ensures c.if-unused-ne0.true)

pub returns : goal.returns
returns c = λ m. obeyed-made _ _ _ _ F.R _ _ (sym c.requires) c.unused.ensures _ _ _ c.if-unused-ne0.false c.immediate.ensures c.parts-p.ensures (c.executed.ensures m)
