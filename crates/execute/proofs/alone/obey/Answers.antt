use Rattle.execute.proofs.Forms.{obeyed-refused, an-ecall, an-ebreak, halted}
use Rattle.opcode.specs.declared.Form.TheVariants as F
use mathlib.Core.Path.{sym, ◌∙◌}
use Rattle.execute.proofs.alone.obey.Goals as goal

pub returns-then-unused-ne0 : goal.returns-then-unused-ne0
returns-then-unused-ne0 c = λ m. rw c.refuse.ensures (obeyed-refused _ _ _ _ F.Alone _ _ (sym c.requires) c.unused.ensures c.if-unused-ne0.true)

pub returns-then-same : goal.returns-then-same
returns-then-same c = λ m. an-ecall _ _ _ _ _ _ _ (sym c.requires) c.unused.ensures c.if-unused-ne0.false (sym c.same.ensures ∙ c.if-same.true) (c.call.ensures m)

pub returns : goal.returns
returns c = λ m. an-ebreak _ _ _ _ _ _ _ (sym c.requires) c.unused.ensures c.if-unused-ne0.false (sym c.same.ensures ∙ c.if-same.false) (rw c.halt.ensures (halted c.args.start _ m))
