use Rattle.forms.specs.Forms.{used_bits}
use Rattle.execute.proofs.Forms.{obeyed-made}
use Rattle.opcode.specs.declared.Form.TheVariants as F
use native.Mathlib.Omega.{arith}
use mathlib.Core.Path.{sym, refl}
use Rattle.execute.proofs.store.obey.Goals as goal

pub returns : goal.returns
unfolding used_bits
returns c = obeyed-made _ _ _ _ F.S 0 _ (sym c.requires) (omega (arith, c.ranges)) _ _ _ refl c.immediate.ensures c.parts-p.ensures c.executed.ensures
