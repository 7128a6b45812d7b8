use Rattle.std.proofs.Common.{◌∙◌, arith}
use Rattle.value.proofs.Signs.{sign_kept}
use Rattle.value.proofs.extension.extend.Goals as goal

pub returns : goal.returns
returns c = let a = c.args in c.cast_unsigned.ensures ∙ sign_kept a.k a.x _ c.requires (omega arith) c.reading_32.ensures
