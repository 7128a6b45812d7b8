use mathlib.Core.Path.{refl}
use Rattle.std.proofs.Common.{arith}
use Rattle.value.proofs.Signs.{down-reads}
use Rattle.value.proofs.extension.reading_32.Goals as goal

pub returns : goal.returns
returns c = down-reads c.args.x _ (omega arith) refl
