use Rattle.std.proofs.Common.{arith}
use Rattle.printing.proofs.Words.{number-below}
use Rattle.printing.proofs.source.number_of.Goals as goal

pub overflow_cast-result : goal.overflow_cast-result
overflow_cast-result c = omega (arith, c.number_at.ensures, number-below 4 c.args.word.now 0 (λ k. (c.type_inv.word k).fits))
