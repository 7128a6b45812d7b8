use Rattle.std.proofs.Common.{sym, ◌∙◌, arith}
use Rattle.std.specs.Int.{w64}
use Rattle.std.proofs.lemmas.Int.{to_z-of_z}
use Rattle.sums.proofs.Terms.{at_byte, shut-yes, shut-no}
use Rattle.sums.proofs.closed.Goals as goal

pub overflow_add-result : goal.overflow_add-result
overflow_add-result c = omega (arith, at_byte c.args.s.now c.args.at 40 (sym c.byte.ensures ∙ c.if-byte-eq41.true))

pub returns-then-byte-eq41 : goal.returns-then-byte-eq41
returns-then-byte-eq41 c = (rw (to_z-of_z w64 c.args.v c.ranges.v) (shut-yes c.args.s.now c.args.v c.args.at (sym c.byte.ensures ∙ c.if-byte-eq41.true)), (omega arith, omega (arith, at_byte c.args.s.now c.args.at 40 (sym c.byte.ensures ∙ c.if-byte-eq41.true))))

pub returns-else-byte-eq41 : goal.returns-else-byte-eq41
returns-else-byte-eq41 c = (shut-no c.args.s.now c.args.v c.args.at (λ z. c.if-byte-eq41.false (c.byte.ensures ∙ z)), tt)
