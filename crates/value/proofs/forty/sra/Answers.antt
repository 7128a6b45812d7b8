use Rattle.std.proofs.Common.{ℕ, ◌-◌, ◌%◌, ◌^◌, sym, ap, ◌∙◌, arith}
use Rattle.value.proofs.Shifts.{shr-small, sra-low, sra-high}
use Rattle.value.proofs.forty.sra.Goals as goal

pub overflow_sub-result-else-v-lt-HALF : goal.overflow_sub-result-else-v-lt-HALF
overflow_sub-result-else-v-lt-HALF c = omega (arith, shr-small (2 ^ 40 - 1 - c.args.a % 2 ^ 40) c.args.k)

pub returns-then-v-lt-HALF : goal.returns-then-v-lt-HALF
returns-then-v-lt-HALF c = c.shr.ensures ∙ sym (sra-low c.args.a c.args.k c.if-v-lt-HALF.true)

pub returns-else-v-lt-HALF : goal.returns-else-v-lt-HALF
returns-else-v-lt-HALF c =
    ap (λ (n : ℕ). 2 ^ 40 - 1 - n) c.shr-else-v-lt-HALF.ensures
    ∙ sym (sra-high c.args.a c.args.k c.if-v-lt-HALF.false)
