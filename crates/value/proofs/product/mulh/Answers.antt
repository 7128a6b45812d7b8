use Rattle.std.proofs.Common.{ℕ, suc, ◌-◌, ◌*◌, ◌^◌, ◌≤◌, arith}
use Rattle.value.proofs.Columns.{digit, products, sum_below, column_fits, columns-2-and-3}
use Rattle.value.proofs.product.mulh.Reads as reads
use Rattle.value.proofs.product.mulh.Lts as lts
use Rattle.value.proofs.product.mulh.Goals as goal

sums : (c : lts.Start reads.Pre reads.Post) (k : ℕ)
    → products (digit c.args.a) (digit c.args.b) k 0 ≤ suc k * ((2 ^ 20 - 1) * (2 ^ 20 - 1))
sums c = sum_below c.args.a c.args.b (omega arith) (omega arith)

pub overflow_mul-column0 : goal.overflow_mul-column0
overflow_mul-column0 c = omega (arith, sums c 0)

pub overflow_add-column1-2 : goal.overflow_add-column1-2
overflow_add-column1-2 c = column_fits _ _ _ (omega (arith, sums c 1)) (overflow_mul-column0 c) (omega arith)

pub overflow_add-column2-3 : goal.overflow_add-column2-3
overflow_add-column2-3 c = column_fits _ _ _ (omega (arith, sums c 2)) (overflow_add-column1-2 c) (omega arith)

pub overflow_add-column3-4 : goal.overflow_add-column3-4
overflow_add-column3-4 c = column_fits _ _ _ (omega (arith, sums c 3)) (overflow_add-column2-3 c) (omega arith)

pub returns : goal.returns
returns c = columns-2-and-3 c.args.a c.args.b
