use mathlib.Core.Path.{◌≡◌, ap}
use native.Mathlib.Omega.{arith}
use lib.ListN.{length}
use Rattle.printing.specs.Print.{digits_by}
use Rattle.printing.proofs.Decimals.{one-digit, length_more, length_most}
use Rattle.printing.proofs.digits.count_digits.Goals as goal

pub overflow_add-count : goal.overflow_add-count
overflow_add-count c = omega (arith, length_most 20 c.args.n)

pub loop-rest-preserved : goal.loop-rest-preserved
loop-rest-preserved c = let more = length_more c.loop-rest.rest (omega arith) (omega arith) in omega arith

pub returns : goal.returns
returns c =
    let one : length (digits_by 20 c.loop-rest.rest) ≡ 1 = ap length (one-digit 19 c.loop-rest.rest (omega arith)) in
    omega (arith, length_most 20 c.args.n)
