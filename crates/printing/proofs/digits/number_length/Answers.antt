use native.Mathlib.Omega.{arith}
use Rattle.printing.proofs.Decimals.{not_negative, negative}
use Rattle.printing.proofs.digits.number_length.Goals as goal

pub returns-then-n-lt-HALF : goal.returns-then-n-lt-HALF
returns-then-n-lt-HALF c = (rw (not_negative c.args.n (omega arith)) c.count_digits.ensures.0, omega arith)

pub returns : goal.returns
returns c =
    let n = c.args.n in
    (rw (negative n (omega arith), ← c.negated.ensures) (omega arith), omega arith)
