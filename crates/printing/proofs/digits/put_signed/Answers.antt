use native.Mathlib.Omega.{arith}
use Rattle.printing.proofs.Decimals.{not_negative, negative}
use Rattle.printing.proofs.Pieces.{both}
use Rattle.printing.proofs.digits.put_signed.Goals as goal

pub put_digits-requires : goal.put_digits-requires
put_digits-requires c = rw (not_negative c.args.n (omega arith)) at c.requires

pub returns-then-n-lt-HALF : goal.returns-then-n-lt-HALF
returns-then-n-lt-HALF c = rw (not_negative c.args.n (omega arith)) c.put_digits.ensures

pub put_byte-end-requires : goal.put_byte-end-requires
put_byte-end-requires c = let room = rw (negative c.args.n (omega arith)) at c.requires in omega arith

pub put_digits-requires-2 : goal.put_digits-requires-2
put_digits-requires-2 c =
    let room =
    rw (negative c.args.n (omega arith), ← c.negated.ensures) at
    c.requires in
    omega arith

pub returns : goal.returns
returns c =
    rw (negative c.args.n (omega arith), ← c.negated.ensures)
    (both c.put_byte-end.ensures c.put_digits-2.ensures)
