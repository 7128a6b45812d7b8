use Rattle.std.proofs.Common.{◌≡◌, length, eq-eqb, arith}
use Rattle.layout.specs.Layout.{STATE_BYTES}
use Rattle.layout.proofs.Numbers.{mark-laid}
use Rattle.layout.proofs.reading.header_laid.Goals as goal

pub returns : goal.returns
returns c =
    let long : length c.args.bytes.now ≡ STATE_BYTES = omega arith in
    simp (eq-eqb _ _ long) (rw c.number_at.ensures (mark-laid c.args.bytes.now (λ k. (c.shared_slice_known-1.given k).fits)))
