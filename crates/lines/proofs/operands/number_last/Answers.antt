use Rattle.labels.proofs.Steps.{passed}
use Rattle.labels.specs.Bytes.{is_space}
use Rattle.lines.proofs.Steps.{last-bad, last-no, last-yes, operand-sum}
use Rattle.lines.specs.Lines.{immediate}
use Rattle.std.proofs.Common.{rules}
use Rattle.std.specs.Int.{w64}
use Rattle.std.proofs.lemmas.Int.{to_z-of_z}
use Rattle.lines.proofs.operands.number_last.Goals as goal

pub returns-in_err-v : goal.returns-in_err-v
returns-in_err-v c =
    let args = c.args in
    rw c.from_residual.ensures
    (last-bad immediate _ args.s.now args.at _ (passed is_space _ _ _ c.skip.ensures)
    (operand-sum _ _ _ c.in_err-v.ensures.0))

pub returns-then-n-s : goal.returns-then-n-s
returns-then-n-s c =
    let args = c.args in
    last-no immediate _ args.s.now args.at _ (passed is_space _ _ _ c.skip.ensures)
    c.in_ok-v.v c.in_ok-v.n
    (operand-sum _ _ _ c.in_ok-v.ensures.0)
    c.if-n-s.true

pub returns-else-n-s : goal.returns-else-n-s
returns-else-n-s c =
    let args = c.args in
    rw (to_z-of_z w64 c.in_ok-v.v (search rules))
    (last-yes immediate _ args.s.now args.at _ (passed is_space _ _ _ c.skip.ensures)
    c.in_ok-v.v c.in_ok-v.n
    (operand-sum _ _ _ c.in_ok-v.ensures.0)
    c.if-n-s.false)
