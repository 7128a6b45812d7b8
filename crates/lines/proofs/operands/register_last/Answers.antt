use Rattle.labels.specs.Bytes.{is_space}
use Rattle.labels.proofs.Steps.{passed}
use Rattle.lines.proofs.Steps.{last-bad, last-no, last-yes, operand-bad, operand-reg}
use Rattle.lines.specs.Lines.{register}
use Rattle.std.proofs.Common.{[]}
use Rattle.sums.specs.Code.{look_in}
use Rattle.lines.proofs.operands.register_last.Goals as goal

pub returns-in_err-r : goal.returns-in_err-r
returns-in_err-r c =
    let args = c.args in
    rw c.from_residual.ensures (
      last-bad register (look_in [] [] 0) args.s.now args.at c.skip.result
          (passed is_space _ _ _ c.skip.ensures)
          (operand-bad (look_in [] [] 0) args.s.now c.skip.result c.register.result
          c.register.ensures.0 c.in_err-r.was),
      tt,
    )

pub returns-then-n-s : goal.returns-then-n-s
returns-then-n-s c =
    let args = c.args in (
      last-no register (look_in [] [] 0) args.s.now args.at c.skip.result
          (passed is_space _ _ _ c.skip.ensures) _ c.skip-n.result
          (operand-reg (look_in [] [] 0) args.s.now c.skip.result
          c.register.result c.register.ensures.0 _ _
          c.skip-n.result c.in_ok-r.was (passed is_space _ _ _ c.skip-n.ensures))
          c.if-n-s.true,
      tt,
    )

pub returns-else-n-s : goal.returns-else-n-s
returns-else-n-s c =
    let args = c.args in (
      last-yes register (look_in [] [] 0) args.s.now args.at c.skip.result
          (passed is_space _ _ _ c.skip.ensures) _ c.skip-n.result
          (operand-reg (look_in [] [] 0) args.s.now c.skip.result
          c.register.result c.register.ensures.0 _ _
          c.skip-n.result c.in_ok-r.was (passed is_space _ _ _ c.skip-n.ensures))
          c.if-n-s.false,
      (passed is_space _ _ _ c.skip-n.ensures).within
          (c.in_ok-r.ensures.1),
    )
