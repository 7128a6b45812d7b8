use Rattle.labels.specs.Bytes.{is_space}
use Rattle.labels.proofs.Steps.{passed}
use Rattle.lines.proofs.Steps.{comma-bad, comma-no, comma-yes, operand-bad, operand-reg}
use Rattle.lines.specs.Lines.{register}
use Rattle.std.proofs.Common.{[], sym, ◌∙◌, arith}
use Rattle.sums.specs.Code.{look_in}
use Rattle.sums.proofs.Terms.{at_byte}
use Rattle.lines.proofs.operands.register_comma.Goals as goal

pub returns-in_err-r : goal.returns-in_err-r
returns-in_err-r c =
    let args = c.args in
    rw c.from_residual.ensures (
      comma-bad register (look_in [] [] 0) args.s.now args.at c.skip.result
          (passed is_space _ _ _ c.skip.ensures)
          (operand-bad (look_in [] [] 0) args.s.now c.skip.result c.register.result
          c.register.ensures.0 c.in_err-r.was),
      tt,
    )

pub overflow_add-result : goal.overflow_add-result
overflow_add-result c =
    omega (
      arith,
      at_byte c.args.s.now c.skip-n.result 43
          (sym c.byte.ensures ∙ c.if-byte-eq44.true),
    )

pub returns-then-byte-eq44 : goal.returns-then-byte-eq44
returns-then-byte-eq44 c =
    let args = c.args in (
      comma-yes register (look_in [] [] 0) args.s.now args.at c.skip.result
          (passed is_space _ _ _ c.skip.ensures) _ c.skip-n.result
          (operand-reg (look_in [] [] 0) args.s.now c.skip.result
          c.register.result c.register.ensures.0
          _ _ c.skip-n.result c.in_ok-r.was
          (passed is_space _ _ _ c.skip-n.ensures))
          (sym c.byte.ensures ∙ c.if-byte-eq44.true),
      omega (arith, at_byte args.s.now c.skip-n.result 43 (sym c.byte.ensures ∙ c.if-byte-eq44.true)),
    )

pub returns-else-byte-eq44 : goal.returns-else-byte-eq44
returns-else-byte-eq44 c =
    let args = c.args in (
      comma-no register (look_in [] [] 0) args.s.now args.at c.skip.result
          (passed is_space _ _ _ c.skip.ensures) _ c.skip-n.result
          (operand-reg (look_in [] [] 0) args.s.now c.skip.result
          c.register.result c.register.ensures.0
          _ _ c.skip-n.result c.in_ok-r.was
          (passed is_space _ _ _ c.skip-n.ensures))
          (λ z. c.if-byte-eq44.false (c.byte.ensures ∙ z)),
      tt,
    )
