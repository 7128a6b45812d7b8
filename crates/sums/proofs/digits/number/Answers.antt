use Rattle.sums.proofs.Terms.{sooner, at_byte, number-plus, number-minus, number-bare}
use native.Mathlib.Omega.{arith}
use Prim.Native.Nat.{◌+◌}
use mathlib.Core.Path.{sym, ◌∙◌}
use Rattle.sums.proofs.digits.number.Goals as goal

pub overflow_add-at : goal.overflow_add-at
overflow_add-at c = omega (arith, at_byte c.args.s.now c.args.at 42 (sym c.byte-c.ensures ∙ c.if-c-eq43.true))

pub returns-then-c-eq43 : goal.returns-then-c-eq43
returns-then-c-eq43 c =
    let args = c.args in (
      number-plus args.s.now args.at (sym c.byte-c.ensures ∙ c.if-c-eq43.true) ∙ c.digits.ensures.0,
      sooner args.s.now args.at (args.at + 1) c.digits.result (omega arith) c.digits.ensures.1,
    )

pub overflow_add-at-then-c-eq45 : goal.overflow_add-at-then-c-eq45
overflow_add-at-then-c-eq45 c = omega (arith, at_byte c.args.s.now c.args.at 44 (sym c.byte-c.ensures ∙ c.if-c-eq45.true))

pub returns-then-c-eq45 : goal.returns-then-c-eq45
returns-then-c-eq45 c =
    let args = c.args in (
      number-minus args.s.now args.at (sym c.byte-c.ensures ∙ c.if-c-eq45.true) ∙ c.digits-then-c-eq45.ensures.0,
      sooner args.s.now args.at (args.at + 1) c.digits-then-c-eq45.result (omega arith) c.digits-then-c-eq45.ensures.1,
    )

pub returns : goal.returns
returns c =
    let args = c.args in (
      number-bare args.s.now args.at (λ z. c.if-c-eq43.false (c.byte-c.ensures ∙ z))
          (λ z. c.if-c-eq45.false (c.byte-c.ensures ∙ z))
          ∙ c.digits-2.ensures.0,
      c.digits-2.ensures.1,
    )
