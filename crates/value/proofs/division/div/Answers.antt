use Rattle.std.proofs.Common.{◌∙◌, arith}
use Rattle.value.proofs.Quotients.{div-by-zero, div-pair, quotient}
use Rattle.value.proofs.division.div.Goals as goal

pub returns-then-b-eq0 : goal.returns-then-b-eq0
returns-then-b-eq0 c = div-by-zero c.args.a c.args.b c.if-b-eq0.true

pub returns-then-overflows : goal.returns-then-overflows
returns-then-overflows c =
    let found = c.overflows.ensures.0 c.if-overflows.true in
    div-pair c.args.a c.args.b found.0 found.1

pub returns : goal.returns
returns c =
    let start = c.before in
    c.cast_unsigned.ensures
    ∙ quotient start.args.a start.args.b (omega arith) (omega arith) _ _ c.cast_signed.ensures c.cast_signed-2.ensures
    (c.overflows.ensures.1 c.if-overflows.false)
