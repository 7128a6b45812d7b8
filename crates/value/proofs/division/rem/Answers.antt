use Rattle.std.proofs.Common.{◌∙◌, arith}
use Rattle.value.proofs.Quotients.{rem-by-zero, rem-pair, remainder}
use Rattle.value.proofs.division.rem.Goals as goal

pub returns-then-b-eq0 : goal.returns-then-b-eq0
returns-then-b-eq0 c = rem-by-zero c.args.a c.args.b (omega arith) c.if-b-eq0.true

pub returns-then-overflows : goal.returns-then-overflows
returns-then-overflows c =
    let found = c.overflows.ensures.0 c.if-overflows.true in
    rem-pair c.args.a c.args.b found.0 found.1

pub returns : goal.returns
returns c =
    let start = c.before in
    c.cast_unsigned.ensures
    ∙ remainder start.args.a start.args.b (omega arith) (omega arith) _ _ c.cast_signed.ensures c.cast_signed-2.ensures
