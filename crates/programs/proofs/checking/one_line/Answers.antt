use Rattle.programs.proofs.Checks.{step_is}
use Rattle.programs.specs.declared.Failure.{Failure}
use Rattle.lines.specs.Code.{said_of}
use Rattle.std.proofs.Common.{Bool, cond, Ok, Err, sym, ap, ◌∙◌}
use borrow.Author.Tests.{eq-eqb, ne_eqb}
use Rattle.programs.proofs.checking.one_line.Goals as goal

pub returns-then-line-second : goal.returns-then-line-second
returns-then-line-second c =
    let a = c.args in
    let l = a.line in
    sym (ap (λ (t : Bool). cond t (Err (Failure.BadLine l.number)) (Ok a.own)) (eq-eqb l.number a.second c.if-line-second.true))
    ∙ step_is a.text.now a.table.now _ l.number l.bytes.now a.own _ (c.line.ensures ∙ ap (said_of l.bytes.now) c.in-Name.is)

pub returns-else-line-second : goal.returns-else-line-second
returns-else-line-second c =
    let a = c.args in
    let l = a.line in
    sym (ap (λ (t : Bool). cond t (Err (Failure.BadLine l.number)) (Ok a.own)) (ne_eqb l.number a.second c.if-line-second.false))
    ∙ step_is a.text.now a.table.now _ l.number l.bytes.now a.own _ (c.line.ensures ∙ ap (said_of l.bytes.now) c.in-Name.is)

pub returns-in-Blank : goal.returns-in-Blank
returns-in-Blank c =
    let a = c.args in
    step_is a.text.now a.table.now _ _ a.line.bytes.now a.own _ (c.line.ensures ∙ ap (said_of a.line.bytes.now) c.in-Blank.is)

pub returns-in-Word : goal.returns-in-Word
returns-in-Word c =
    let a = c.args in
    step_is a.text.now a.table.now _ _ a.line.bytes.now a.own _ (c.line.ensures ∙ ap (said_of a.line.bytes.now) c.in-Word.is)

pub returns-in-Bad : goal.returns-in-Bad
returns-in-Bad c =
    let a = c.args in
    step_is a.text.now a.table.now _ _ a.line.bytes.now a.own _ (c.line.ensures ∙ ap (said_of a.line.bytes.now) c.in-Bad.is)
