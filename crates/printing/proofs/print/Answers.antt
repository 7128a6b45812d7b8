use mathlib.Core.Path.{sym, ◌∙◌}
use Rattle.printing.proofs.Answers.{broken, stopped, short, room-enough, written}
use Rattle.printing.proofs.print.Goals as goal

pub returns-then-words-ne0 : goal.returns-then-words-ne0
returns-then-words-ne0 c =
    let a = c.args in
    rw c.refused.ensures (broken a.words.now a.text.now c.if-words-ne0.true)

pub returns-then-left-eq0 : goal.returns-then-left-eq0
returns-then-left-eq0 c =
    let a = c.args in
    let room = sym c.measure.ensures ∙ c.in-Ok.is in
    rw c.refused-then-left-eq0.ensures (short a.words.now a.text.now c.if-words-ne0.false _ room c.if-left-eq0.true)

pub put_lines-end-requires-clause-words_in_bounds : goal.put_lines-end-requires-clause-words_in_bounds
put_lines-end-requires-clause-words_in_bounds c =
    let a = c.args in
    let room = sym c.measure.ensures ∙ c.in-Ok.is in
    room-enough a.words.now a.text.now c.if-words-ne0.false _ room c.if-left-eq0.false

pub returns-else-left-eq0 : goal.returns-else-left-eq0
returns-else-left-eq0 c =
    let a = c.args in
    let room =
    sym c.measure.ensures
    ∙ c.in-Ok.is in
    rw c.done.ensures
    (written a.words.now a.text.now c.if-words-ne0.false _ room
    c.if-left-eq0.false _ _ c.put_lines-end.ensures)

pub returns-in-Err : goal.returns-in-Err
returns-in-Err c =
    let a = c.args in
    let room = sym c.measure.ensures ∙ c.in-Err.is in
    rw (c.refused-in-Err.ensures, c.particular_of.ensures, c.number_of.ensures)
    (stopped a.words.now a.text.now c.if-words-ne0.false _ _ room)
