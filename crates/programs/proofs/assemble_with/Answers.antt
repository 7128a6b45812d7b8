use Rattle.programs.proofs.Ends.{left-short, left-bad, left-small, words-fit, left-done}
use Rattle.std.proofs.Common.{arith, ◌≡◌, Err, sym, ◌∙◌}
use Rattle.programs.proofs.assemble_with.Goals as goal

pub returns-in_err-second : goal.returns-in_err-second
returns-in_err-second c =
    let a = c.args in
    let f = c.in_err-second.field-0.0 in
    let noted = c.note_labels.ensures in
    let is : c.from_residual.result ≡ Err f = grind arith in
    rw is (left-short a.text.now a.words.now a.table.now c.note_labels.new.table f (rw c.in_err-second.was at noted.0) noted.1, noted.1)

pub returns-in_err-n : goal.returns-in_err-n
returns-in_err-n c =
    let a = c.args in
    let f = c.in_err-n.field-0.0 in
    let noted = c.note_labels.ensures in
    let is : c.from_residual-in_err-n.result ≡ Err f = grind arith in
    rw is (left-bad a.text.now a.words.now a.table.now _ _ (rw c.in_ok-second.was at noted.0) noted.1 f (sym c.check.ensures ∙ c.in_err-n.was), noted.1)

pub returns-then-words-n : goal.returns-then-words-n
returns-then-words-n c =
    let a = c.args in
    let noted = c.note_labels.ensures in
    (left-small a.text.now a.words.now a.table.now _ _ (rw c.in_ok-second.was at noted.0) noted.1 _ (sym c.check.ensures ∙ c.in_ok-n.was) c.if-words-n.true, noted.1)

pub write_words-requires : goal.write_words-requires
write_words-requires c =
    let a = c.args in
    let noted = c.note_labels.ensures in
    words-fit a.text.now a.words.now a.table.now _ _ (rw c.in_ok-second.was at noted.0) noted.1 _ (sym c.check.ensures ∙ c.in_ok-n.was) c.if-words-n.false

pub returns : goal.returns
returns c =
    let a = c.args in
    let noted = c.note_labels.ensures in (
      rw c.write_words.ensures
          (left-done a.text.now a.words.now a.table.now _ _ (rw c.in_ok-second.was at noted.0) noted.1 _ (sym c.check.ensures ∙ c.in_ok-n.was) c.if-words-n.false),
      noted.1,
    )
