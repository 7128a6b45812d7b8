use Rattle.labels.specs.Bytes.{is_space}
use Rattle.labels.proofs.Steps.{passed}
use Rattle.lines.proofs.Words.{none_left, none-there}
use Rattle.lines.proofs.Words.{none-word, some_word, parts_none}
use Rattle.lines.specs.Lines.{parts}
use Rattle.sums.specs.Code.{look_in}
use Rattle.std.proofs.Common.{[], ◌∙◌}
use Rattle.lines.proofs.instructions.nothing_more.Goals as goal

pub returns-then-n-s : goal.returns-then-n-s
returns-then-n-s c =
    let args = c.args in
    none-word args.op _ (none_left args.s.now args.at _ (look_in [] [] 0) (passed is_space _ _ _ c.skip-n.ensures) c.if-n-s.true)

pub returns : goal.returns
returns c =
    let args = c.args in
    some_word args.op _ [] (parts args.op 0 0 0 0)
    (none-there args.s.now args.at _ (look_in [] [] 0) (passed is_space _ _ _ c.skip-n.ensures) c.if-n-s.false)
    (parts_none args.op c.requires)
    ∙ c.word.ensures
