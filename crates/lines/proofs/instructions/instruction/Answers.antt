use Rattle.lines.proofs.Words.{three-any}
use Rattle.lines.specs.Code.{labels_in}
use Rattle.lines.specs.Reader.{operands_read}
use Rattle.lines.specs.Lines.{kinds_of, word_for, saying_of}
use Rattle.sums.specs.Code.{look_in}
use Rattle.opcode.specs.declared.Form.{Form}
use Rattle.std.proofs.Common.{Option, List, [], drop, ℤ, sym, ap, ◌∙◌}
use Rattle.lines.proofs.instructions.instruction.Goals as goal

pub returns-in-R : goal.returns-in-R
returns-in-R c =
    let args = c.args in
    ap
    (λ (f : Form). saying_of
    (word_for args.op (operands_read (kinds_of f) (labels_in args.scope.text.now args.scope.table.now args.scope.base f) (drop args.at args.s.now))))
    (sym c.form_of-f.ensures ∙ c.in-R.is)
    ∙ ap (λ (o : Option (List ℤ)). saying_of (word_for args.op o))
    (three-any (look_in args.scope.text.now args.scope.table.now 0) (look_in [] [] 0) (drop args.at args.s.now))
    ∙ c.three_registers.ensures

pub returns-in-Alone : goal.returns-in-Alone
unfolding operands_read
returns-in-Alone c =
    let args = c.args in
    ap
    (λ (f : Form). saying_of
    (word_for args.op (operands_read (kinds_of f) (labels_in args.scope.text.now args.scope.table.now args.scope.base f) (drop args.at args.s.now))))
    (sym c.form_of-f.ensures ∙ c.in-Alone.is)
    ∙ c.nothing_more.ensures
