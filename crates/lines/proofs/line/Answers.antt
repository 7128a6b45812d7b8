use Rattle.opcode.specs.declared.Opcode.{Opcode}
use Rattle.std.proofs.Common.{Option, drop, sym, ap, ◌∙◌}
use Rattle.lines.specs.Lines.{named}
use Rattle.lines.specs.Reader.{instruction_read}
use Rattle.lines.specs.Code.{labels_in, said_of}
use Rattle.lines.proofs.Starts.{began, word-said}
use Rattle.lines.proofs.line.Goals as goal

pub returns-in_default : goal.returns-in_default
returns-in_default c =
    let a = c.args in
    let look = labels_in a.text.now a.table.now a.own in
    began a.s.now c.start_of.result _
    c.start_of.ensures c.in-Word.is look
    ∙ ap (λ (f : Option Opcode). instruction_read f look (drop c.in-Word.n a.s.now))
    (sym c.named.ensures ∙ c.in_default.is)

pub returns-in-Blank : goal.returns-in-Blank
returns-in-Blank c = began c.args.s.now c.start_of.result _ c.start_of.ensures c.in-Blank.is _

pub returns-in-Label : goal.returns-in-Label
returns-in-Label c =
    let w =
    began c.args.s.now c.start_of.result _
    c.start_of.ensures c.in-Label.is in
    w.0 _ ∙ ap named w.1.0

pub returns-in-Some : goal.returns-in-Some
returns-in-Some c =
    let a = c.args in
    let look = labels_in a.text.now a.table.now a.own in
    began a.s.now c.start_of.result _
    c.start_of.ensures
    c.in-Word.is look
    ∙ ap (λ (f : Option Opcode). instruction_read f look (drop c.in-Word.n a.s.now))
    (sym c.named.ensures ∙ c.in-Some.is)
    ∙ c.instruction.ensures
    ∙ word-said a.s.now c.instruction.result
    ∙ ap (said_of a.s.now) (sym c.word_said.ensures)

pub returns-in-Other : goal.returns-in-Other
returns-in-Other c = began c.args.s.now c.start_of.result _ c.start_of.ensures c.in-Other.is _
