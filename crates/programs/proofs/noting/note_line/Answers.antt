use Rattle.programs.proofs.Meets.{plain-after}
use Rattle.programs.specs.Code.{after, start_after, line_after}
use Rattle.programs.specs.declared.noting.Tally.{Tally}
use Rattle.std.specs.Prelude.{Ok}
use Rattle.lines.specs.declared.Start.{Start}
use Rattle.lines.proofs.Starts.{began}
use Rattle.labels.proofs.Steps.{class-inside}
use Rattle.labels.specs.Bytes.{is_letter}
use lib.ListN.{length}
use native.Mathlib.Omega.{arith}
use Prim.Native.Nat.{◌<◌}
use mathlib.Core.Path.{refl, sym, ap, ◌∙◌}
use Rattle.programs.proofs.noting.note_line.Goals as goal

pub returns-then-is_plain : goal.returns-then-is_plain
returns-then-is_plain c =
    let a = c.args in
    ap (λ (u : Tally). after (Ok u) a.table.now) c.one_more.ensures
    ∙ plain-after a.text.now a.table.now a.line.bytes.now a.line.at a.line.number a.t
    (sym c.is_plain.ensures ∙ c.if-is_plain.true)

pub overflow_add-line : goal.overflow_add-line
overflow_add-line c =
    let a = c.args in
    let i : c.in-Label.p < length a.line.bytes.now =
    class-inside is_letter a.line.bytes.now _ refl
    (began a.line.bytes.now c.start_of.result _ c.start_of.ensures
    c.in-Label.is).1.1.0 in
    omega (arith, c.requires)

pub returns-in-Blank : goal.returns-in-Blank
unfolding line_after
returns-in-Blank c =
    let a = c.args in
    ap (λ (x : Start). start_after a.text.now a.table.now x a.line.at a.line.number a.t)
    (sym (sym c.start_of.ensures ∙ c.in-Blank.is))

pub returns-in-Label : goal.returns-in-Label
unfolding line_after
returns-in-Label c =
    let a = c.args in
    c.note_label.ensures
    ∙ ap (λ (x : Start). start_after a.text.now a.table.now x a.line.at a.line.number a.t)
    (sym (sym c.start_of.ensures ∙ c.in-Label.is))

pub returns-in-Word : goal.returns-in-Word
unfolding line_after
returns-in-Word c =
    let a = c.args in
    ap (λ (u : Tally). after (Ok u) a.table.now) c.one_more-in-Word.ensures
    ∙ ap (λ (x : Start). start_after a.text.now a.table.now x a.line.at a.line.number a.t)
    (sym (sym c.start_of.ensures ∙ c.in-Word.is))

pub returns-in-Other : goal.returns-in-Other
unfolding line_after
returns-in-Other c =
    let a = c.args in
    ap (λ (u : Tally). after (Ok u) a.table.now) c.one_more-in-Other.ensures
    ∙ ap (λ (x : Start). start_after a.text.now a.table.now x a.line.at a.line.number a.t)
    (sym (sym c.start_of.ensures ∙ c.in-Other.is))
