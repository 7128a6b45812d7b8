use Rattle.std.proofs.Common.{◌∙◌, sym, ap, refl, arith, ℕ, ◌≡◌}
use Rattle.labels.specs.Bytes.{is_part}
use Rattle.labels.proofs.Spans.{head-drop}
use Rattle.labels.proofs.Steps.{name-on, name-ends, head-end}
use Rattle.labels.proofs.table.name_at.Goals as goal

pub returns-then-not-part : goal.returns-then-not-part
returns-then-not-part c =
    let s = c.args.s.now in
    let loop = c.loop-after in
    name-ends s c.args.at loop.key loop.after loop.invariant _ (sym (head-drop s loop.after)) (sym c.part.ensures ∙ c.if-not-part.true)

pub loop-after-preserved : goal.loop-after-preserved
loop-after-preserved c =
    let s = c.args.s.now in
    let loop = c.loop-after in
    name-on s c.args.at loop.key loop.after loop.invariant c.from.result (c.from.ensures ∙ sym (head-drop s loop.after))
    (ap is_part c.from.ensures ∙ sym c.part.ensures ∙ c.if-not-part.false)

pub returns : goal.returns
returns c =
    let s = c.args.s.now in
    let loop = c.loop-after in
    let going = loop.invariant.to in
    let last : c.max.result ≡ loop.after = grind arith in
    ap (λ (n : ℕ). record { key = loop.key; after = n }) last
    ∙ name-ends s c.args.at loop.key loop.after loop.invariant 0 (head-end s loop.after c.loop-after-test.false) refl
