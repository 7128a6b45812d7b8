use Rattle.std.proofs.Common.{◌∙◌, sym, ap, ◌&&◌, ◌<◌, arith, length, drop, Bool, ℕ}
use mathlib.Core.Bool.{not}
use Rattle.labels.specs.Bytes.{is_part, head_of}
use Rattle.labels.proofs.Steps.{same-name, no-name}
use Rattle.labels.proofs.table.same.Goals as goal

pub returns-then-starts_with : goal.returns-then-starts_with
returns-then-starts_with c =
    let rest = c.in-Some.rest.now in
    ap not c.part.ensures ∙ ap (λ (b : ℕ). not (is_part b)) c.byte.ensures
    ∙ ap (λ (x : Bool). x && not (is_part (head_of (drop (length c.args.name.now) rest)))) (sym c.if-starts_with.true ∙ c.starts_with.ensures.value)
    ∙ same-name c.args.text.now c.args.name.now rest c.args.p c.requires c.in-Some.ensures.lookup.0.2

pub returns-else-starts_with : goal.returns-else-starts_with
returns-else-starts_with c =
    let rest = c.in-Some.rest.now in
    c.if-starts_with.false
    ∙ ap (λ (x : Bool). x && not (is_part (head_of (drop (length c.args.name.now) rest)))) (sym c.if-starts_with.false ∙ c.starts_with.ensures.value)
    ∙ same-name c.args.text.now c.args.name.now rest c.args.p c.requires c.in-Some.ensures.lookup.0.2

pub returns-in-None : goal.returns-in-None
returns-in-None c =
    let past : length c.args.text.now < c.args.p = grind (arith, c.in-None.ensures.lookup.0) in
    c.is_empty.ensures ∙ no-name c.args.text.now c.args.name.now c.args.p past
