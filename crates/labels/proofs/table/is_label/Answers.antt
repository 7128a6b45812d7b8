use Rattle.std.proofs.Common.{◌∙◌, sym, ap, arith, drop, Bool, ◌&&◌, eq-eqb}
use Rattle.labels.specs.Bytes.{is_part, every, eq_bytes, key_of}
use Rattle.labels.specs.Reading.{name_at}
use Rattle.labels.specs.declared.table.Name.{Name}
use Rattle.labels.proofs.Spans.{every-run}
use Rattle.labels.proofs.Steps.{name-slice, keyed-within}
use Rattle.labels.proofs.table.is_label.Goals as goal

pub slice_bounds-same-end : goal.slice_bounds-same-end
slice_bounds-same-end c =
    let s = c.args.s.now in
    let key = ap (λ (n : Name). n.key) c.requires.1 in
    let end = ap (λ (n : Name). n.after) c.requires.1 in
    omega (arith, keyed-within s c.args.at (λ z. c.requires.0 (c.if-q-name.true ∙ key ∙ z)))

pub same-requires : goal.same-requires
same-requires c =
    ap (every is_part) (name-slice c.args.s.now c.args.at c.args.name.after (ap (λ (n : Name). n.after) c.requires.1))
    ∙ every-run is_part (drop c.args.at c.args.s.now)

pub returns-then-q-name : goal.returns-then-q-name
returns-then-q-name c =
    let name = name_at c.args.s.now c.args.at in
    c.same.ensures
    ∙ ap (eq_bytes (name_at c.args.text.now c.args.p)) (name-slice c.args.s.now c.args.at c.args.name.after (ap (λ (n : Name). n.after) c.requires.1))
    ∙ ap (λ (b : Bool). b && eq_bytes (name_at c.args.text.now c.args.p) name) (sym (eq-eqb c.args.q (key_of name) (c.if-q-name.true ∙ ap (λ (n : Name). n.key) c.requires.1)))
