use Rattle.std.proofs.Common.{sym, ap, ◌∙◌, arith}
use Rattle.labels.specs.Bytes.{is_letter}
use Rattle.labels.specs.declared.table.Name.{Name}
use Rattle.sums.proofs.Terms.{at_byte}
use Rattle.lines.proofs.Starts.{start-blank, start-other, start_word, start-more, start-label}
use Rattle.lines.proofs.start_of.Goals as goal

pub returns-then-s-at : goal.returns-then-s-at
returns-then-s-at c = start-blank c.args.s.now c.skip-at.result c.skip-at.ensures c.if-s-at.true

pub returns-then-not-letter : goal.returns-then-not-letter
returns-then-not-letter c =
    start-other c.args.s.now c.skip-at.result
    c.skip-at.ensures c.if-s-at.false
    (sym (c.letter.ensures ∙ ap is_letter c.byte.ensures) ∙ c.if-not-letter.true)

pub returns-then-byte-ne58 : goal.returns-then-byte-ne58
returns-then-byte-ne58 c =
    start_word c.args.s.now
    c.skip-at.result
    c.skip-at.ensures
    c.if-s-at.false
    (sym (c.letter.ensures ∙ ap is_letter c.byte.ensures)
    ∙ c.if-not-letter.false)
    c.name_at-name.result.after c.skip-n.result
    (ap (λ (n : Name). n.after) c.name_at-name.ensures) c.skip-n.ensures
    (λ z. c.if-byte-ne58.true (c.byte-2.ensures ∙ z)) c.name_at-name.result.key
    (ap (λ (n : Name). n.key) c.name_at-name.ensures)

pub overflow_add-n : goal.overflow_add-n
overflow_add-n c =
    omega (
      arith,
      at_byte c.args.s.now c.skip-n.result 57
          (sym c.byte-2.ensures ∙ c.if-byte-ne58.false),
    )

pub returns-then-skip-s : goal.returns-then-skip-s
returns-then-skip-s c =
    start-more c.args.s.now
    c.skip-at.result
    c.skip-at.ensures
    c.if-s-at.false
    (sym
    (c.letter.ensures
    ∙ ap is_letter c.byte.ensures)
    ∙ c.if-not-letter.false)
    c.name_at-name.result.after c.skip-n.result
    (ap (λ (n : Name). n.after) c.name_at-name.ensures) c.skip-n.ensures
    (sym c.byte-2.ensures ∙ c.if-byte-ne58.false) c.skip.result c.skip.ensures
    c.if-skip-s.true

pub returns : goal.returns
returns c =
    start-label c.args.s.now
    c.skip-at.result
    c.skip-at.ensures
    c.if-s-at.false
    (sym
    (c.letter.ensures
    ∙ ap is_letter c.byte.ensures)
    ∙ c.if-not-letter.false)
    c.name_at-name.result.after c.skip-n.result
    (ap (λ (n : Name). n.after) c.name_at-name.ensures) c.skip-n.ensures
    (sym c.byte-2.ensures ∙ c.if-byte-ne58.false) c.skip.result c.skip.ensures
    c.if-skip-s.false
