use Rattle.lines.proofs.Steps.{reg-none, reg-bad, reg-two, reg-one, two-bounds}
use Rattle.lines.specs.Code.{is_two}
use Rattle.sums.proofs.Terms.{at_byte}
use Rattle.labels.proofs.Steps.{class-inside}
use Rattle.labels.proofs.Spans.{inside}
use Rattle.labels.specs.Bytes.{head_of, is_digit}
use Rattle.sums.specs.Reader.{got}
use Rattle.std.proofs.Common.{◌≡◌, ℕ, ◌+◌, ◌-◌, drop, pos, sym, refl, ap, ◌∙◌, arith}
use Rattle.lines.proofs.operands.register.Goals as goal

pub returns-then-c-ne82 : goal.returns-then-c-ne82
returns-then-c-ne82 c = (reg-none c.args.s.now c.args.at (λ z. c.if-c-ne82.true (c.byte-c.ensures ∙ z)), tt)

pub overflow_add-at : goal.overflow_add-at
overflow_add-at c = omega (arith, at_byte c.args.s.now c.args.at 81 (sym c.byte-c.ensures ∙ c.if-c-ne82.false))

pub returns-then-not-digit : goal.returns-then-not-digit
returns-then-not-digit c =
    let args = c.args in (
      reg-bad args.s.now args.at (sym c.byte-c.ensures ∙ c.if-c-ne82.false)
          (sym (c.digit.ensures ∙ ap is_digit c.byte-a.ensures) ∙ c.if-not-digit.true),
      tt,
    )

pub returns-then-teen : goal.returns-then-teen
returns-then-teen c =
    let args = c.args in
    let b =
    two-bounds c.byte-a.result c.byte-b.result
    (sym c.teen.ensures ∙ c.if-teen.true) in
    let number : head_of (drop (args.at + 2) args.s.now) - 38 ≡ 10 + (c.byte-b.result - 48) = let same = c.byte-b.ensures in omega arith in (
      reg-two args.s.now args.at
          (sym c.byte-c.ensures ∙ c.if-c-ne82.false)
          (ap (λ (x : ℕ). is_two x (head_of (drop (args.at + 2) args.s.now))) (sym c.byte-a.ensures)
          ∙ ap (is_two c.byte-a.result) (sym c.byte-b.ensures)
          ∙ sym c.teen.ensures
          ∙ c.if-teen.true)
          ∙ ap (λ (x : ℕ). got (pos x) (drop (args.at + 3) args.s.now)) number,
      omega (arith, inside args.s.now (args.at + 2) (λ z. let e = c.byte-b.ensures ∙ z in omega arith)),
    )

pub returns : goal.returns
returns c =
    let args = c.args in (
      reg-one args.s.now args.at
          (sym c.byte-c.ensures ∙ c.if-c-ne82.false)
          (ap (λ (x : ℕ). is_two x (head_of (drop (args.at + 2) args.s.now))) (sym c.byte-a.ensures)
          ∙ ap (is_two c.byte-a.result) (sym c.byte-b.ensures)
          ∙ sym c.teen.ensures
          ∙ c.if-teen.false)
          (sym (c.digit.ensures ∙ ap is_digit c.byte-a.ensures)
          ∙ c.if-not-digit.false)
          ∙ ap (λ (x : ℕ). got (pos (x - 48)) (drop (args.at + 2) args.s.now)) (sym c.byte-a.ensures),
      omega (
        arith,
        class-inside is_digit args.s.now (args.at + 1) refl
            (sym (c.digit.ensures ∙ ap is_digit c.byte-a.ensures)
            ∙ c.if-not-digit.false),
      ),
    )
