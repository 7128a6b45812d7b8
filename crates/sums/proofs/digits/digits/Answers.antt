use Rattle.std.proofs.Common.{◌+◌, ◌-◌, ◌*◌, ℕ, ◌≡◌, ◌∙◌, sym, ap, refl, drop, subst, false}
use Rattle.labels.specs.Bytes.{is_digit, head_of}
use Rattle.labels.proofs.Spans.{head-drop}
use Rattle.labels.proofs.Steps.{head-end}
use Rattle.sums.proofs.Decimals.{Counting, counts-on, digits-end, digits-large, digits-over, digits-none}
use Rattle.sums.proofs.Differences.{kept}
use Rattle.sums.proofs.digits.digits.Goals.{else-loop-n-test, then-loop-n-test+then-not-digit-2}
use Rattle.sums.proofs.digits.digits.Goals as goal

pub returns-then-not-digit : goal.returns-then-not-digit
returns-then-not-digit c = (digits-none c.args.negative _ (sym (c.digit.ensures ∙ ap is_digit c.byte.ensures) ∙ c.if-not-digit.true), tt)

pub returns-then-v-gt922337203685477580 : goal.returns-then-v-gt922337203685477580
returns-then-v-gt922337203685477580 c =
    let s = c.args.s.now in
    let loop = c.loop-n in (
      digits-over s c.args.at loop.v loop.n (rw loop.invariant.0 loop.invariant.1) c.args.negative
          (sym (c.digit.ensures ∙ ap is_digit c.byte.ensures) ∙ c.if-not-digit.false)
          (ap is_digit (head-drop s loop.n) ∙ sym c.digit-in-loop-n.ensures ∙ c.if-not-digit-2.false)
          c.if-v-gt922337203685477580.true,
      tt,
    )

pub loop-n-preserved : goal.loop-n-preserved
loop-n-preserved c =
    let s = c.args.s.now in
    let loop = c.loop-n in
    let byte = head-drop s loop.n in (
      refl,
      subst (λ (w : ℕ). Counting s c.args.at (loop.v * 10 + w) (loop.n + 1)) (ap (λ (b : ℕ). b - 48) byte ∙ sym c.from.ensures)
          (counts-on s c.args.at loop.v loop.n (rw loop.invariant.0 loop.invariant.1) (ap is_digit byte ∙ sym c.digit-in-loop-n.ensures ∙ c.if-not-digit-2.false)),
    )

pub returns-in_err-of_digits : goal.returns-in_err-of_digits
returns-in_err-of_digits c =
    let s = c.args.s.now in
    let loop = c.loop-n in
    let first = sym (c.digit.ensures ∙ ap is_digit c.byte.ensures) ∙ c.if-not-digit.false in
    let stop : is_digit (head_of (drop loop.end s)) ≡ false =
    ap (λ (n : ℕ). is_digit (head_of (drop n s))) (sym loop.invariant.0)
    ∙ elim c.loop-n-test.branch [
      | else-loop-n-test w ↦ ap is_digit (sym (head-end s loop.n w.loop-n-test.false))
      | then-loop-n-test+then-not-digit-2 w ↦ ap is_digit (head-drop s loop.n) ∙ sym w.digit-in-loop-n.ensures ∙ w.if-not-digit-2.true
    ] in
    rw c.from_residual.ensures (digits-large s c.args.at loop.v loop.end loop.invariant.1 first stop c.args.negative c.of_digits.result c.of_digits.ensures c.in_err-of_digits.was, tt)

pub returns : goal.returns
returns c =
    let s = c.args.s.now in
    let loop = c.loop-n in
    let first = sym (c.digit.ensures ∙ ap is_digit c.byte.ensures) ∙ c.if-not-digit.false in
    let stop : is_digit (head_of (drop loop.end s)) ≡ false =
    ap (λ (n : ℕ). is_digit (head_of (drop n s))) (sym loop.invariant.0)
    ∙ elim c.loop-n-test.branch [
      | else-loop-n-test w ↦ ap is_digit (sym (head-end s loop.n w.loop-n-test.false))
      | then-loop-n-test+then-not-digit-2 w ↦ ap is_digit (head-drop s loop.n) ∙ sym w.digit-in-loop-n.ensures ∙ w.if-not-digit-2.true
    ] in
    rw (kept _ _ c.in_ok-of_digits.ensures)
    (digits-end s c.args.at loop.v loop.end loop.invariant.1 first stop c.args.negative c.of_digits.result c.of_digits.ensures c.in_ok-of_digits.field-0 c.in_ok-of_digits.was)
