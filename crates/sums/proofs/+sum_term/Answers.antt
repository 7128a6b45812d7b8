use Rattle.std.proofs.Common.{◌+◌, ◌≤◌, ◌<◌, length, drop, arith, rules, sym, ap, ◌∙◌, Option, ℤ, ℕ}
use Rattle.std.specs.Int.{w64}
use Rattle.std.proofs.lemmas.Int.{to_z-of_z}
use Rattle.labels.specs.Bytes.{is_letter, is_space}
use Rattle.labels.proofs.Steps.{passed}
use Rattle.sums.specs.Reader.{onto, closed_after}
use mir.Val.{to_z}
use Rattle.sums.specs.Sums.{checked, join}
use Rattle.sums.specs.Code.{read_to, op_of}
use Rattle.sums.proofs.Differences.{kept}
use Rattle.sums.proofs.Terms.{sooner, at_byte, term-name, term-number, term-flat, term-deep, more-stop, turn-bad, turn-over, turn_on, again, sum-bad, sum_first}
use Rattle.sums.proofs.+sum_term.Goals as goal

pub sum-returns-in_err-first : goal.sum-returns-in_err-first
sum-returns-in_err-first t c = rw c.from_residual.ensures (sum-bad _ _ c.args.s.now c.args.at c.in_err-first.ensures.0, tt)

-- the first term is read, and the spaces after it
pub sum-loop-op-init : goal.sum-loop-op-init
sum-loop-op-init t c =
    let s = c.args.s.now in
    let spaces = passed is_space _ _ _ c.skip-n.ensures in
    let past : c.args.at < c.in_ok-first.after = c.in_ok-first.ensures.1.0 in
    let on : c.in_ok-first.after ≤ c.skip-n.result = spaces.on in
    rw (to_z-of_z w64 c.in_ok-first.first (search rules)) (
      omega arith,
      (
        spaces.within c.in_ok-first.ensures.1.1,
        sum_first _ _ s c.args.at c.in_ok-first.first c.in_ok-first.after _ c.in_ok-first.ensures.0 spaces (omega arith),
      ),
    )

pub sum-returns-in_err-w : goal.sum-returns-in_err-w
sum-returns-in_err-w t c =
    let inv = c.loop-op.invariant in
    rw c.from_residual-in_err-w.ensures (
      inv.1.1.1.1
          ∙ turn-bad _ c.args.s.now _ (to_z w64 c.loop-op.v-bits) c.loop-op.n c.in-Some.op c.skip-from.result (sym c.sign.ensures ∙ c.in-Some.is)
          (passed is_space _ _ _ c.skip-from.ensures) c.in_err-w.ensures.0,
      tt,
    )

pub sum-returns-in_err-v : goal.sum-returns-in_err-v
sum-returns-in_err-v t c =
    let inv = c.loop-op.invariant in
    let v = to_z w64 c.loop-op.v-bits in
    let same = to_z-of_z w64 c.in_ok-w.w (search rules) in
    rw c.from_residual-in_err-v.ensures (
      inv.1.1.1.1
          ∙ turn-over _ c.args.s.now _ v c.loop-op.n c.in-Some.op c.skip-from.result c.in_ok-w.w c.in_ok-w.m (sym c.sign.ensures ∙ c.in-Some.is)
          (passed is_space _ _ _ c.skip-from.ensures) c.in_ok-w.ensures.0
          (ap (λ (w : ℤ). checked (join (op_of c.in-Some.op) v w)) (sym same) ∙ c.in_err-v.ensures),
      tt,
    )

pub sum-loop-op-preserved : goal.sum-loop-op-preserved
sum-loop-op-preserved t c =
    let loop = c.loop-op in
    let s = c.args.s.now in
    let inv = loop.invariant in
    let v = to_z w64 loop.v-bits in
    let before = passed is_space _ _ _ c.skip-from.ensures in
    let behind = passed is_space _ _ _ c.skip-n-in-Some.ensures in
    let same = to_z-of_z w64 c.in_ok-w.w (search rules) in
    let from : loop.n + 1 ≤ c.skip-from.result = before.on in
    let past : c.skip-from.result < c.in_ok-w.m = c.in_ok-w.ensures.1.0 in
    let on : c.in_ok-w.m ≤ c.skip-n-in-Some.result = behind.on in
    let within : c.skip-n-in-Some.result ≤ length s = behind.within c.in_ok-w.ensures.1.1 in
    rw (kept _ _ c.in_ok-v.ensures) (
      omega arith,
      (
        within,
        again _ s _ v loop.n c.in_ok-v.v c.skip-n-in-Some.result _ inv.1.1.1.0 (omega arith) within inv.1.1.1.1
            (λ g. turn_on _ s g v loop.n c.in-Some.op c.skip-from.result c.in_ok-w.w c.in_ok-w.m c.in_ok-v.v c.skip-n-in-Some.result (sym c.sign.ensures ∙ c.in-Some.is) before
            c.in_ok-w.ensures.0 (ap (λ (w : ℤ). checked (join (op_of c.in-Some.op) v w)) (sym same) ∙ c.in_ok-v.ensures) behind),
      ),
    )

pub sum-returns : goal.sum-returns
sum-returns t c =
    let inv = c.loop-op.invariant in
    (inv.1.1.1.1 ∙ more-stop _ _ _ c.args.s.now c.loop-op.n (sym c.sign.ensures ∙ c.in_default.is), (inv.0, inv.1.0))

pub term-returns-then-depth-eq0 : goal.term-returns-then-depth-eq0
term-returns-then-depth-eq0 t c = (term-flat c.args.s.now c.args.at _ _ (sym c.byte-c.ensures ∙ c.if-c-eq40.true) c.if-depth-eq0.true, tt)

pub term-overflow_add-at : goal.term-overflow_add-at
term-overflow_add-at t c = omega (arith, at_byte c.args.s.now c.args.at 39 (sym c.byte-c.ensures ∙ c.if-c-eq40.true))

pub term-returns-in_err-v : goal.term-returns-in_err-v
term-returns-in_err-v t c =
    rw c.from_residual.ensures (
      term-deep c.args.s.now c.args.at _ _ c.skip-from.result c.sum.result (sym c.byte-c.ensures ∙ c.if-c-eq40.true) c.if-depth-eq0.false
          (passed is_space _ _ _ c.skip-from.ensures) c.sum.ensures.0
          ∙ ap (λ (r : Option (ℤ × ℕ)). onto closed_after (read_to c.args.s.now r)) c.in_err-v.was,
      tt,
    )

pub term-returns-then-c-eq40 : goal.term-returns-then-c-eq40
term-returns-then-c-eq40 t c =
    let spaces = passed is_space _ _ _ c.skip-from.ensures in
    let past : c.skip-from.result < c.in_ok-v.n = c.in_ok-v.ensures.1.0 in
    let on : c.args.at + 1 ≤ c.skip-from.result = spaces.on in (
      term-deep c.args.s.now c.args.at _ _ c.skip-from.result c.sum.result (sym c.byte-c.ensures ∙ c.if-c-eq40.true) c.if-depth-eq0.false spaces c.sum.ensures.0
          ∙ ap (λ (r : Option (ℤ × ℕ)). onto closed_after (read_to c.args.s.now r)) c.in_ok-v.was
          ∙ ap (λ (v : ℤ). closed_after v (drop c.in_ok-v.n c.args.s.now)) (sym (to_z-of_z w64 c.in_ok-v.v (search rules))) ∙ c.closed.ensures.0,
      sooner c.args.s.now c.args.at c.in_ok-v.n c.closed.result (omega arith) c.closed.ensures.1,
    )

pub term-returns-then-letter : goal.term-returns-then-letter
term-returns-then-letter t c = (
  term-name c.args.s.now c.args.at _ _ (sym (c.letter.ensures ∙ ap is_letter c.byte-c.ensures) ∙ c.if-letter.true)
      (λ z. c.if-c-eq40.false (c.byte-c.ensures ∙ z))
      ∙ c.named.ensures.0,
  c.named.ensures.1,
)

pub term-returns : goal.term-returns
term-returns t c = (
  term-number c.args.s.now c.args.at _ _ (sym (c.letter.ensures ∙ ap is_letter c.byte-c.ensures) ∙ c.if-letter.false)
      (λ z. c.if-c-eq40.false (c.byte-c.ensures ∙ z))
      ∙ c.number.ensures.0,
  c.number.ensures.1,
)
