use Rattle.std.proofs.Common.{ℤ, pos, ◌*ℤ◌, sym, ap, ◌∙◌, subst, FitsSigned}
use Rattle.std.specs.Int.{w64}
use Rattle.std.proofs.lemmas.Int.{to_z-of_z}
use Rattle.sums.specs.Code.{value_read}
use Rattle.sums.proofs.Differences.{fitting_at, four-times, too_far}
use Rattle.sums.proofs.numbers.distance.Goals as goal

pub returns-in_err-checked_signed_diff : goal.returns-in_err-checked_signed_diff
returns-in_err-checked_signed_diff c = too_far c.args.index c.args.base c.in_err-checked_signed_diff.ensures ∙ ap value_read (sym c.from_residual.ensures)

pub returns : goal.returns
returns c =
    let diff = c.in_ok-checked_signed_diff.ensures in
    let same = to_z-of_z w64 _ (subst (FitsSigned w64) (sym diff.1) diff.0) ∙ diff.1 in
    fitting_at c.checked_mul.result _ _ (four-times c.args.index c.args.base ∙ ap (λ (z : ℤ). z *ℤ pos 4) (sym same)) c.checked_mul.ensures
