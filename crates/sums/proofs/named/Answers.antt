use Rattle.std.proofs.Common.{sym, ap, ◌∙◌}
use Rattle.labels.specs.Bytes.{is_part}
use Rattle.labels.proofs.Steps.{passed}
use Rattle.sums.specs.Reader.{got}
use Rattle.sums.proofs.Differences.{kept}
use Rattle.sums.proofs.Terms.{found_none, found_at, name-none, name-is, name-past}
use Rattle.sums.proofs.named.Goals as goal

pub returns-in_err-index : goal.returns-in_err-index
returns-in_err-index c =
    let scope = c.args.scope in
    rw c.from_residual.ensures (name-none scope.text.now scope.table.now scope.base _ (found_none _ _ (sym c.find.ensures ∙ c.in_err-index.was)), tt)

pub returns-in_err-v : goal.returns-in_err-v
returns-in_err-v c =
    let scope = c.args.scope in
    let found = found_at _ _ _ _ (sym c.find.ensures ∙ c.in_ok-index.was) in
    rw c.from_residual-in_err-v.ensures (name-is scope.text.now scope.table.now scope.base _ _ _ found.0 c.in_err-v.ensures, tt)

pub returns : goal.returns
returns c =
    let scope = c.args.scope in
    let found = found_at _ _ _ _ (sym c.find.ensures ∙ c.in_ok-index.was) in
    let p = passed is_part c.args.s.now c.args.at _ found.1 in
    rw (kept _ _ c.in_ok-v.ensures) (
      name-is scope.text.now scope.table.now scope.base _ _ _ found.0 c.in_ok-v.ensures ∙ ap (got c.in_ok-v.v) (sym p.rest),
      name-past c.args.s.now c.args.at _ c.requires p,
    )
