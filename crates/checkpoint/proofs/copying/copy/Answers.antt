use Rattle.std.proofs.Common.{suc, ◌≡◌, ◌+◌, ◌∙◌, arith, sym, ap}
use Rattle.std.proofs.Math.Seq.{drop-cons}
use Rattle.std.proofs.lemmas.List.{drop_all}
use Rattle.std.proofs.lemmas.List.Edits.{sets}
use Rattle.layout.proofs.Rows.{sets-all}
use Rattle.checkpoint.proofs.copying.copy.Goals as goal

pub loop-i-init : goal.loop-i-init
loop-i-init c = sets-all _ _ c.requires

pub loop-i-preserved : goal.loop-i-preserved
loop-i-preserved c =
    let l = c.loop-i in
    let next : l.i + 1 ≡ suc l.i = omega arith in
    rw next (ap (sets l.into l.i) (sym (drop-cons c.args.from.now l.i 0 c.loop-i-test.true)) ∙ l.invariant)

pub returns : goal.returns
returns c =
    let l = c.loop-i in
    ap (sets l.into l.i) (sym (drop_all l.i c.args.from.now c.loop-i-test.false)) ∙ l.invariant
