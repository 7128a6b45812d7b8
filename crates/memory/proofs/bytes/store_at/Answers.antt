use mathlib.Core.Path.{◌≡◌, sym, ◌∙◌}
use native.Mathlib.Omega.{arith}
use native.Mathlib.Nat.{sub_self}
use borrow.Author.Rules.{rules}
use lib.ListN.{length-set}
use Rattle.memory.specs.Bytes.{bytes}
use Rattle.memory.proofs.Numbers.{store-more}
use Rattle.memory.proofs.bytes.store_at.Goals as goal

pub loop-i-preserved : goal.loop-i-preserved
loop-i-preserved c =
    let a = c.args in
    let l = c.loop-i in
    (simp length-set l.invariant.0, sym (store-more l.m a.at a.n l.i l.v (search rules)) ∙ l.invariant.1)

pub returns : goal.returns
unfolding bytes
returns c =
    let l = c.loop-i in
    let z : l.i ≡ c.args.n = omega arith in
    rw (z, sub_self) at l.invariant.1
