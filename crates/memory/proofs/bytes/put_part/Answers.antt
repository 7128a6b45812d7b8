use Rattle.memory.specs.Bytes.{bytes}
use Rattle.memory.proofs.Numbers.{store-there}
use native.Mathlib.Omega.{arith}
use lib.ListN.{length}
use Prim.Native.Nat.{◌-◌, min}
use mathlib.Core.Path.{◌≡◌, sym, ◌∙◌}
use Rattle.memory.proofs.bytes.put_part.Goals as goal

pub returns-then-here-gt0 : goal.returns-then-here-gt0
returns-then-here-gt0 c = c.store_at.ensures ∙ rw c.there-here.ensures (sym (store-there _ _ _ _))

pub returns-else-here-gt0 : goal.returns-else-here-gt0
unfolding bytes
returns-else-here-gt0 c = let a = c.args in
    let none : min a.n (length a.m.now - a.at) ≡ 0 = omega arith in
    sym (store-there a.n a.m.now a.at a.value ∙ rw none)
