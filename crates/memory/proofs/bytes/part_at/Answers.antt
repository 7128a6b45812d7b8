use lib.ListN.{length}
use mathlib.Core.Path.{◌≡◌, sym, ◌∙◌}
use Prim.Native.Nat.{◌-◌, min}
use Rattle.memory.specs.Bytes.{number_of_bytes}
use Rattle.memory.proofs.Numbers.{read-there}
use native.Mathlib.Omega.{arith}
use Rattle.memory.proofs.bytes.part_at.Goals as goal

pub returns-then-here-eq0 : goal.returns-then-here-eq0
unfolding number_of_bytes
returns-then-here-eq0 c = let a = c.args in
    let none : min (min a.n 8) (length a.m.now - a.at) ≡ 0 = omega arith in
    sym (read-there (min a.n 8) a.m.now a.at ∙ rw none)
