use Prim.Native.Nat.{◌<◌, ◌+◌, ◌-◌, ◌*◌, ◌^◌}
use mathlib.Core.Path.{refl}
use native.Mathlib.Omega.{arith}
use native.Mathlib.Nat.{sub_self}
use lib.Dec.{lit<}
use borrow.Author.Rules.{rules}
use lib.ListN.{get_or}
use Rattle.memory.specs.Bytes.{number_of_bytes}
use Rattle.memory.proofs.Numbers.{read_more, more_lt, fits_lt}
use Rattle.memory.proofs.bytes.word_at.Goals as goal

pub loop-i-init : goal.loop-i-init
unfolding number_of_bytes
loop-i-init c = rw sub_self (refl, lit< tt)

pub overflow_mul-v : goal.overflow_mul-v
overflow_mul-v c =
    let a = c.args in
    let l = c.loop-i in
    omega (arith, fits_lt a.n l.i l.v 0 (search rules) (search rules) (search rules) l.invariant.1 (lit< tt))

pub overflow_add-v-in-loop-i : goal.overflow_add-v-in-loop-i
overflow_add-v-in-loop-i c =
    let a = c.args in
    let l = c.loop-i in
    omega (arith, fits_lt a.n l.i l.v _ (search rules) (search rules) (search rules) l.invariant.1 (c.type_inv.m (a.at + (l.i - 1))).fits)

pub loop-i-preserved : goal.loop-i-preserved
loop-i-preserved c =
    let a = c.args in
    let l = c.loop-i in
    let more : l.v * 256 + get_or a.m.now (a.at + (l.i - 1)) 0 < 256 ^ (a.n - (l.i - 1)) =
    more_lt a.n l.i l.v _ (search rules) (search rules) l.invariant.1 (c.type_inv.m (a.at + (l.i - 1))).fits
    in
    (rw l.invariant.0 (read_more a.m.now a.at a.n l.i (search rules) (search rules) (search rules)), more)
