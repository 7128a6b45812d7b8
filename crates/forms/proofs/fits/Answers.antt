use Rattle.encoding.proofs.Extends.{fits-test}
use Rattle.std.proofs.Common.{◌≡◌, suc, ◌*◌, ◌%◌, ◌^◌, ◌≤◌, arith, mod-eq_of_lt}
use native.Mathlib.Nat.{pow-le-pow_right}
use lib.Dec.{lit<}
use Rattle.forms.proofs.fits.Goals as goal

pub returns : goal.returns
returns g c =
    let s = g.row.SIGN in
    let small : 2 ^ suc s ≤ 2 ^ 63 = pow-le-pow_right (lit< tt) c.requires in
    let whole : 1 * 2 ^ s ≡ 2 ^ s = omega arith in
    let one : 1 * 2 ^ s % 2 ^ 64 ≡ 2 ^ s = rw whole (mod-eq_of_lt {n = 2 ^ s} {m = 2 ^ 64} (omega (arith, small))) in
    let double : 2 * 2 ^ s ≡ 2 ^ suc s = omega arith in
    let two : 2 * 2 ^ s % 2 ^ 64 ≡ 2 ^ suc s = rw double (mod-eq_of_lt {n = 2 ^ suc s} {m = 2 ^ 64} (omega (arith, small))) in
    rw (one, two) (fits-test s (omega arith) c.args.imm (omega arith))
