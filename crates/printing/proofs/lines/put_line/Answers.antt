use native.Mathlib.Omega.{arith}
use lib.ListN.{length-append}
use Rattle.printing.specs.Print.{print_line}
use Rattle.printing.proofs.Pieces.{both}
use Rattle.printing.proofs.lines.put_line.Goals as goal

pub put_name-named-requires : goal.put_name-named-requires
unfolding print_line
put_name-named-requires c = let room = simp length-append at c.requires.p_in_bounds in omega arith

pub put_operands-end-requires-clause-p_in_bounds : goal.put_operands-end-requires-clause-p_in_bounds
unfolding print_line
put_operands-end-requires-clause-p_in_bounds c =
    let room = simp length-append at c.requires.p_in_bounds in rw c.form_of.ensures (omega arith)

pub put_byte-requires : goal.put_byte-requires
unfolding print_line
put_byte-requires c =
    let operands = rw c.form_of.ensures at c.put_operands-end.ensures.stop in
    let room = simp length-append at c.requires.p_in_bounds in
    omega arith

pub returns : goal.returns
unfolding print_line
returns c =
    let operands = rw c.form_of.ensures at c.put_operands-end.ensures in
    both (both c.put_name-named.ensures operands) c.put_byte.ensures
