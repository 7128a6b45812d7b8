use native.Mathlib.Omega.{arith}
use lib.ListN.{length-append}
use Rattle.printing.specs.Print.{print_line}
use Rattle.printing.proofs.lines.line_length.Goals as goal

pub returns : goal.returns
unfolding print_line
returns c =
    let operands = rw c.form_of.ensures at c.operands_length.ensures.0 in
    simp length-append (omega arith)
