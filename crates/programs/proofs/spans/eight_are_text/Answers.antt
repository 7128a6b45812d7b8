use native.Mathlib.Omega.{arith}
use Rattle.programs.proofs.Lines.{text-to}
use Rattle.programs.proofs.spans.eight_are_text.Goals as goal

pub returns : goal.returns
returns c =
    let args = c.args in
    text-to args.s.now args.n 7 (omega (arith, c.requires))
