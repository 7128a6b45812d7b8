use mathlib.Core.Path.{◌∙◌}
use Rattle.layout.proofs.Numbers.{head_apart}
use Rattle.layout.proofs.reading.parts_at.Goals as goal

pub returns : goal.returns
returns c =
    let a = c.args in
    let apart = head_apart a.bytes.now a.at (λ k. (c.shared_slice_known-1.given k).fits) in
    c.record_parts.ensures ∙ rw (c.numbers_at.ensures, apart.0, apart.1, apart.2)
