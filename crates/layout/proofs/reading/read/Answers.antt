use Rattle.layout.proofs.Contents.{waits-by}
use Rattle.layout.proofs.Tests.{all-next}
use lib.ListN.{replicate}
use native.Mathlib.Omega.{arith}
use mathlib.Core.Bool.{false, and_comm}
use mathlib.Core.Path.{◌≡◌, refl, sym, ◌∙◌}
use Rattle.state.specs.Held.{kept, waits}
use Rattle.state.specs.Formed.{all_below}
use Rattle.state.proofs.Below.{all_none}
use Rattle.layout.proofs.Rows.{table_more, filled}
use Rattle.layout.specs.Layout.{held_in, bound_in, state_in, record_laid, well_laid}
use Rattle.layout.specs.Reading.{header_laid}
use Rattle.layout.proofs.reading.read.Goals as goal

pub loop-i-init : goal.loop-i-init
loop-i-init c = (refl, refl, refl, sym (rw (all_none _)))

pub loop-i-preserved : goal.loop-i-preserved
unfolding record_laid
loop-i-preserved c =
    let b = c.args.bytes.now in
    let l = c.loop-i in
    let parts = c.parts_at-p.ensures in (
      sym (table_more l.values 16 l.i (λ k. kept (held_in b k)) (omega arith) (c.kept_by.ensures ∙ rw parts)) ∙ l.invariant.0,
      sym (table_more l.accumulated 16 l.i (λ k. waits (held_in b k)) (omega arith) (rw parts (waits-by _ _ _))) ∙ l.invariant.1,
      sym (table_more l.bounds 16 l.i (bound_in b) (omega arith) (rw parts)) ∙ l.invariant.2,
      c.both-laid.ensures ∙ rw (c.parts_laid.ensures, parts, l.invariant.3) (all-next (record_laid b) l.i _),
    )

pub returns : goal.returns
unfolding state_in well_laid
returns c =
    let b = c.args.bytes.now in
    let l = c.loop-i in
    let end : l.i ≡ 16 = omega arith in
    let laid : l.laid ≡ well_laid b = (rw end at l.invariant.3) ∙ rw c.header_laid-laid.ensures (and_comm (all_below (record_laid b) 16) (header_laid b)) in
    rw (
      c.together-state.ensures,
      c.number_at-pc.ensures,
      c.number_at-halted.ensures,
      filled 16 l.values (replicate 16 0) l.i (λ k. kept (held_in b k)) (omega arith) refl l.invariant.0,
      filled 16 l.accumulated (replicate 16 false) l.i (λ k. waits (held_in b k)) (omega arith) refl l.invariant.1,
      filled 16 l.bounds (replicate 16 0) l.i (bound_in b) (omega arith) refl l.invariant.2,
      laid,
    )
