-- A step or run from what a run takes leaves what a run takes: 9 is tested at its start alone.
use Prim.Native.Nat.{ℕ, zero, suc, ◌+◌, ◌<◌}
use mathlib.Core.Path.{◌≡◌, refl}
use mathlib.Core.Bool.{Bool, true, false, not}
use mathlib.Core.List.{List, [], ◌∷◌}
use lib.ListN.{length, get_or, set, length-set}
use lib.Dec.{ltb}
use native.Mathlib.Omega.{arith}
use borrow.Author.Tests.{ltb-true, eq-eqb, le-leb}
use Rattle.state.specs.Held.{Whole, kept, waits}
use Rattle.state.specs.declared.registers.Registers.{Registers}
use Rattle.state.specs.Registers.{place, put}
use Rattle.state.specs.Formed.{all_below, all_whole}
use Rattle.effect.specs.Notes.{Notes}
use Rattle.instruction.specs.declared.Instruction.{Instruction}
use Rattle.execute.specs.World.{World}
use Rattle.execute.specs.Execute.{execute, admits}
use Rattle.execute.specs.Rules.{Rules}
use Rattle.execute.specs.declared.Mode.{Mode}
use Rattle.execute.specs.declared.Mode.TheVariants.{Plain, Deferred}
use Rattle.pending.specs.Pending.{Lists, lists, lists_fit, room_of, appended, listing}
use Rattle.pending.specs.declared.Check.{Check}
use Rattle.pending.specs.declared.Room.{Room}
use Rattle.pending.proofs.Lists.{fits-mean}
use Rattle.step.specs.Step.{step_in, step_of}
use Rattle.run.specs.Run.{run}
use Rattle.agreement.specs.Keeping.{Capped}
use Rattle.agreement.specs.Fuel.{takes}
use Rattle.agreement.proofs.Cases.{cond-case}
use Rattle.agreement.proofs.Formed.{both_true}
use Rattle.agreement.proofs.Keeping.{plain-keeps, inner-step-keeps, run-keeps}
use Rattle.agreement.proofs.Sound.{formed-after}

-- ---- the registers
all_alike : (p q : ℕ → Bool) (n : ℕ) → ((i : ℕ) → p i ≡ true → q i ≡ true) → all_below p n ≡ true → all_below q n ≡ true
unfolding all_below
all_alike p q zero f e = refl
all_alike p q (suc n) f e = let t = both_true (p n) (all_below p n) e in rw (f n t.0, all_alike p q n f t.1)

unmarked-set : (fs : List Bool) (k j : ℕ) → not (get_or fs j false) ≡ true → not (get_or (set fs k false) j false) ≡ true
unmarked-set [] k j e = e
unmarked-set (f ∷ fs) zero zero e = refl
unmarked-set (f ∷ fs) zero (suc j) e = e
unmarked-set (f ∷ fs) (suc k) zero e = e
unmarked-set (f ∷ fs) (suc k) (suc j) e = unmarked-set fs k j e

whole-place : (k v b : ℕ) (R : Registers) → all_whole R.accumulated ≡ true → all_whole (place k v false b R).accumulated ≡ true
unfolding place all_whole
whole-place zero v b R e = e
whole-place (suc k) v b R e = all_alike _ _ 16 (λ j. unmarked-set R.accumulated (suc k) j) e

whole-put : (R : Registers) (rd v b : ℕ) → all_whole R.accumulated ≡ true → all_whole (put R rd (Whole v) b).accumulated ≡ true
unfolding kept waits
whole-put R rd v b e = whole-place _ v b R e

whole-after : (N : Notes) (room : Room) (i : Instruction) (w : World)
    → all_whole w.registers.accumulated ≡ true → all_whole (execute Plain room N i w).world.registers.accumulated ≡ true
whole-after N = plain-keeps (λ (S : Registers). all_whole S.accumulated ≡ true) N (λ i v m e R p. whole-put R e.rd e.value e.bound)

admits-after : (N : Notes) → Capped N → (k : Mode) (room : Room) (i : Instruction) (w : World)
    → admits k w.registers ≡ true → admits k (execute k room N i w).world.registers ≡ true
unfolding admits
admits-after N c Plain room i w e =
    let t = both_true _ _ e in
    rw (formed-after N c Plain room i w t.0) (whole-after N room i w t.1)
admits-after N c Deferred room i w e = formed-after N c Deferred room i w e

abbrev Admitted : Mode → World → Type 0
Admitted k w = admits k w.registers ≡ true

pub admits-after-run : (R : Rules) → Capped R.notes → (k : Mode) (fuel : ℕ) (w : World) (l : Lists) → Admitted k w → Admitted k (run k R fuel w l).world
admits-after-run R c k = run-keeps (Admitted k) k R (admits-after R.notes c k)

-- ---- the lists
-- one more entry, where there is a place for it
one_more : (v b pc : ℕ) (l : Lists) → l.count < length l.values → lists_fit l ≡ true
    → lists_fit (lists (l.count + 1) (set l.values l.count v) (set l.bounds l.count b) (set l.pcs l.count pc)) ≡ true
one_more v b pc l h e =
    let t = fits-mean l e in
    simp length-set (rw (eq-eqb _ _ t.0, eq-eqb _ _ t.1) (le-leb (l.count + 1) (length l.values) (omega arith)))

appended-fits : (v b pc : ℕ) (l : Lists) → lists_fit l ≡ true → lists_fit (appended v b pc l) ≡ true
unfolding appended
appended-fits v b pc l e =
    cond-case (λ (m : Lists). lists_fit m ≡ true) (ltb l.count (length l.values)) _ l
    (λ room. one_more v b pc l (ltb-true _ _ room) e)
    (λ _. e)

listing-fits : (cs : List Check) (pc : ℕ) (l : Lists) → lists_fit l ≡ true → lists_fit (listing cs pc l) ≡ true
unfolding listing
listing-fits [] pc l e = e
listing-fits (c ∷ cs) pc l e = listing-fits cs pc _ (appended-fits c.value c.bound pc l e)

pub takes-kept : (k : Mode) (R : Rules) → Capped R.notes → (w : World) (l : Lists)
    → takes k w l ≡ true → takes k (step_of k R w l).world (step_of k R w l).lists ≡ true
unfolding step_of
takes-kept k R c w l e =
    let t = both_true _ _ e in
    rw (inner-step-keeps (Admitted k) k R (admits-after R.notes c k) w l t.0) (listing-fits (step_in k (room_of l) R w).checks w.pc l t.1)
