-- Steps and runs: both modes are one computer.
use Rattle.std.specs.Prelude.{Err, Ok, Result}
use Rattle.instruction.specs.declared.Instruction.{Instruction}
use Rattle.refusal.specs.declared.Refusal.{Refusal}
use Prim.Native.Nat.{ℕ, zero, suc}
use mathlib.Core.Path.{◌≡◌, refl, sym, ap, ◌∙◌}
use mathlib.Core.Bool.{Bool, true, false, cond, not, ◌&&◌}
use lib.ListN.{get_or}
use native.Mathlib.Omega.{arith}
use Rattle.refusal.specs.Stops.{refusal_of}
use Rattle.refusal.specs.declared.Stop.TheVariants as S
use Rattle.memory.specs.Memory.{fetch_of}
use Rattle.state.specs.Held.{value_of}
use Rattle.state.specs.declared.registers.Registers.{Registers}
use Rattle.state.specs.Registers.{holds}
use Rattle.state.specs.Formed.{well_formed, all_whole}
use Rattle.state.proofs.Normal.{whole-limbs}
use Rattle.words.specs.Words.{decode_in}
use Rattle.execute.specs.World.{World, Stepped}
use Rattle.execute.specs.Execute.{admits}
use Rattle.execute.specs.declared.Mode.{Mode}
use Rattle.execute.specs.declared.Mode.TheVariants.{Plain, Deferred}
use Rattle.pending.specs.Pending.{Lists, lists_fit, room_at, no_lists}
use Rattle.pending.specs.declared.Room.TheVariants.{Unlent}
use Rattle.execute.specs.Rules.{Rules, obey}
use Rattle.step.specs.Step.{fetched, Left, left, step_of, goes_on}
use Rattle.run.specs.Run.{Answer, answer, preceded, following, loop, run}
use Rattle.agreement.specs.Reading.{no_marks, read_all, read_world, unchecked, read_step, Sized, read_answer}
use Rattle.agreement.specs.Statements.{RunsAgree, RunsOnValues}
use Rattle.agreement.proofs.Formed.{Formed, both_true, all_from, formed, well-formed}
use Rattle.agreement.proofs.Reading.{no-mark, read_held}
use Rattle.agreement.proofs.Keeping.{inner-step-keeps}
use Rattle.agreement.proofs.Sized.{sized-after}
use Rattle.agreement.proofs.Unlent.{none-listed, none_left}
use Rattle.agreement.proofs.Agree.{instructions-agree}

-- ---- what a run is admitted with
pub admits-alike : (R : Registers) → all_whole R.accumulated ≡ true → admits Deferred R ≡ admits Plain R
unfolding admits
admits-alike R e = rw e (and-true (well_formed R))
  where
    and-true : (t : Bool) → t ≡ (t && true)
    and-true true = refl
    and-true false = refl

formed-read : (R : Registers) → Formed R → Formed (read_all R)
unfolding value_of
formed-read R f =
    record {
      zero-whole = rw (read_held R 0, f.zero-whole);
      zero-bound = f.zero-bound;
      bounded = f.bounded;
      small = λ n. let t = whole-limbs (value_of (holds R n)) in rw (read_held R n) (omega arith);
    }

pub admitted-formed : (k : Mode) (R : Registers) → admits k R ≡ true → well_formed R ≡ true
unfolding admits
admitted-formed Plain R e = (both_true _ _ e).0
admitted-formed Deferred R e = e

admits-read : (k : Mode) (R : Registers) → admits k R ≡ true → admits Plain (read_all R) ≡ true
unfolding admits all_whole
admits-read k R e =
    rw (well-formed (read_all R) (formed-read R (formed R (admitted-formed k R e))))
    (all_from (λ n. not (get_or (no_marks R.accumulated) n false)) 16 (λ n. rw (no-mark R.accumulated n)))

-- ---- one step
obey-agrees : (k : Mode) (R : Rules) (d : Result Instruction Refusal) (w : World) → Sized w.registers → read_step (obey k Unlent R d w) ≡ unchecked (obey Plain Unlent R d (read_world w))
unfolding obey
obey-agrees k R (Ok i) w z = instructions-agree k R.notes i w z
obey-agrees k R (Err r) w z = refl

fetched-agrees : (k : Mode) (R : Rules) (f : Result ℕ Refusal) (w : World) → Sized w.registers → read_step (fetched k Unlent R f w) ≡ unchecked (fetched Plain Unlent R f (read_world w))
unfolding fetched
fetched-agrees k R (Ok x) w z = obey-agrees k R (decode_in R.number x) w z
fetched-agrees k R (Err r) w z = refl

abbrev read_left : Left → Left
read_left s = left s.went (read_world s.world) s.lists

step-agrees : (k : Mode) (R : Rules) (w : World) → Sized w.registers → read_left (step_of k R w no_lists) ≡ step_of Plain R (read_world w) no_lists
unfolding step_of room_at
step-agrees k R w z =
    simp none-listed (ap (λ (s : Stepped). left s.went s.world no_lists) (fetched-agrees k R (fetch_of w.memory w.pc) w z))

-- ---- the loop
cond-reads : (t : Bool) (a b c d : Answer) → read_answer a ≡ c → read_answer b ≡ d → read_answer (cond t a b) ≡ cond t c d
cond-reads true a b c d e f = e
cond-reads false a b c d e f = f

following-reads : (s : Left) (f g : World → Lists → Answer) → read_answer (f s.world s.lists) ≡ g (read_world s.world) s.lists
    → read_answer (following s f) ≡ following (read_left s) g
unfolding following
following-reads s f g e = cond-reads (goes_on s.went) (preceded 1 (f s.world s.lists)) _ _ _ (ap (preceded 1) e) refl

-- in either mode, from any state of sixteen registers: the run read as values is the plain run of the state read as values
pub loop-agrees : (n : ℕ) (k : Mode) (R : Rules) (w : World) → Sized w.registers → read_answer (loop n k R w no_lists) ≡ loop n Plain R (read_world w) no_lists
unfolding loop
loop-agrees zero k R w z = refl
loop-agrees (suc n) k R w z =
    let s = step_of k R w no_lists in
    following-reads s (loop n k R) (loop n Plain R)
    (rw (none_left k R w) (loop-agrees n k R s.world (inner-step-keeps (λ w. Sized w.registers) k R (sized-after R.notes k) w no_lists z)))
    ∙ ap (λ (x : Left). following x (loop n Plain R)) (step-agrees k R w z)

-- ---- the run
module _ (R : Rules) (fuel : ℕ) (w : World) (z : Sized w.registers) where
  -- t: whether the mode takes such a state
  abbrev read_run : Bool → Answer
  read_run t =
      cond (t && lists_fit no_lists)
      (cond w.halted (answer S.Ebreak 0 (read_world w) no_lists) (loop fuel Plain R (read_world w) no_lists))
      (answer (S.Refused (refusal_of 9 0)) 0 (read_world w) no_lists)

  run-reads : (k : Mode) (t : Bool) → admits k w.registers ≡ t → read_answer (run k R fuel w no_lists) ≡ read_run t
  unfolding run
  run-reads k t e =
      rw e
      (cond-reads (t && lists_fit no_lists) _ _ _ _
      (cond-reads w.halted _ (loop fuel k R w no_lists) _ _ refl (loop-agrees fuel k R w z))
      refl)

pub runs-agree : RunsAgree
runs-agree R fuel w z e = run-reads R fuel w z Deferred _ (admits-alike w.registers e) ∙ sym (run-reads R fuel w z Plain _ refl)

pub runs-on-values : RunsOnValues
unfolding run
runs-on-values R fuel w z k e = run-reads R fuel w z k true e ∙ rw (admits-read k w.registers e)
