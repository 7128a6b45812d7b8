-- A step's laws: the word that is fetched, and the entry from the test that the code makes.
use Rattle.std.specs.Prelude.{Err, Ok, Result}
use Prim.Native.Nat.{ℕ}
use mathlib.Core.Path.{◌≡◌, sym, ap, ◌∙◌}
use mathlib.Core.Bool.{true, false, ◌&&◌}
use Rattle.refusal.specs.Stops.{refusal_of}
use Rattle.refusal.specs.declared.Refusal.{Refusal}
use Rattle.memory.specs.Memory.{fetch_of}
use Rattle.words.specs.Words.{decode_in}
use Rattle.execute.specs.World.{World, Stepped, refused}
use Rattle.execute.specs.Execute.{admits}
use Rattle.execute.specs.Rules.{Rules, obey}
use Rattle.execute.specs.declared.Mode.{Mode}
use Rattle.execute.specs.declared.Went.TheVariants as W
use Rattle.pending.specs.Pending.{Lists, lists_fit}
use Rattle.pending.specs.declared.Room.{Room}
use Rattle.step.specs.Step.{fetched, left, step_in, step_of, step}

module _ (k : Mode) (room : Room) (R : Rules) (w : World) (f : Result ℕ Refusal) (e : f ≡ fetch_of w.memory w.pc) where
  pub word-obeyed : (x : ℕ) (s : Stepped) → f ≡ Ok x → s ≡ obey k room R (decode_in R.number x) w → s ≡ step_in k room R w
  unfolding fetched
  word-obeyed x s h q = q ∙ ap (λ (f : Result ℕ Refusal). fetched k room R f w) (sym h ∙ e)

  pub none-fetched : (r : Refusal) → f ≡ Err r → refused r w ≡ step_in k room R w
  unfolding fetched
  none-fetched r h = ap (λ (f : Result ℕ Refusal). fetched k room R f w) (sym h ∙ e)

module _ (k : Mode) (R : Rules) (w : World) (l : Lists) where
  pub step-malformed : (admits k w.registers && lists_fit l) ≡ false → left (W.Refused (refusal_of 9 0)) w l ≡ step k R w l
  unfolding step
  step-malformed e = rw e

  pub step-taken : (admits k w.registers && lists_fit l) ≡ true → step_of k R w l ≡ step k R w l
  unfolding step
  step-taken e = rw e
