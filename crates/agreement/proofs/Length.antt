-- Memory keeps its length.
use Rattle.std.specs.Prelude.{Err, Ok, Result, ⊤}
use Rattle.refusal.specs.declared.Refusal.{Refusal}
use Prim.Native.Nat.{ℕ}
use mathlib.Core.Path.{◌≡◌, refl, ◌∙◌}
use mathlib.Core.List.{List}
use lib.ListN.{length}
use lib.Seq.{length-sets}
use Rattle.memory.specs.Bytes.{bytes}
use Rattle.memory.specs.Memory.{size_of, on_stored, store_of}
use Rattle.state.specs.declared.registers.Registers.{Registers}
use Rattle.effect.specs.Notes.{Notes}
use Rattle.effect.specs.Outcomes.{Stores, Nothing, Bytes, Outcome, Does, Refuses}
use Rattle.instruction.specs.declared.Instruction.{Instruction}
use Rattle.execute.specs.World.{World, Stepped, refused, keeping, checks_for, does, done}
use Rattle.execute.specs.Modes.{limbs_in}
use Rattle.execute.specs.Execute.{onward, finish, execute}
use Rattle.execute.specs.declared.Mode.{Mode}
use Rattle.pending.specs.Pending.{lacks}
use Rattle.pending.specs.declared.Room.{Room}
use Rattle.agreement.specs.Statements.{RunsKeepLength}
use Rattle.agreement.proofs.Cases.{cond-case}
use Rattle.agreement.proofs.Keeping.{run-keeps}

length-stored : (s : Result ⊤ Refusal) (after m : List ℕ) → length after ≡ length m → length (on_stored after m s) ≡ length m
unfolding on_stored
length-stored (Ok tt) after m e = e
length-stored (Err r) after m e = refl

length-kept : (s : Stores) (m : List ℕ) → length (keeping s m) ≡ length m
length-kept Nothing m = refl
length-kept (Bytes size address v) m = length-stored (store_of size (length m) address) _ m (length-sets m address (bytes (size_of size) v))

module _ (n : ℕ) where
  abbrev Long : World → Type 0
  Long w = length w.memory ≡ n

  length-done : (room : Room) (o : Outcome) (w : World) (R : Registers) → Long w → Long (done room o w R).world
  unfolding done
  length-done room (Refuses r) w R h = h
  length-done room (Does e) w R h =
      cond-case (λ (s : Stepped). Long s.world) (lacks room (length (checks_for e))) (refused _ w) (does e w.halted R w.memory)
      (λ _. h)
      (λ _. length-kept e.stores w.memory ∙ h)

  length-execute : (N : Notes) (k : Mode) (room : Room) (i : Instruction) (w : World) → Long w → Long (execute k room N i w).world
  unfolding execute finish
  length-execute N k room i w h =
      let l = limbs_in k N i w.registers in
      cond-case (λ (s : Stepped). Long s.world) l.waits (onward w l.registers) _ (λ _. h) (λ _. length-done room _ w _ h)

pub runs-keep-length : RunsKeepLength
runs-keep-length R k fuel w l = run-keeps (Long (length w.memory)) k R (length-execute (length w.memory) R.notes k) fuel w l refl
