-- What carrying out an outcome leaves.
use Rattle.std.specs.Prelude.{Err, Ok, Result, ⊤}
use Prim.Native.Nat.{ℕ}
use native.Mathlib.Omega.{arith}
use mathlib.Core.Path.{◌≡◌, refl, sym}
use mathlib.Core.Bool.{true, false}
use mathlib.Core.List.{List, [], ◌∷◌}
use lib.ListN.{length}
use borrow.Author.Tests.{le-ltb}
use Rattle.refusal.specs.Stops.{refusal_of}
use Rattle.refusal.specs.declared.Refusal.{Refusal}
use Rattle.memory.specs.Memory.{store_of, memory_after, on_stored}
use Rattle.memory.specs.declared.Size.{Size}
use Rattle.state.specs.Held.{Whole}
use Rattle.state.specs.declared.registers.Registers.{Registers}
use Rattle.state.specs.Registers.{put, place}
use Rattle.effect.specs.Outcomes.{Refuses}
use Rattle.effect.specs.Outcomes as G
use Rattle.effect.specs.Effects.{writing, goes_to, stores_at, on_storable}
use Rattle.pending.specs.Pending.{check, lacks}
use Rattle.pending.specs.declared.Room.{Room}
use Rattle.pending.specs.declared.Room.TheVariants.{Unlent, Left}
use Rattle.execute.specs.World.{World, world, stepped, refused, done}
use Rattle.execute.specs.declared.Went.TheVariants as W

-- no check always fits
fits-none : (room : Room) → lacks room 0 ≡ false
unfolding lacks
fits-none Unlent = refl
fits-none (Left k) = le-ltb k 0 (omega arith)

module _ (room : Room) (w : World) (R : Registers) (next : ℕ) where
  pub went-writes : (rd v b : ℕ) (S : Registers) → S ≡ put R rd (Whole v) b
      → stepped W.On (world next w.halted S w.memory) [] ≡ done room (writing false rd v b next) w R
  unfolding done
  went-writes rd v b S e = rw (fits-none room, e)

  pub went-checks : (rd v b : ℕ) (S : Registers) → lacks room 1 ≡ false → S ≡ put R rd (Whole v) b
      → stepped W.On (world next w.halted S w.memory) (check v b ∷ []) ≡ done room (writing true rd v b next) w R
  unfolding done
  went-checks rd v b S e f = rw (e, f)

  pub went-full : (rd v b : ℕ) → lacks room 1 ≡ true → refused (refusal_of 8 w.pc) w ≡ done room (writing true rd v b next) w R
  unfolding done
  went-full rd v b e = rw e

  pub went_to : stepped W.On (world next w.halted R w.memory) [] ≡ done room (goes_to next G.On) w R
  unfolding done place
  went_to = rw (fits-none room)

  pub went_call : stepped W.Ecall (world next w.halted R w.memory) [] ≡ done room (goes_to next G.Ecall) w R
  unfolding done place
  went_call = rw (fits-none room)

  pub went-halt : stepped W.Ebreak (world next true R w.memory) [] ≡ done room (goes_to next G.Ebreak) w R
  unfolding done place
  went-halt = rw (fits-none room)

  kept-stores : (size : Size) (address v : ℕ) (t : Result ⊤ Refusal) → t ≡ (Ok tt)
      → stepped W.On (world next w.halted R (memory_after size w.memory address v)) []
      ≡ done room (on_storable (stores_at size address v next) t) w R
  unfolding done on_storable place
  kept-stores size address v t f = rw (f, fits-none room)

  pub went-stores : (size : Size) (address v : ℕ) (n : List ℕ)
      → n ≡ memory_after size w.memory address v → (Ok tt) ≡ store_of size (length w.memory) address
      → stepped W.On (world next w.halted R n) []
      ≡ done room (on_storable (stores_at size address v next) (store_of size (length w.memory) address)) w R
  went-stores size address v n e f = rw e (kept-stores size address v (store_of size (length w.memory) address) (sym f))

  pub went-unstored : (size : Size) (address v : ℕ) (n : List ℕ) (r : Refusal)
      → n ≡ memory_after size w.memory address v → Err r ≡ store_of size (length w.memory) address
      → stepped (W.Refused r) (world w.pc w.halted w.registers n) []
      ≡ done room (on_storable (stores_at size address v next) (store_of size (length w.memory) address)) w R
  unfolding done on_storable on_stored
  went-unstored size address v n r e f = rw (e, sym f)

pub went-refused : (room : Room) (w : World) (R : Registers) (r : Refusal) → refused r w ≡ done room (Refuses r) w R
unfolding done
went-refused room w R r = refl
