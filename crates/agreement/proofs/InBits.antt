-- What a step or a run leaves is in numbers of 64 bits, bounds of 8 and bytes, where it was so before.
use Rattle.std.specs.Prelude.{Err, Ok, Result, ⊤}
use Prim.Native.Nat.{ℕ, zero, suc, ◌+◌, ◌*◌, ◌/◌, ◌%◌, ◌^◌, ◌<◌}
use mathlib.Core.Path.{◌≡◌, refl}
use mathlib.Core.Bool.{Bool, true, false}
use mathlib.Core.List.{List}
use native.Mathlib.Omega.{arith}
use lib.Dec.{eqb}
use lib.ListN.{length, get_or, set, length-set}
use Rattle.refusal.specs.declared.Refusal.{Refusal}
use Rattle.memory.specs.Bytes.{bytes, number_at, put_at}
use Rattle.memory.specs.Memory.{size_of, access_of, on_access, store_of, on_stored}
use Rattle.memory.specs.declared.Access.{Access}
use Rattle.memory.specs.declared.Access.TheVariants.{Served, Beyond, Misaligned}
use Rattle.memory.proofs.Numbers.{Small}
use Rattle.state.specs.Held.{Held, Whole, Limbs, low_of, high_of, value_of, held_of, kept}
use Rattle.state.specs.declared.registers.Registers.{Registers}
use Rattle.state.specs.Registers.{holds, noted, place, put, normalise}
use Rattle.state.proofs.Normal.{settled-whole}
use Rattle.effect.specs.Notes.{Notes}
use Rattle.effect.specs.Operations.{plus64, register_form, moves, load_size, store_size}
use Rattle.effect.specs.Effects.{Seen, seen, dividing, moving, on_loaded, on_storable, loading, storing, effect}
use Rattle.effect.specs.Outcomes.{Outcome, Does, Refuses}
use Rattle.instruction.specs.declared.Instruction.{Instruction}
use Rattle.instruction.specs.declared.Instruction.TheVariants.{Add, Sub, Addi, Mul, Divide, Op, OpImm, Move, Load, Store, Branch, Jal, Jalr, Ecall, Ebreak}
use Rattle.deferred.specs.Limbs.{sum_fits, sum_into, subtracted}
use Rattle.deferred.proofs.Waiting.{fits-true}
use Rattle.execute.specs.World.{World, world, Stepped, refused, keeping, checks_for, does, done}
use Rattle.execute.specs.Modes.{limbs_in, settle_sources}
use Rattle.execute.specs.Execute.{onward, finish, execute}
use Rattle.execute.specs.declared.Mode.{Mode}
use Rattle.pending.specs.Pending.{lacks}
use Rattle.pending.specs.declared.Room.{Room}
use Rattle.agreement.specs.Keeping.{Capped, InBits}
use Rattle.agreement.specs.Statements.{StepsStayInBits, RunsStayInBits}
use Rattle.agreement.proofs.Cases.{cond-case}
use Rattle.agreement.proofs.Values.{settled-sum}
use Rattle.agreement.proofs.Formed.{set_keeps}
use Rattle.agreement.proofs.Capped.{effect-bound}
use Rattle.agreement.proofs.Keeping.{settle-keeps, limbs-keep, step_keeps, run-keeps}
use Rattle.agreement.proofs.Wide.{divided-wide, result-wide, loaded-wide, read-bytes-wide}

-- ---- registers
record Wide (R : Registers) : Type 0 where
  values-long : length R.values ≡ 16
  marks-long : length R.accumulated ≡ 16
  bounds-long : length R.bounds ≡ 16
  value-fits : (k : ℕ) → get_or R.values k 0 < 2 ^ 64
  bound-fits : (k : ℕ) → get_or R.bounds k 0 < 2 ^ 8

wide-place : (k v : ℕ) (f : Bool) (b : ℕ) (R : Registers) → v < 2 ^ 64 → b < 2 ^ 8 → Wide R → Wide (place k v f b R)
unfolding place
wide-place zero v f b R p q h = h
wide-place (suc k) v f b R p q h =
    record {
      values-long = rw length-set h.values-long;
      marks-long = rw length-set h.marks-long;
      bounds-long = rw length-set h.bounds-long;
      value-fits = λ j. set_keeps (λ n. n < 2 ^ 64) R.values (suc k) v j p (h.value-fits j);
      bound-fits = λ j. set_keeps (λ n. n < 2 ^ 8) R.bounds (suc k) b j q (h.bound-fits j);
    }

wide-whole : (R : Registers) (rd v b : ℕ) → v < 2 ^ 64 → b < 2 ^ 8 → Wide R → Wide (put R rd (Whole v) b)
unfolding kept
wide-whole R rd v b p q h = wide-place (rd % 16) v _ b R p q h

wide-limbs : (R : Registers) (rd low high b : ℕ) → low + 2 ^ 30 * high < 2 ^ 64 → b < 2 ^ 8 → Wide R → Wide (put R rd (Limbs low high) b)
unfolding kept
wide-limbs R rd low high b p q h = wide-place (rd % 16) (low + 2 ^ 30 * high) _ b R p q h

value-wide : (R : Registers) → Wide R → (n : ℕ) → value_of (holds R n) < 2 ^ 64
unfolding value_of held_of
value-wide R h n = by (get_or R.accumulated (n % 16) false) (get_or R.values (n % 16) 0) (h.value-fits (n % 16))
  where
    by : (f : Bool) (v : ℕ) → v < 2 ^ 64 → value_of (held_of f v) < 2 ^ 64
    by true v p = omega arith
    by false v p = p

-- limbs as they are kept
limbs-wide : (R : Registers) → Wide R → (n : ℕ) → low_of (holds R n) + 2 ^ 30 * high_of (holds R n) < 2 ^ 64
unfolding low_of high_of held_of
limbs-wide R h n = by (get_or R.accumulated (n % 16) false) (get_or R.values (n % 16) 0) (h.value-fits (n % 16))
  where
    by : (f : Bool) (v : ℕ) → v < 2 ^ 64 → low_of (held_of f v) + 2 ^ 30 * high_of (held_of f v) < 2 ^ 64
    by true v p = omega arith
    by false v p = omega arith

wide-normalise : (n : ℕ) (R : Registers) → Wide R → Wide (normalise n R)
unfolding normalise
wide-normalise n R h = rw (settled-whole (holds R n)) (wide-whole R n _ _ (value-wide R h n) (h.bound-fits (n % 16)) h)

wide-sum : (rd : ℕ) (x y : Held) (b : ℕ) (R T : Registers) → b < 2 ^ 8 → Wide R → Wide T → Wide (sum_into rd x y b R T)
unfolding sum_into
wide-sum rd x y b R T l h t =
    cond-case Wide (sum_fits x y) _ _
    (λ e. let s = fits-true (low_of x + low_of y) (high_of x + high_of y) e in wide-limbs R rd _ _ b (omega (arith, s.0, s.1)) l h)
    (λ _. let s = settled-sum x y in wide-limbs T rd _ _ b (omega (arith, s.0, s.1)) l t)

wide-difference : (N : Notes) → Capped N → (rd rs1 rs2 : ℕ) (R : Registers) → Wide R → Wide (subtracted N rd rs1 rs2 R)
wide-difference N c rd rs1 rs2 R h =
    let p = limbs-wide R h rs1 in
    let q = c.difference (noted R rs1) (noted R rs2) in
    wide-limbs R rd _ _ _ (omega arith) (omega arith) h

-- ---- memory
small_put : (n : ℕ) (m : List ℕ) (at v : ℕ) → Small m → Small (put_at n m at v)
unfolding bytes
small_put zero m at v h = h
small_put (suc n) m at v h = small_put n (set m at (v % 256)) (suc at) (v / 256) (λ j. set_keeps (λ b. b < 256) m at (v % 256) j (omega arith) (h j))

small-stored : (s : Result ⊤ Refusal) (after m : List ℕ) → Small after → Small m → Small (on_stored after m s)
unfolding on_stored
small-stored (Ok tt) after m p h = p
small-stored (Err r) after m p h = h

-- ---- effects
abbrev Fitting : List ℕ → Outcome → Type 0
Fitting m (Does e) = (e.value < 2 ^ 64) × (e.next < 2 ^ 64) × Small (keeping e.stores m)
Fitting m (Refuses r) = Unit

fitting-loaded : (m : List ℕ) (f : ℕ → Outcome) (n : ℕ) (r s : Refusal) (a : Access) → Fitting m (f n)
    → Fitting m (on_loaded f (on_access (Ok n) (Err r) (Err s) a))
unfolding on_loaded on_access
fitting-loaded m f n r s Served h = h
fitting-loaded m f n r s Beyond h = tt
fitting-loaded m f n r s Misaligned h = tt

fitting-storable : (m : List ℕ) (o : Outcome) (s : Result ⊤ Refusal) → Fitting m o → Fitting m (on_storable o s)
unfolding on_storable
fitting-storable m o (Ok tt) h = h
fitting-storable m o (Err r) h = tt

module _ (N : Notes) (v : Seen) (m : List ℕ) (pc : v.pc < 2 ^ 64) (values : (n : ℕ) → v.value n < 2 ^ 64) (small : Small m) where
  effect-fitting : (i : Instruction) → Fitting m (effect N i v m)
  unfolding effect dividing moving loading storing
  effect-fitting (Add rd rs1 rs2) = (omega arith, omega arith, small)
  effect-fitting (Sub rd rs1 rs2) = (omega arith, omega arith, small)
  effect-fitting (Addi rd rs1 imm) = (omega arith, omega arith, small)
  effect-fitting (Mul rd rs1 rs2) = (omega arith, omega arith, small)
  effect-fitting (Divide op rd rs1 rs2) =
      cond-case (Fitting m) (eqb (v.value rs2) 0) _ _ (λ _. tt) (λ _. (divided-wide op _ _ (values rs1), omega arith, small))
  effect-fitting (Op op rd rs1 rs2) = (result-wide op _ _, omega arith, small)
  effect-fitting (OpImm op rd rs1 imm) = (result-wide (register_form op) _ _, omega arith, small)
  effect-fitting (Move op rd rs1 rs2) =
      cond-case (Fitting m) (moves op (v.value rs2)) _ _ (λ _. (values rs1, omega arith, small)) (λ _. (omega arith, omega arith, small))
  effect-fitting (Load op rd rs1 imm) =
      let at = plus64 (v.value rs1) imm in
      let read = number_at (size_of (load_size op)) m at in
      fitting-loaded m _ read _ _ (access_of (size_of (load_size op)) (length m) at)
      (loaded-wide op read (read-bytes-wide (load_size op) m at small), omega arith, small)
  effect-fitting (Store op rs1 rs2 imm) =
      let at = plus64 (v.value rs1) imm in
      let size = store_size op in
      fitting-storable m _ (store_of size (length m) at)
      (omega arith, omega arith, small-stored (store_of size (length m) at) _ m (small_put (size_of size) m at (v.value rs2) small) small)
  effect-fitting (Branch op rs1 rs2 imm) = (omega arith, omega arith, small)
  effect-fitting (Jal rd imm) = (omega arith, omega arith, small)
  effect-fitting (Jalr rd rs1 imm) = (omega arith, omega arith, small)
  effect-fitting Ecall = (omega arith, omega arith, small)
  effect-fitting Ebreak = (omega arith, pc, small)

-- ---- worlds
in-bits : (pc : ℕ) (halted : Bool) (R : Registers) (m : List ℕ) → pc < 2 ^ 64 → Wide R → Small m → InBits (world pc halted R m)
in-bits pc halted R m p h s =
    record {
      state =
          record {
            pc-fits = p;
            values_long = h.values-long;
            accumulated-long = h.marks-long;
            bounds-long = h.bounds-long;
            value-fits = h.value-fits;
            bound-fits = h.bound-fits;
          };
      bytes = s;
    }

wide : (w : World) → InBits w → Wide w.registers
wide w h =
    record {
      values-long = h.state.values_long;
      marks-long = h.state.accumulated-long;
      bounds-long = h.state.bounds-long;
      value-fits = h.state.value-fits;
      bound-fits = h.state.bound-fits;
    }

module _ (N : Notes) (c : Capped N) where
  done-in-bits : (room : Room) (i : Instruction) (v : Seen) (o : Outcome) (w : World) (R : Registers) → effect N i v w.memory ≡ o
      → Fitting w.memory o → InBits w → Wide R
      → InBits (done room o w R).world
  unfolding done
  done-in-bits room i v (Refuses r) w R p f h z = h
  done-in-bits room i v (Does e) w R p f h z =
      let bound = effect-bound N c i v w.memory e p in
      cond-case (λ (s : Stepped). InBits s.world) (lacks room (length (checks_for e))) (refused _ w) (does e w.halted R w.memory)
      (λ _. h)
      (λ _. in-bits e.next _ _ _ f.1 (wide-whole R e.rd e.value e.bound f.0 (omega arith) z) f.2)

  sum-note : (rd : ℕ) (x y : Held) (a b : ℕ) (R T : Registers) → Wide R → Wide T → Wide (sum_into rd x y (N.sum a b) R T)
  sum-note rd x y a b R T = let l = c.sum a b in wide-sum rd x y (N.sum a b) R T (omega arith)

  execute-in-bits : (k : Mode) (room : Room) (i : Instruction) (w : World) → InBits w → InBits (execute k room N i w).world
  unfolding execute finish seen
  execute-in-bits k room i w h =
      let l = limbs_in k N i w.registers in
      let T = settle_sources k i w.registers in
      let settled-wide = settle-keeps Wide N wide-normalise sum-note (wide-difference N c) k i w.registers (wide w h) in
      cond-case (λ (s : Stepped). InBits s.world) l.waits (onward w l.registers) _
      (λ _. in-bits _ _ _ _ (omega arith) (limbs-keep Wide N wide-normalise sum-note (wide-difference N c) k i w.registers (wide w h)) h.bytes)
      (λ _. done-in-bits room i (seen w.pc T) _ w T refl (effect-fitting N (seen w.pc T) w.memory h.state.pc-fits (value-wide T settled-wide) h.bytes i) h settled-wide)

pub steps-stay-in-bits : StepsStayInBits
steps-stay-in-bits R c k = step_keeps InBits k R (execute-in-bits R.notes c k)

pub runs-stay-in-bits : RunsStayInBits
runs-stay-in-bits R c k = run-keeps InBits k R (execute-in-bits R.notes c k)
