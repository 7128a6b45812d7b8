-- An instruction put together from its limb form and its effect, in the terms in which the code has them.
use Prim.Native.Nat.{ℕ}
use mathlib.Core.Path.{◌≡◌, refl, sym, ap, ◌∙◌}
use mathlib.Core.Bool.{true, false}
use Rattle.state.specs.declared.registers.Registers.{Registers}
use Rattle.effect.specs.Notes.{Notes}
use Rattle.effect.specs.Effects.{seen, effect}
use Rattle.pending.specs.declared.Room.{Room}
use Rattle.deferred.specs.Limbs.{Limbed, limbed}
use Rattle.deferred.specs.Sources.{sources}
use Rattle.deferred.proofs.Seeing.{seen-each}
use Rattle.deferred.proofs.Staying.{unlimbed}
use Rattle.execute.specs.World.{World, world, Stepped, done}
use Rattle.execute.specs.Modes.{limbs_in, settle_sources}
use Rattle.execute.specs.Execute.{onward, finish, execute}
use Rattle.instruction.specs.declared.Instruction.{Instruction}
use Rattle.execute.specs.declared.Mode.{Mode}
use Rattle.execute.specs.declared.Mode.TheVariants.{Plain, Deferred}

seen-settle : (k : Mode) (pc : ℕ) (i : Instruction) (R : Registers) → seen pc (settle_sources k i R) ≡ seen pc R
unfolding settle_sources
seen-settle Plain pc i R = refl
seen-settle Deferred pc i R = seen-each pc (sources i) R

unlimbed_in : (k : Mode) (N : Notes) (i : Instruction) (R : Registers) → (limbs_in k N i R).waits ≡ false → limbs_in k N i R ≡ limbed false R
unfolding limbs_in
unlimbed_in Plain N i R e = refl
unlimbed_in Deferred N i R e = unlimbed N i R e

module _ (k : Mode) (room : Room) (N : Notes) (i : Instruction) (w : World) (S : Registers) where
  pub on-limbs : limbed true S ≡ limbs_in k N i w.registers → onward w S ≡ execute k room N i w
  unfolding execute finish
  on-limbs e = rw (← e)

  -- x is what carrying out its effect leaves, which is decided on the registers S as they are
  pub not-on-limbs : (x : Stepped) → limbed false S ≡ limbs_in k N i w.registers
      → x ≡ done room (effect N i (seen w.pc S) w.memory) (world w.pc w.halted S w.memory) (settle_sources k i S)
      → x ≡ execute k room N i w
  unfolding execute finish
  not-on-limbs x e q =
      let same : limbs_in k N i w.registers ≡ limbed false w.registers = unlimbed_in k N i w.registers (ap (λ (l : Limbed). l.waits) (sym e)) in
      let stays : S ≡ w.registers = ap (λ (l : Limbed). l.registers) (e ∙ same) in
      q ∙ rw (same, stays, seen-settle k w.pc i w.registers)
