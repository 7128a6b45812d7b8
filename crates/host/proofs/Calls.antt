-- The cases of a call, from the tests that the code makes.
use Prim.Native.Nat.{ℕ}
use mathlib.Core.Path.{◌≡◌, refl, sym, ap, ◌∙◌}
use mathlib.Core.Bool.{Bool, true, false, cond, ◌&&◌}
use mathlib.Core.List.{List}
use lib.ListN.{length}
use lib.Dec.{leb, eqb}
use borrow.Author.Tests.{eq-eqb, ne_eqb, eqb-true}
use Rattle.refusal.specs.Stops.{code_of, particular_at}
use Rattle.memory.specs.Bytes.{number_at}
use Rattle.state.specs.Formed.{all_below}
use Rattle.execute.specs.Execute.{admits}
use Rattle.refusal.specs.declared.Stop.TheVariants as S
use Rattle.pending.specs.Pending.{room_at, no_lists}
use Rattle.pending.specs.declared.Room.TheVariants.{Unlent}
use Rattle.execute.specs.World.{World, world_of}
use Rattle.execute.specs.Rules.{rules_of}
use Rattle.execute.specs.declared.Choices.{Choices}
use Rattle.step.specs.Leg.{Leg, leg_in}
use Rattle.run.specs.Run.{Answer, answer, stop_of, loop, run}
use Rattle.run.proofs.Loops.{unlent-leg}
use Rattle.layout.specs.Reading.{read_in}
use Rattle.layout.specs.declared.reading.Reading.{Reading}
use Rattle.layout.specs.Layout.{STATE_BYTES, state_bytes, state_in, record_laid, well_laid, written}
use Rattle.layout.specs.Answer.{ANSWER_BYTES, answer_bytes}
use Rattle.host.specs.Call.{mode_of, state_of, called, call_taken, ran_on, call_of}
use Rattle.host.specs.Unlisted.{unlisted_run}

-- a leg of a state that is not halted
pub one-leg : (c : Choices) (fuel : ℕ) (w : World) (a : Leg) → w.halted ≡ false → a ≡ leg_in fuel c.mode Unlent (rules_of c) w
    → answer (stop_of a.went) a.steps a.world no_lists ≡ unlisted_run c fuel w
unfolding room_at
one-leg c fuel w a h e =
    ap (λ (a : Leg). answer (stop_of a.went) a.steps a.world no_lists) e
    ∙ unlent-leg fuel c.mode (rules_of c) w no_lists refl
    ∙ ap (λ (t : Bool). cond t (answer S.Ebreak 0 w no_lists) (loop fuel c.mode (rules_of c) w no_lists)) (sym h)

-- of four tests that hold together
first-of-four : (a b c d : Bool) → (a && b && c && d) ≡ true → a ≡ true
first-of-four true b c d e = refl
first-of-four false b c d e = e

last-of-four : (a b c d : Bool) → (a && b && c && d) ≡ true → (c ≡ true) × (d ≡ true)
last-of-four true true true d e = (refl, e)
last-of-four true true false d e = (e, cc)
last-of-four true false c d e = (cc, cc)
last-of-four false b c d e = (cc, cc)

module _ (st m an : List ℕ) (fuel mode : ℕ) where
  refused : (code : ℕ) (an' : List ℕ) → call_taken st an mode ≡ false → code ≡ 9 → an' ≡ written ANSWER_BYTES (answer_bytes 9 0 0) an
      → called code st m an' ≡ call_of st m an fuel mode
  unfolding call_of
  refused code an' t c e = rw (t, c, e)

  pub call-refused : (code : ℕ) (an' : List ℕ) (r : Reading) (t : Bool) → r ≡ read_in st
      → t ≡ (eqb (length an) ANSWER_BYTES && leb mode 1 && r.laid && admits (mode_of mode) r.state.registers) → t ≡ false
      → (code ≡ 9) × (an' ≡ written ANSWER_BYTES (answer_bytes 9 0 0) an) → called code st m an' ≡ call_of st m an fuel mode
  unfolding call_taken
  call-refused code an' r t e q f h = refused code an' ((rw e at (sym q)) ∙ f) h.0 h.1

  pub call-of-another-length : (code : ℕ) (an' : List ℕ) → (length st ≡ STATE_BYTES → ⊥)
      → (code ≡ 9) × (an' ≡ written ANSWER_BYTES (answer_bytes 9 0 0) an) → called code st m an' ≡ call_of st m an fuel mode
  unfolding call_taken well_laid
  call-of-another-length code an' n h =
      refused code an' (rw (ne_eqb (length st) STATE_BYTES n) (none_of (eqb (length an) ANSWER_BYTES) (leb mode 1))) h.0 h.1
    where
      none_of : (a b : Bool) → (a && b && false && admits (mode_of mode) (state_in st).registers) ≡ false
      none_of true true = refl
      none_of true false = refl
      none_of false b = refl

  module _ (t : call_taken st an mode ≡ true) where
    -- a taken call has the sizes that are written
    answer-size : length an ≡ ANSWER_BYTES
    unfolding call_taken
    answer-size =
        eqb-true _ _ (first-of-four (eqb (length an) ANSWER_BYTES) (leb mode 1) (well_laid st) (admits (mode_of mode) (state_in st).registers) t)

    allowed : (well_laid st ≡ true) × (admits (mode_of mode) (state_in st).registers ≡ true)
    unfolding call_taken
    allowed = last-of-four (eqb (length an) ANSWER_BYTES) (leb mode 1) (well_laid st) (admits (mode_of mode) (state_in st).registers) t

    state-size : well_laid st ≡ true → length st ≡ STATE_BYTES
    unfolding well_laid
    state-size e =
        eqb-true _ _ (first-of-four (eqb (length st) STATE_BYTES) (leb (number_at 1 st 8) 1) (eqb (number_at 7 st 9) 0) (all_below (record_laid st) 16) e)

    ran : unlisted_run (record { mode = mode_of mode }) fuel (world_of (state_in st) m) ≡ ran_on mode fuel (state_in st) m
    unfolding run
    ran = rw allowed.1

    served-call : (a : Answer) (st' an' : List ℕ) (code : ℕ) → a ≡ unlisted_run (record { mode = mode_of mode }) fuel (world_of (state_in st) m)
        → code ≡ code_of a.stop → st' ≡ written STATE_BYTES (state_bytes (state_of a.world)) st
        → an' ≡ written ANSWER_BYTES (answer_bytes (code_of a.stop) a.steps (particular_at a.stop)) an
        → called code st' a.world.memory an' ≡ call_of st m an fuel mode
    unfolding call_of written
    served-call a st' an' code e c f g =
        rw (t, ← (e ∙ ran), f, g, eq-eqb (length st) STATE_BYTES (state-size allowed.0), eq-eqb (length an) ANSWER_BYTES answer-size, c)

  pub call-served : (r : Reading) (t : Bool) → r ≡ read_in st
      → t ≡ (eqb (length an) ANSWER_BYTES && leb mode 1 && r.laid && admits (mode_of mode) r.state.registers) → t ≡ true
      → (a : Answer) (st' an' : List ℕ) (code : ℕ) → a ≡ unlisted_run (record { mode = mode_of mode }) fuel (world_of r.state m)
      → (code ≡ code_of a.stop) × (st' ≡ written STATE_BYTES (state_bytes (state_of a.world)) st)
      × (an' ≡ written ANSWER_BYTES (answer_bytes (code_of a.stop) a.steps (particular_at a.stop)) an)
      → called code st' a.world.memory an' ≡ call_of st m an fuel mode
  unfolding call_taken
  call-served r t e q f a st' an' code h l =
      served-call ((rw e at (sym q)) ∙ f) a st' an' code (rw e at h) l.0 l.1 l.2
