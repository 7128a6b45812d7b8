-- Refusal 2 names the first byte that is missing.
use Rattle.std.specs.Prelude.{Err, Ok, Result}
use Prim.Native.Nat.{ℕ, zero, suc, ◌+◌, ◌%◌, ◌<◌}
use mathlib.Core.Path.{◌≡◌, refl, sym, ap, ◌∙◌}
use mathlib.Core.Bool.{Bool, true, false, cond, ◌&&◌}
use mathlib.Core.List.{List}
use native.Mathlib.Omega.{arith}
use lib.ListN.{length}
use lib.Dec.{leb, eqb}
use borrow.Author.Tests.{eqb-false, leb-true, leb-false}
use Rattle.refusal.specs.Stops.{number_of, particular_of, refusal_of}
use Rattle.refusal.specs.declared.Refusal.{Refusal}
use Rattle.refusal.specs.declared.Stop.TheVariants as S
use Rattle.memory.specs.Bytes.{number_at}
use Rattle.memory.specs.Memory.{size_of, access_of, on_access, beyond_at}
use Rattle.memory.specs.declared.Size.{Size}
use Rattle.memory.specs.declared.Size.TheVariants.{Byte, Half, Word, Double}
use Rattle.memory.specs.declared.Access.{Access}
use Rattle.memory.specs.declared.Access.TheVariants.{Served, Beyond, Misaligned}
use Rattle.words.specs.Words.{decode_in}
use Rattle.words.proofs.Refused.{decoded-refused}
use Rattle.state.specs.declared.registers.Registers.{Registers}
use Rattle.effect.specs.Operations.{plus64, moves, load_size, store_size}
use Rattle.effect.specs.Notes.{Notes}
use Rattle.effect.specs.Effects.{Seen, seen, dividing, moving, on_loaded, on_storable, loading, storing, effect}
use Rattle.effect.specs.Outcomes.{Effect, Outcome, Does, Refuses}
use Rattle.effect.specs.Outcomes as G
use Rattle.instruction.specs.declared.Instruction.{Instruction}
use Rattle.instruction.specs.declared.Instruction.TheVariants.{Add, Sub, Addi, Mul, Divide, Op, OpImm, Move, Load, Store, Branch, Jal, Jalr, Ecall, Ebreak}
use Rattle.execute.specs.World.{World, Stepped, refused, checks_for, does, done}
use Rattle.execute.specs.Modes.{limbs_in, settle_sources}
use Rattle.execute.specs.Execute.{onward, wholly, finish, execute, admits}
use Rattle.execute.specs.Rules.{Rules, document_rules, obey}
use Rattle.execute.specs.declared.Mode.{Mode}
use Rattle.execute.specs.declared.Went.{Went}
use Rattle.execute.specs.declared.Went.TheVariants as W
use Rattle.pending.specs.Pending.{Lists, lists_fit, room_of, lacks}
use Rattle.pending.specs.declared.Room.{Room}
use Rattle.step.specs.Step.{Left, left, fetched, step_of, step, goes_on, counted}
use Rattle.run.specs.Run.{Answer, answer, preceded, stop_of, following, loop, run}
use Rattle.agreement.specs.Contracts.{fuel_given, world_given, lists_given}
use Rattle.agreement.specs.Missing.{FirstMissing, Lacks, LacksAtPc, NamesMissing}
use Rattle.agreement.specs.Missing.{InstructionsNameMissing, StepsNameMissing, RunsNameMissing, AnswersNameMissing}
use Rattle.agreement.proofs.Cases.{cond-case}
use Rattle.agreement.proofs.Reading.{seen_read, read-settle}
use Rattle.agreement.proofs.Refused.{no-refusal, inner-restores}
use Rattle.agreement.proofs.Answers.{leaves_run}

-- a refusal of another number
other : {P : Type 0} (number : ℕ) → eqb number 2 ≡ false → number ≡ 2 → P
other number e two = absurd (eqb-false number 2 e two)

-- ---- in memory
some_bytes : (size : Size) → 0 < size_of size
some_bytes Byte = omega arith
some_bytes Half = omega arith
some_bytes Word = omega arith
some_bytes Double = omega arith

first : (m : List ℕ) (start size : ℕ) → 0 < size → length m < start + size → FirstMissing m start size (beyond_at (length m) start)
first m start size some short =
    cond-case (FirstMissing m start size) (leb (length m) start) start (length m)
    (λ e.
    let end = leb-true (length m) start e in
    record { after = omega arith; none = end; least = λ address a b. a; touched = omega arith })
    (λ e.
    let end = leb-false (length m) start e in
    record { after = omega arith; none = omega arith; least = λ address a b. b; touched = short })

beyond-short : (size len address : ℕ) → access_of size len address ≡ Beyond → len < address + size
unfolding access_of
beyond-short size len address e = short (eqb (address % size) 0) (leb (address + size) len) refl e
  where
    short : (al fits : Bool) → leb (address + size) len ≡ fits → cond al (cond fits Served Beyond) Misaligned ≡ Beyond → len < address + size
    short true true h e = let z : ◌≡◌ {A = ℕ} 0 1 = cc in absurd (omega arith)
    short true false h e = leb-false _ _ h
    short false fits h e = let z : ◌≡◌ {A = ℕ} 0 1 = cc in absurd (omega arith)

-- ---- an outcome that is no refusal 2, or one that names what P holds of
data Names (P : ℕ → Type 0) : Outcome → Type 0 where
  acts : {e : Effect} → Names P (Does e)
  refuses : {r : Refusal} → (number_of r ≡ 2 → P (particular_of r)) → Names P (Refuses r)

module _ (m : List ℕ) (address : ℕ) (size : Size) (P : ℕ → Type 0)
    (names : FirstMissing m address (size_of size) (beyond_at (length m) address) → P (beyond_at (length m) address)) where
  abbrev access : Access
  access = access_of (size_of size) (length m) address

  beyond-names : access ≡ Beyond → P (beyond_at (length m) address)
  beyond-names e = names (first m address (size_of size) (some_bytes size) (beyond-short _ _ _ e))

  load-names : (f : ℕ → Outcome) (v : ℕ) → Names P (f v) → (a : Access) → access ≡ a
      → Names P (on_loaded f (on_access (Ok v) (Err (refusal_of 2 (beyond_at (length m) address))) (Err (refusal_of 3 address)) a))
  unfolding on_loaded on_access
  load-names f v h Served e = h
  load-names f v h Beyond e = refuses (λ _. beyond-names e)
  load-names f v h Misaligned e = refuses (other 3 refl)

  store-names : (o : Outcome) → Names P o → (a : Access) → access ≡ a
      → Names P (on_storable o (on_access (Ok tt) (Err (refusal_of 2 (beyond_at (length m) address))) (Err (refusal_of 3 address)) a))
  unfolding on_storable on_access
  store-names o h Served e = h
  store-names o h Beyond e = refuses (λ _. beyond-names e)
  store-names o h Misaligned e = refuses (other 3 refl)

effect-names : (N : Notes) (i : Instruction) (v : Seen) (m : List ℕ) → Names (λ b. Lacks v m b i) (effect N i v m)
unfolding effect dividing moving loading storing
effect-names N (Add rd rs1 rs2) v m = acts
effect-names N (Sub rd rs1 rs2) v m = acts
effect-names N (Addi rd rs1 imm) v m = acts
effect-names N (Mul rd rs1 rs2) v m = acts
effect-names N (Divide op rd rs1 rs2) v m = cond-case (Names _) (eqb (v.value rs2) 0) _ _ (λ _. refuses (other 1 refl)) (λ _. acts)
effect-names N (Op op rd rs1 rs2) v m = acts
effect-names N (OpImm op rd rs1 imm) v m = acts
effect-names N (Move op rd rs1 rs2) v m = cond-case (Names _) (moves op (v.value rs2)) _ _ (λ _. acts) (λ _. acts)
effect-names N (Load op rd rs1 imm) v m = load-names m (plus64 (v.value rs1) imm) (load_size op) _ Lacks.load _ _ acts _ refl
effect-names N (Store op rs1 rs2 imm) v m = store-names m (plus64 (v.value rs1) imm) (store_size op) _ Lacks.store _ acts _ refl
effect-names N (Branch op rs1 rs2 imm) v m = acts
effect-names N (Jal rd imm) v m = acts
effect-names N (Jalr rd rs1 imm) v m = acts
effect-names N Ecall v m = acts
effect-names N Ebreak v m = acts

-- ---- an instruction
abbrev WentNames : (ℕ → Type 0) → Went → Type 0
WentNames P g = (r : Refusal) → g ≡ W.Refused r → number_of r ≡ 2 → P (particular_of r)

abbrev StepNames : (ℕ → Type 0) → Stepped → Type 0
StepNames P s = WentNames P s.went

refused-names : (P : ℕ → Type 0) (q : Refusal) (w : World) → (number_of q ≡ 2 → P (particular_of q)) → StepNames P (refused q w)
refused-names P q w h r e two =
    let same : r ≡ q = cc in
    rw same (h (rw same at two))

done-names : (P : ℕ → Type 0) (room : Room) (o : Outcome) (w : World) (R : Registers) → Names P o → StepNames P (done room o w R)
unfolding done
done-names P room (Refuses q) w R (refuses h) = refused-names P q w h
done-names P room (Does e) w R acts =
    cond-case (StepNames P) (lacks room (length (checks_for e))) (refused _ w) (does e w.halted R w.memory)
    (λ _. refused-names P _ w (other 8 refl))
    (λ _ r p. no-refusal e.goes r p)

-- what the mode normalises reads alike
settled-names : (N : Notes) (i : Instruction) (m : List ℕ) (v u : Seen) → v ≡ u → Names (λ b. Lacks u m b i) (effect N i v m)
settled-names N i m v u e = rw e (effect-names N i u m)

seen-settled : (k : Mode) (i : Instruction) (pc : ℕ) (R : Registers) → seen pc (settle_sources k i R) ≡ seen pc R
seen-settled k i pc R = sym (seen_read pc (settle_sources k i R)) ∙ ap (seen pc) (read-settle k i R) ∙ seen_read pc R

pub instructions-name : InstructionsNameMissing
unfolding execute finish
instructions-name k room N i w =
    let l = limbs_in k N i w.registers in
    let T = settle_sources k i w.registers in
    cond-case (StepNames (λ b. Lacks (seen w.pc w.registers) w.memory b i)) l.waits (onward w l.registers) (wholly room N i w T)
    (λ _ r p. no-refusal G.On r p)
    (λ _. done-names _ room _ w T (settled-names N i w.memory _ _ (seen-settled k i w.pc w.registers)))

-- ---- a step: a word is refused 4 or 5 as it is decoded, 6 or 7 as it is fetched
module _ (k : Mode) (room : Room) (R : Rules) (w : World) where
  obey-names : (d : Result Instruction Refusal) → decode_in R.number (number_at 4 w.memory w.pc) ≡ d → StepNames (LacksAtPc R w) (obey k room R d w)
  unfolding obey
  obey-names (Ok i) e r p two = record { instruction = i; fetched = e; lacks = instructions-name k room R.notes i w r p two }
  obey-names (Err q) e r p two =
      refused-names (LacksAtPc R w) q w (λ h. let number = decoded-refused _ _ q e in absurd (omega arith)) r p two

  fetched-names : (a : Access)
      → StepNames (LacksAtPc R w)
      (fetched k room R (on_access (Ok (number_at 4 w.memory w.pc)) (Err (refusal_of 7 w.pc)) (Err (refusal_of 6 w.pc)) a) w)
  unfolding fetched on_access
  fetched-names Served = obey-names _ refl
  fetched-names Beyond = refused-names (LacksAtPc R w) _ w (other 7 refl)
  fetched-names Misaligned = refused-names (LacksAtPc R w) _ w (other 6 refl)

inner-names : (k : Mode) (R : Rules) (w : World) (l : Lists) → WentNames (LacksAtPc R w) (step_of k R w l).went
unfolding step_of
inner-names k R w l = fetched-names k (room_of l) R w (access_of 4 (length w.memory) w.pc)

pub steps-name : StepsNameMissing
unfolding step
steps-name k R w l =
    cond-case (λ (s : Left). WentNames (LacksAtPc R w) s.went) (admits k w.registers && lists_fit l) (step_of k R w l) (left _ w l)
    (λ _. inner-names k R w l)
    (λ _. refused-names (LacksAtPc R w) (refusal_of 9 0) w (other 9 refl))

-- ---- a run
refused-went : (g : Went) (r : Refusal) → stop_of g ≡ S.Refused r → g ≡ W.Refused r
unfolding stop_of
refused-went W.On r e = cc
refused-went W.Ebreak r e = cc
refused-went W.Ecall r e = cc
refused-went (W.Refused q) r e = cc

module _ (k : Mode) (R : Rules) where
  loop-names : (n : ℕ) (w : World) (l : Lists) → NamesMissing R (loop n k R w l)
  unfolding loop following
  loop-names zero w l = λ r e. let z : ◌≡◌ {A = ℕ} 0 1 = cc in absurd (omega arith)
  loop-names (suc n) w l =
      let s = step_of k R w l in
      cond-case (NamesMissing R) (goes_on s.went) (preceded 1 (loop n k R s.world s.lists)) (answer _ (counted s.went) s.world s.lists)
      (λ _. loop-names n s.world s.lists)
      (λ _ r e two.
      let went = refused-went s.went r e in
      rw (inner-restores k R w l r went).0 (inner-names k R w l r went two))

pub runs-name : RunsNameMissing
unfolding run
runs-name k R fuel w l =
    cond-case (NamesMissing R) (admits k w.registers && lists_fit l) _ (answer _ 0 w l)
    (λ _.
    cond-case (NamesMissing R) w.halted (answer _ 0 w l) (loop fuel k R w l)
    (λ _ r e. let z : ◌≡◌ {A = ℕ} 0 1 = cc in absurd (omega arith))
    (λ _. loop-names k R fuel w l))
    (λ _ r e two. let z : ◌≡◌ {A = ℕ} 9 2 = cc in absurd (omega arith))

-- of the code
same_names : (R : Rules) (a b : Answer) → a ≡ b → NamesMissing R b → NamesMissing R a
same_names R a b e h = rw e h

pub answers-name : AnswersNameMissing
answers-name k κs a x e =
    same_names document_rules _ _ (leaves_run k κs a x e) (runs-name k document_rules (fuel_given κs a) (world_given κs a) (lists_given κs a))
