-- Every register read as its value, of the registers as they are kept.
use Prim.Native.Nat.{ℕ, zero, suc, ◌%◌, ◌^◌, ◌<◌}
use mathlib.Core.Path.{◌≡◌, refl, sym, ap, ◌∙◌, fun_ext}
use mathlib.Core.Bool.{Bool, true, false}
use mathlib.Core.List.{List, [], ◌∷◌}
use lib.ListN.{get_or, set, length}
use native.Mathlib.Omega.{arith}
use Rattle.state.specs.Held.{Held, Whole, low_of, value_of, held_of, kept, waits}
use Rattle.state.specs.declared.registers.Registers.{Registers}
use Rattle.state.specs.Registers.{holds, noted, place, put, normalise}
use Rattle.state.proofs.Files.{kept-settled, waits-settled, set_same}
use Rattle.state.proofs.Normal.{held_kept}
use Rattle.effect.specs.Effects.{seen}
use Rattle.deferred.specs.Sources.{sources, normalise_each}
use Rattle.execute.specs.Modes.{settle_sources}
use Rattle.execute.specs.declared.Mode.{Mode}
use Rattle.execute.specs.declared.Mode.TheVariants.{Plain, Deferred}
use Rattle.instruction.specs.declared.Instruction.{Instruction}
use Rattle.agreement.specs.Reading.{read_values, no_marks, read_all, Sized}

abbrev value_in : List ℕ → List Bool → ℕ → ℕ
value_in vs fs j = value_of (held_of (get_or fs j false) (get_or vs j 0))

nothing : (f : Bool) → value_of (held_of f 0) ≡ 0
unfolding value_of held_of
nothing true = refl
nothing false = refl

pub no-mark : (fs : List Bool) (j : ℕ) → get_or (no_marks fs) j false ≡ false
unfolding no_marks
no-mark [] j = refl
no-mark (f ∷ fs) zero = refl
no-mark (f ∷ fs) (suc j) = no-mark fs j

value_read : (vs : List ℕ) (fs : List Bool) (j : ℕ) → get_or (read_values vs fs) j 0 ≡ value_in vs fs j
unfolding read_values value_of held_of
value_read [] fs j = sym (nothing (get_or fs j false))
value_read (v ∷ vs) [] zero = refl
value_read (v ∷ vs) [] (suc j) = value_read vs [] j
value_read (v ∷ vs) (f ∷ fs) zero = refl
value_read (v ∷ vs) (f ∷ fs) (suc j) = value_read vs fs j

pub read_held : (R : Registers) (n : ℕ) → holds (read_all R) n ≡ Whole (value_of (holds R n))
unfolding held_of
read_held R n = rw (no-mark R.accumulated (n % 16)) (ap Whole (value_read R.values R.accumulated (n % 16)))

-- an instruction on whole values sees no difference
pub seen_read : (pc : ℕ) (R : Registers) → seen pc (read_all R) ≡ seen pc R
unfolding seen value_of
seen_read pc R = ap (λ (f : ℕ → ℕ). record { pc = pc; value = f; bound = λ n. noted R n }) (fun_ext (λ n. rw (read_held R n)))

-- ---- a write, in the lists
marks-set : (fs : List Bool) (k : ℕ) (f : Bool) → no_marks (set fs k f) ≡ no_marks fs
unfolding no_marks
marks-set [] k f = refl
marks-set (g ∷ fs) zero f = refl
marks-set (g ∷ fs) (suc k) f = ap (λ (l : List Bool). false ∷ l) (marks-set fs k f)

marks_stay : (fs : List Bool) (k : ℕ) → set (no_marks fs) k false ≡ no_marks fs
unfolding no_marks
marks_stay [] k = refl
marks_stay (f ∷ fs) zero = refl
marks_stay (f ∷ fs) (suc k) = ap (λ (l : List Bool). false ∷ l) (marks_stay fs k)

whole_set : (vs : List ℕ) (fs : List Bool) (k v : ℕ) → read_values (set vs k v) (set fs k false) ≡ set (read_values vs fs) k v
unfolding read_values value_of held_of
whole_set [] fs k v = refl
whole_set (x ∷ vs) [] zero v = refl
whole_set (x ∷ vs) [] (suc k) v = ap (λ (l : List ℕ). x ∷ l) (whole_set vs [] k v)
whole_set (x ∷ vs) (f ∷ fs) zero v = refl
whole_set (x ∷ vs) (f ∷ fs) (suc k) v = ap (λ (l : List ℕ). value_of (held_of f x) ∷ l) (whole_set vs fs k v)

held-set : (vs : List ℕ) (fs : List Bool) (k v : ℕ) (f : Bool) → k < length fs
    → read_values (set vs k v) (set fs k f) ≡ set (read_values vs fs) k (value_of (held_of f v))
unfolding read_values
held-set [] fs k v f h = refl
held-set (x ∷ vs) [] k v f h = absurd (omega arith)
held-set (x ∷ vs) (g ∷ fs) zero v f h = refl
held-set (x ∷ vs) (g ∷ fs) (suc k) v f h = ap (λ (l : List ℕ). value_of (held_of g x) ∷ l) (held-set vs fs k v f (omega arith))

-- ---- a write of a register
read-place-whole : (k v b : ℕ) (R : Registers) → read_all (place k v false b R) ≡ place k v false b (read_all R)
unfolding place
read-place-whole zero v b R = refl
read-place-whole (suc k) v b R = rw (whole_set, marks-set, marks_stay)

pub read_whole : (R : Registers) (rd v b : ℕ) → read_all (put R rd (Whole v) b) ≡ put (read_all R) rd (Whole v) b
unfolding kept waits
read_whole R rd v b = read-place-whole (rd % 16) v b R

read-place : (k v : ℕ) (f : Bool) (b : ℕ) (R : Registers) → k < 16 → Sized R → read_all (place k v f b R) ≡ place k (value_of (held_of f v)) false b (read_all R)
unfolding place
read-place zero v f b R h z = refl
read-place (suc k) v f b R h z =
    let l : suc k < length R.accumulated = omega arith in
    rw (held-set R.values R.accumulated (suc k) v f l, marks-set, marks_stay)

pub read-put : (R : Registers) (rd : ℕ) (x : Held) (b : ℕ) → low_of x < 2 ^ 30 → Sized R → read_all (put R rd x b) ≡ put (read_all R) rd (Whole (value_of x)) b
unfolding kept waits
read-put R rd x b h z = read-place (rd % 16) _ _ b R (omega arith) z ∙ rw (held_kept x h)

-- ---- normalising
same_set : (vs : List ℕ) (fs : List Bool) (k : ℕ) → read_values (set vs k (value_in vs fs k)) (set fs k false) ≡ read_values vs fs
same_set vs fs k = whole_set vs fs k _ ∙ rw (← value_read vs fs k) (set_same (read_values vs fs) k 0)

read-place-same : (k : ℕ) (R : Registers) → read_all (place k (value_in R.values R.accumulated k) false (get_or R.bounds k 0) R) ≡ read_all R
unfolding place
read-place-same zero R = refl
read-place-same (suc k) R = rw (same_set, marks-set, set_same R.bounds (suc k) 0)

pub read-normalise : (n : ℕ) (R : Registers) → read_all (normalise n R) ≡ read_all R
unfolding normalise
read-normalise n R = rw (kept-settled (holds R n), waits-settled (holds R n)) (read-place-same (n % 16) R)

read-each : (ns : List ℕ) (R : Registers) → read_all (normalise_each ns R) ≡ read_all R
unfolding normalise_each
read-each [] R = refl
read-each (n ∷ ns) R = read-each ns (normalise n R) ∙ read-normalise n R

pub read-settle : (k : Mode) (i : Instruction) (R : Registers) → read_all (settle_sources k i R) ≡ read_all R
unfolding settle_sources
read-settle Plain i R = refl
read-settle Deferred i R = read-each (sources i) R
