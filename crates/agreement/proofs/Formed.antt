-- Well-formed registers, in tests and in facts; and what may be written into them.
use Prim.Native.Nat.{ℕ, zero, suc, ◌%◌, ◌^◌, ◌≤◌, ◌<◌}
use mathlib.Core.Path.{◌≡◌, refl, ap}
use mathlib.Core.Bool.{Bool, true, false, ◌&&◌}
use mathlib.Core.List.{List, [], ◌∷◌}
use mathlib.Core.Logic.{◌≢◌, ⊎_elim}
use native.Mathlib.Nat.{eq-or-lt_of_le, le_of_suc-le-suc}
use native.Mathlib.Omega.{arith}
use lib.ListN.{get_or, set}
use lib.Seq.{get_or-set_other}
use borrow.Author.Tests.{ltb-true, leb-true, eqb-true, lt-ltb, le-leb}
use Rattle.state.specs.Held.{Held, Whole, Limbs, low_of, high_of, held_of, kept, waits}
use Rattle.state.specs.declared.registers.Registers.{Registers}
use Rattle.state.specs.Registers.{holds, noted, place, put, normalise}
use Rattle.state.specs.Formed.{limbs_fit, is_zero, register_fits, zero_fits, all_below, well_formed}
use Rattle.state.proofs.Normal.{settled-whole, whole-limbs, held_kept}
use Rattle.agreement.specs.Keeping.{SmallLimbs}

-- `well_formed` in facts: "R0 is whole, zero, bound 0", bounds at most 64, and "Accumulated limbs are below 2^30" (a whole register's always)
pub record Formed (R : Registers) : Type 0 where
  pub zero-whole : holds R 0 ≡ Whole 0
  pub zero-bound : noted R 0 ≡ 0
  pub bounded : (n : ℕ) → noted R n ≤ 64
  pub small : SmallLimbs R

pub both_true : (a b : Bool) → (a && b) ≡ true → (a ≡ true) × (b ≡ true)
both_true true b e = (refl, e)
both_true false b e = (e, cc)

-- a test at each number below n
all-at : (p : ℕ → Bool) (n i : ℕ) → all_below p n ≡ true → i < n → p i ≡ true
unfolding all_below
all-at p zero i e h = absurd (omega arith)
all-at p (suc n) i e h =
    let t = both_true (p n) (all_below p n) e in
    ⊎_elim (λ (q : i ≡ n). rw q t.0) (λ (l : i < n). all-at p n i t.1 l) (eq-or-lt_of_le (le_of_suc-le-suc h))

pub all_from : (p : ℕ → Bool) (n : ℕ) → ((i : ℕ) → p i ≡ true) → all_below p n ≡ true
unfolding all_below
all_from p zero f = refl
all_from p (suc n) f = rw (f n, all_from p n f)

Small : Held → Type 0
Small h = (low_of h < 2 ^ 30) × (high_of h < 2 ^ 30)

whole-small : (n : ℕ) → Small (Whole n)
unfolding Small
whole-small n = let t = whole-limbs n in omega arith

fit_small : (h : Held) → limbs_fit h ≡ true → Small h
unfolding limbs_fit low_of high_of Small
fit_small (Whole n) e = whole-small n
fit_small (Limbs low high) e = let t = both_true _ _ e in (ltb-true _ _ t.0, ltb-true _ _ t.1)

small-fits : (h : Held) → Small h → limbs_fit h ≡ true
unfolding limbs_fit low_of high_of Small
small-fits (Whole n) s = refl
small-fits (Limbs low high) s = rw (lt-ltb low (2 ^ 30) s.0, lt-ltb high (2 ^ 30) s.1)

zero_held : (h : Held) → is_zero h ≡ true → h ≡ Whole 0
unfolding is_zero
zero_held (Whole n) e = ap Whole (eqb-true n 0 e)
zero_held (Limbs low high) e = cc

-- registers are numbered modulo 16
fits-at : (R : Registers) → all_below (register_fits R) 16 ≡ true → (n : ℕ) → (noted R n ≤ 64) × Small (holds R n)
unfolding register_fits
fits-at R e n =
    let same : n % 16 % 16 ≡ n % 16 = omega arith in
    let t = both_true _ _ (rw same at (all-at (register_fits R) 16 (n % 16) e (omega arith))) in
    (leb-true _ _ t.0, fit_small _ t.1)

pub formed : (R : Registers) → well_formed R ≡ true → Formed R
unfolding well_formed zero_fits Small
formed R e =
    let t = both_true _ _ e in
    let z = both_true _ _ t.0 in
    record {
      zero-whole = zero_held _ z.0;
      zero-bound = eqb-true _ 0 z.1;
      bounded = λ n. (fits-at R t.1 n).0;
      small = λ n. (fits-at R t.1 n).1;
    }

pub well-formed : (R : Registers) → Formed R → well_formed R ≡ true
unfolding well_formed zero_fits register_fits is_zero Small
well-formed R f =
    rw (f.zero-whole, f.zero-bound)
    (all_from (register_fits R) 16 (λ n. rw (le-leb (noted R n) 64 (f.bounded n)) (small-fits (holds R n) (f.small n))))

-- a write keeps what holds of each number, whatever the list's length
pub set_keeps : (P : ℕ → Type 0) (l : List ℕ) (k v j : ℕ) → P v → P (get_or l j 0) → P (get_or (set l k v) j 0)
set_keeps P [] k v j p h = h
set_keeps P (x ∷ l) zero v zero p h = p
set_keeps P (x ∷ l) zero v (suc j) p h = h
set_keeps P (x ∷ l) (suc k) v zero p h = h
set_keeps P (x ∷ l) (suc k) v (suc j) p h = set_keeps P l k v j p h

nothing-small : (f : Bool) → Small (held_of f 0)
unfolding held_of limbs_fit
nothing-small true = fit_small (Limbs 0 0) refl
nothing-small false = whole-small 0

small-set : (vs : List ℕ) (fs : List Bool) (k v : ℕ) (f : Bool) (j : ℕ) → Small (held_of f v)
    → Small (held_of (get_or fs j false) (get_or vs j 0)) → Small (held_of (get_or (set fs k f) j false) (get_or (set vs k v) j 0))
unfolding held_of
small-set [] fs k v f j p h = nothing-small (get_or (set fs k f) j false)
small-set (x ∷ vs) [] k v f j p h = whole-small _
small-set (x ∷ vs) (g ∷ fs) zero v f zero p h = p
small-set (x ∷ vs) (g ∷ fs) zero v f (suc j) p h = h
small-set (x ∷ vs) (g ∷ fs) (suc k) v f zero p h = h
small-set (x ∷ vs) (g ∷ fs) (suc k) v f (suc j) p h = small-set vs fs k v f j p h

formed-place : (k v : ℕ) (f : Bool) (b : ℕ) (R : Registers) → Small (held_of f v) → b ≤ 64 → Formed R → Formed (place k v f b R)
unfolding place Small
formed-place zero v f b R s l h = h
formed-place (suc k) v f b R s l h =
    let z : 0 ≢ suc k = omega arith in
    record {
      zero-whole = rw (get_or-set_other R.accumulated (suc k) 0 f false z, get_or-set_other R.values (suc k) 0 v 0 z) h.zero-whole;
      zero-bound = rw (get_or-set_other R.bounds (suc k) 0 b 0 z) h.zero-bound;
      bounded = λ n. set_keeps (λ n. n ≤ 64) R.bounds (suc k) b (n % 16) l (h.bounded n);
      small = λ n. small-set R.values R.accumulated (suc k) v f (n % 16) s (h.small n);
    }

pub formed-put : (R : Registers) (rd : ℕ) (x : Held) (b : ℕ) → (low_of x < 2 ^ 30) × (high_of x < 2 ^ 30) → b ≤ 64 → Formed R → Formed (put R rd x b)
unfolding Small
formed-put R rd x b s l h = formed-place (rd % 16) (kept x) (waits x) b R (rw (held_kept x s.0) s) l h

pub formed-whole : (R : Registers) (rd v b : ℕ) → b ≤ 64 → Formed R → Formed (put R rd (Whole v) b)
unfolding Small
formed-whole R rd v b l h = formed-put R rd (Whole v) b (whole-small v) l h

pub formed-normalise : (n : ℕ) (R : Registers) → Formed R → Formed (normalise n R)
unfolding normalise
formed-normalise n R h = rw (settled-whole (holds R n)) (formed-whole R n _ _ (h.bounded n) h)
