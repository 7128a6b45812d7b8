-- Sign extension to 64 bits and back, once over the width.
use mathlib.Core.Path.{◌≡◌, refl, sym, ap, ◌∙◌}
use mathlib.Core.Bool.{Bool, true, false, ◌&&◌, ◌||◌}
use mathlib.Core.Logic.{◌⊎◌, inl, inr}
use Prim.Native.Nat.{ℕ, suc, ◌+◌, ◌-◌, ◌*◌, ◌%◌, ◌^◌, ◌≤◌, ◌<◌}
use native.Mathlib.Omega.{arith}
use native.Mathlib.Nat.{mod-eq_of_lt, sub-add_cancel}
use borrow.Author.Tests.{lt-ltb, le-ltb, lt-leb, le-leb, ltb-true, ltb-false, leb-true}
use lib.Dec.{ltb, leb}
use lib.Pow.{pow_mono, pow-add, low, suc_ones}
use Rattle.encoding.specs.Fields.{extended, within, fits_in}
use Rattle.encoding.proofs.Signs.{read_low, read-high}

pub extended-low : (h x : ℕ) → suc h ≤ 64 → x < 2 ^ h → extended h x ≡ x
unfolding extended
extended-low h x fit l = rw (read_low h x l)

pub extended-high : (h x : ℕ) → suc h ≤ 64 → 2 ^ h ≤ x → x < 2 ^ suc h → extended h x ≡ x + (2 ^ 64 - 2 ^ suc h)
unfolding extended
extended-high h x fit g l = rw (read-high h x g l) (omega (arith, pow_mono fit))

-- the cases of a width: bit h clear or set, and for what fits in suc h bits
side : (x m : ℕ) → (x < m) ⊎ (m ≤ x)
side x m = by (ltb x m) refl
  where
    by : (t : Bool) → ltb x m ≡ t → (x < m) ⊎ (m ≤ x)
    by true e = inl (ltb-true x m e)
    by false e = inr (ltb-false x m e)

pub fits-means : (h i : ℕ) → fits_in h i ≡ true → (i < 2 ^ h) ⊎ ((2 ^ 64 - 2 ^ h ≤ i) × (i < 2 ^ 64))
unfolding fits_in
fits-means h i f = by (ltb i (2 ^ h)) refl (leb (2 ^ 64 - 2 ^ h) i) refl f
  where
    by : (t : Bool) → ltb i (2 ^ h) ≡ t → (u : Bool) → leb (2 ^ 64 - 2 ^ h) i ≡ u → t || (u && leb i (2 ^ 64 - 1)) ≡ true
        → (i < 2 ^ h) ⊎ ((2 ^ 64 - 2 ^ h ≤ i) × (i < 2 ^ 64))
    by true e u g f = inl (ltb-true _ _ e)
    by false e true g f = let l = leb-true i (2 ^ 64 - 1) f in inr (leb-true _ _ g, omega arith)
    by false e false g f = let z : ◌≡◌ {A = ℕ} 0 1 = cc in absurd (omega arith)

module _ (h : ℕ) (fit : suc h ≤ 64) where
  whole : suc (2 ^ (64 - suc h) - 1) * 2 ^ suc h ≡ 2 ^ 64
  whole = rw (suc_ones (64 - suc h)) (sym (pow-add 2 (64 - suc h) (suc h)) ∙ ap (λ (k : ℕ). 2 ^ k) (sub-add_cancel fit))

  -- the low bits of what bits above them extend
  cut : (x : ℕ) → x < 2 ^ suc h → (x + (2 ^ 64 - 2 ^ suc h)) % 2 ^ suc h ≡ x
  cut x l = ap (λ (y : ℕ). y % 2 ^ suc h) (omega (arith, whole)) ∙ low (2 ^ (64 - suc h) - 1) (suc h) {lo = x} l

  pub extended-cut : (x : ℕ) → x < 2 ^ suc h → extended h x % 2 ^ suc h ≡ x
  extended-cut x l = go (side x (2 ^ h))
    where
      go : (x < 2 ^ h) ⊎ (2 ^ h ≤ x) → extended h x % 2 ^ suc h ≡ x
      go (inl p) = rw (extended-low h x fit p) (mod-eq_of_lt l)
      go (inr p) = rw (extended-high h x fit p l) (cut x l)

  pub extended_fits : (x : ℕ) → x < 2 ^ suc h → fits_in h (extended h x) ≡ true
  unfolding fits_in
  extended_fits x l = go (side x (2 ^ h))
    where
      go : (x < 2 ^ h) ⊎ (2 ^ h ≤ x) → ltb (extended h x) (2 ^ h) || within (2 ^ 64 - 2 ^ h) (2 ^ 64 - 1) (extended h x) ≡ true
      go (inl p) = rw (extended-low h x fit p, lt-ltb x (2 ^ h) p)
      go (inr p) =
          rw (extended-high h x fit p l, le-ltb (x + (2 ^ 64 - 2 ^ suc h)) (2 ^ h) (omega (arith, pow_mono fit)))
          (rw (le-leb (2 ^ 64 - 2 ^ h) (x + (2 ^ 64 - 2 ^ suc h)) (omega (arith, pow_mono fit)))
          (le-leb (x + (2 ^ 64 - 2 ^ suc h)) (2 ^ 64 - 1) (omega (arith, pow_mono fit))))

  -- a number that fits is extended from its own low bits
  pub cut-extended : (i : ℕ) → fits_in h i ≡ true → extended h (i % 2 ^ suc h) ≡ i
  cut-extended i f = go (fits-means h i f)
    where
      go : (i < 2 ^ h) ⊎ ((2 ^ 64 - 2 ^ h ≤ i) × (i < 2 ^ 64)) → extended h (i % 2 ^ suc h) ≡ i
      go (inl p) = rw (mod-eq_of_lt {n = i} {m = 2 ^ suc h} (omega arith)) (extended-low h i fit p)
      go (inr p) =
          let x : ℕ = i - (2 ^ 64 - 2 ^ suc h) in
          let e : i ≡ x + (2 ^ 64 - 2 ^ suc h) = omega (arith, pow_mono fit) in
          let l : x < 2 ^ suc h = omega (arith, pow_mono fit) in
          ap (λ (y : ℕ). extended h (y % 2 ^ suc h)) e
          ∙ ap (extended h) (cut x l) ∙ extended-high h x fit (omega (arith, pow_mono fit)) l ∙ sym e

  -- one sum and one comparison decide whether a number fits
  pub fits-test : (i : ℕ) → i < 2 ^ 64 → ltb ((i + 2 ^ h) % 2 ^ 64) (2 ^ suc h) ≡ fits_in h i
  unfolding fits_in
  fits-test i b = go (side i (2 ^ h)) (side i (2 ^ 64 - 2 ^ h))
    where
      go : (i < 2 ^ h) ⊎ (2 ^ h ≤ i) → (i < 2 ^ 64 - 2 ^ h) ⊎ (2 ^ 64 - 2 ^ h ≤ i)
          → ltb ((i + 2 ^ h) % 2 ^ 64) (2 ^ suc h) ≡ ltb i (2 ^ h) || within (2 ^ 64 - 2 ^ h) (2 ^ 64 - 1) i
      go (inl p) q = rw (lt-ltb i (2 ^ h) p, lt-ltb ((i + 2 ^ h) % 2 ^ 64) (2 ^ suc h) (omega (arith, pow_mono fit)))
      go (inr p) (inl q) =
          rw (le-ltb i (2 ^ h) p, lt-leb (2 ^ 64 - 2 ^ h) i q)
          (le-ltb ((i + 2 ^ h) % 2 ^ 64) (2 ^ suc h) (omega (arith, pow_mono fit)))
      go (inr p) (inr q) =
          rw (le-ltb i (2 ^ h) p, le-leb (2 ^ 64 - 2 ^ h) i q, le-leb i (2 ^ 64 - 1) (omega arith))
          (lt-ltb ((i + 2 ^ h) % 2 ^ 64) (2 ^ suc h) (omega (arith, pow_mono fit)))
