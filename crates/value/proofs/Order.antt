-- The order of signed readings is that of the numbers with half of the range added, modulo the range: over the width.
use Rattle.std.proofs.Common.{◌≡◌, ℕ, suc, ◌+◌, ◌-◌, ◌%◌, ◌^◌, ◌<◌, ◌≤◌, Bool, true, false, ltb, ◌⊎◌, sym, refl, ◌∙◌, inl, inr, mod-eq_of_lt, arith, ltb-false, ltb-true, le-ltb, lt-ltb}
use native.Mathlib.Nat.{mod-eq-sub-mod}
use lib.Signed.{lt_z}
use Rattle.encoding.specs.Fields.{signed_of}
use Rattle.encoding.proofs.Signs.{read_low, read-high}

pub side : (x m : ℕ) → (x < m) ⊎ (m ≤ x)
side x m = by (ltb x m) refl
  where
    by : (t : Bool) → ltb x m ≡ t → (x < m) ⊎ (m ≤ x)
    by true e = inl (ltb-true x m e)
    by false e = inr (ltb-false x m e)

lift-low : (h x : ℕ) → x < 2 ^ h → (x + 2 ^ h) % 2 ^ suc h ≡ x + 2 ^ h
lift-low h x l = mod-eq_of_lt (omega arith)

lift-high : (h x : ℕ) → 2 ^ h ≤ x → x < 2 ^ suc h → (x + 2 ^ h) % 2 ^ suc h ≡ x - 2 ^ h
lift-high h x g l =
    mod-eq-sub-mod {n = x + 2 ^ h} {m = 2 ^ suc h} (omega arith) ∙ mod-eq_of_lt {n = x + 2 ^ h - 2 ^ suc h} (omega arith) ∙ omega arith

same : (a b c d : ℕ) → (a < b → c < d) → (b ≤ a → d ≤ c) → ltb a b ≡ ltb c d
same a b c d f g = by (side a b)
  where
    by : (a < b) ⊎ (b ≤ a) → ltb a b ≡ ltb c d
    by (inl l) = lt-ltb a b l ∙ sym (lt-ltb c d (f l))
    by (inr l) = le-ltb a b l ∙ sym (le-ltb c d (g l))

pub order : (h x y : ℕ) → x < 2 ^ suc h → y < 2 ^ suc h
    → lt_z (signed_of h x) (signed_of h y) ≡ ltb ((x + 2 ^ h) % 2 ^ suc h) ((y + 2 ^ h) % 2 ^ suc h)
order h x y hx hy = by (side x (2 ^ h)) (side y (2 ^ h))
  where
    by : (x < 2 ^ h) ⊎ (2 ^ h ≤ x) → (y < 2 ^ h) ⊎ (2 ^ h ≤ y)
        → lt_z (signed_of h x) (signed_of h y) ≡ ltb ((x + 2 ^ h) % 2 ^ suc h) ((y + 2 ^ h) % 2 ^ suc h)
    by (inl p) (inl q) =
        rw (read_low h x p, read_low h y q, lift-low h x p, lift-low h y q)
        (same x y (x + 2 ^ h) (y + 2 ^ h) (λ e. omega arith) (λ e. omega arith))
    by (inl p) (inr q) =
        rw (read_low h x p, read-high h y q hy, lift-low h x p, lift-high h y q hy)
        (sym (le-ltb (x + 2 ^ h) (y - 2 ^ h) (omega arith)))
    by (inr p) (inl q) =
        rw (read-high h x p hx, read_low h y q, lift-high h x p hx, lift-low h y q)
        (sym (lt-ltb (x - 2 ^ h) (y + 2 ^ h) (omega arith)))
    by (inr p) (inr q) =
        rw (read-high h x p hx, read-high h y q hy, lift-high h x p hx, lift-high h y q hy)
        (same (2 ^ suc h - suc y) (2 ^ suc h - suc x) (x - 2 ^ h) (y - 2 ^ h) (λ e. omega arith) (λ e. omega arith))
