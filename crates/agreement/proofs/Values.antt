-- Limbs as they are kept, and the values of their sums and differences, modulo 2^40.
use Prim.Native.Nat.{ℕ, ◌+◌, ◌-◌, ◌*◌, ◌%◌, ◌^◌, ◌≤◌, ◌<◌}
use mathlib.Core.Path.{◌≡◌}
use mathlib.Core.Bool.{Bool, true, false}
use native.Mathlib.Omega.{arith}
use Rattle.value.specs.Forty.{add40, sub40}
use Rattle.state.specs.Held.{Held, Whole, Limbs, low_of, high_of, value_of, settled, held_of}
use Rattle.state.proofs.Normal.{settled-whole, whole-limbs}
use Rattle.deferred.specs.Limbs.{sum_of}

-- as a register is kept, its low limb is below 2^30
pub low_small : (f : Bool) (v : ℕ) → low_of (held_of f v) < 2 ^ 30
unfolding low_of held_of
low_small true v = omega arith
low_small false v = omega arith

limbs-value : (h : Held) → (low_of h + 2 ^ 20 * high_of h) % 2 ^ 40 ≡ value_of h % 2 ^ 40
unfolding low_of high_of value_of
limbs-value (Whole n) = omega arith
limbs-value (Limbs low high) = omega arith

pub sum-value : (x y : Held) → value_of (sum_of x y) ≡ add40 (value_of x) (value_of y)
unfolding value_of
sum-value x y = omega (arith, limbs-value x, limbs-value y)

-- the sum of settled limbs: the same value, and limbs far below 2^30
settled-value : (h : Held) → value_of (settled h) ≡ value_of h
unfolding value_of
settled-value h = rw (settled-whole h)

pub settled-sum-value : (x y : Held) → value_of (sum_of (settled x) (settled y)) ≡ add40 (value_of x) (value_of y)
settled-sum-value x y = rw (sum-value (settled x) (settled y), settled-value x, settled-value y)

pub settled-sum : (x y : Held) → (low_of (settled x) + low_of (settled y) < 2 ^ 30) × (high_of (settled x) + high_of (settled y) < 2 ^ 30)
settled-sum x y =
    let p = whole-limbs (value_of x) in
    let q = whole-limbs (value_of y) in
    rw (settled-whole x, settled-whole y) (omega arith)

-- D is what is left of X after Y
left : (D X Y x y : ℕ) → D + Y ≡ X → X % 2 ^ 40 ≡ x % 2 ^ 40 → Y % 2 ^ 40 ≡ y % 2 ^ 40 → D % 2 ^ 40 ≡ sub40 x y
left D X Y x y e p q =
    let k : x % 2 ^ 40 + (2 ^ 40 - y % 2 ^ 40) + y % 2 ^ 40 ≡ x % 2 ^ 40 + 2 ^ 40 = omega arith in
    omega arith

pub difference-value : (x y : Held) → low_of y ≤ low_of x → high_of y ≤ high_of x
    → value_of (Limbs (low_of x - low_of y) (high_of x - high_of y)) ≡ sub40 (value_of x) (value_of y)
unfolding value_of
difference-value x y p q =
    left _ (low_of x + 2 ^ 20 * high_of x) (low_of y + 2 ^ 20 * high_of y) (value_of x) (value_of y) (omega arith) (limbs-value x) (limbs-value y)
