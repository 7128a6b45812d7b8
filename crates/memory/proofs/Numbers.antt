-- The laws of a number's bytes, over the size: one more byte read, one more byte stored, and that n bytes are below 256 ^ n.
use Prim.Native.Nat.{ℕ, zero, suc, ◌+◌, ◌-◌, ◌*◌, ◌/◌, ◌%◌, ◌^◌, ◌<◌, ◌≤◌, min}
use mathlib.Core.Path.{◌≡◌, refl, ap, ◌∙◌}
use mathlib.Core.List.{List, [], ◌∷◌, ◌++◌, append_assoc}
use native.Mathlib.Omega.{arith}
use native.Mathlib.Nat.{pow-suc, pow-le-pow_right, zero-min, min-zero, suc-min-suc}
use lib.ListN.{length, take, drop, get_or, set, length-take, length-drop, length-set}
use lib.Seq.{drop-cons, sets, sets-eq, set_out, take_at, drop_at}
use lib.Dec.{lit<}
use Rattle.memory.specs.Bytes.{number_of_bytes, bytes, number_at, put_at}

-- one more byte read, from the top down
pub read_more : (mem : List ℕ) (at n i : ℕ) → zero < i → i ≤ n → at + n ≤ length mem
    → number_of_bytes (take (n - i) (drop (at + i) mem)) * 256 + get_or mem (at + (i - 1)) 0 ≡ number_of_bytes (take (n - (i - 1)) (drop (at + (i - 1)) mem))
unfolding number_of_bytes
read_more mem at n i p h fits =
    let e : n - (i - 1) ≡ suc (n - i) = omega arith in
    let d : at + i ≡ suc (at + (i - 1)) = omega arith in
    let l : at + (i - 1) < length mem = omega arith in
    rw (e, d, drop-cons mem (at + (i - 1)) 0 l)

-- four bytes read one after another
pub read-four : (mem : List ℕ) (at : ℕ) → at + 4 ≤ length mem
    → get_or mem at 0 + get_or mem (at + 1) 0 * 256 + get_or mem (at + 2) 0 * 65536 + get_or mem (at + 3) 0 * 16777216 ≡ number_at 4 mem at
unfolding number_of_bytes
read-four mem at fits =
    let e : suc at ≡ at + 1 = omega arith in
    let f : suc (at + 1) ≡ at + 2 = omega arith in
    let g : suc (at + 2) ≡ at + 3 = omega arith in
    let d0 : drop at mem ≡ get_or mem at 0 ∷ drop (at + 1) mem = rw (← e) (drop-cons mem at 0 (omega arith)) in
    let d1 : drop (at + 1) mem ≡ get_or mem (at + 1) 0 ∷ drop (at + 2) mem = rw (← f) (drop-cons mem (at + 1) 0 (omega arith)) in
    let d2 : drop (at + 2) mem ≡ get_or mem (at + 2) 0 ∷ drop (at + 3) mem = rw (← g) (drop-cons mem (at + 2) 0 (omega arith)) in
    let d3 = drop-cons mem (at + 3) 0 (omega arith) in
    rw (d0, d1, d2, d3) (omega arith)

-- one more byte stored, from the bottom up
pub store-more : (mem : List ℕ) (at n i v : ℕ) → i < n
    → sets mem (at + i) (bytes (n - i) v) ≡ sets (set mem (at + i) (v % 256)) (at + (i + 1)) (bytes (n - (i + 1)) (v / 256))
unfolding bytes
store-more mem at n i v h =
    let e : n - i ≡ suc (n - (i + 1)) = omega arith in
    let d : at + (i + 1) ≡ suc (at + i) = omega arith in
    rw (e, d)

-- one more byte keeps below the next power, and up to eight below 2 ^ 64
pub more_lt : (n i v b : ℕ) → zero < i → i ≤ n → v < 256 ^ (n - i) → b < 256 → v * 256 + b < 256 ^ (n - (i - 1))
more_lt n i v b p h hv hb =
    let e : n - (i - 1) ≡ suc (n - i) = omega arith in
    rw (e, pow-suc 256 (n - i)) (omega arith)

pub fits_lt : (n i v b : ℕ) → n ≤ 8 → zero < i → i ≤ n → v < 256 ^ (n - i) → b < 256 → v * 256 + b < 2 ^ 64
fits_lt n i v b n8 p h hv hb =
    let m : v * 256 + b < 256 ^ (n - (i - 1)) = more_lt n i v b p h hv hb in
    let k : n - (i - 1) ≤ 8 = omega arith in
    let q : 256 ^ (n - (i - 1)) ≤ 256 ^ 8 = pow-le-pow_right (lit< tt) k in
    omega arith

-- bytes that are not there: none is read, and none is stored
pub read-there : (n : ℕ) (m : List ℕ) (at : ℕ) → number_at n m at ≡ number_at (min n (length m - at)) m at
read-there n m at = ap number_of_bytes (rw (← length-drop at m) (cut n (drop at m)))
  where
    cut : (n : ℕ) (l : List ℕ) → take n l ≡ take (min n (length l)) l
    cut zero l = rw (zero-min (length l))
    cut (suc n) [] = rw (min-zero (suc n))
    cut (suc n) (b ∷ l) = rw (suc-min-suc n (length l)) (ap (◌∷◌ b) (cut n l))

none-stored : (vs m : List ℕ) (at : ℕ) → length m ≤ at → sets m at vs ≡ m
none-stored [] m at h = refl
none-stored (b ∷ vs) m at h = rw (set_out m at b h) (none-stored vs m (suc at) (omega arith))

pub store-there : (n : ℕ) (m : List ℕ) (at v : ℕ) → put_at n m at v ≡ put_at (min n (length m - at)) m at v
unfolding bytes
store-there zero m at v = rw (zero-min (length m - at))
store-there (suc n) m at v = go (store-there n (set m at (v % 256)) (suc at) (v / 256)) (length m - at) refl
  where
    go : put_at n (set m at (v % 256)) (suc at) (v / 256) ≡ put_at (min n (length (set m at (v % 256)) - suc at)) (set m at (v % 256)) (suc at) (v / 256)
        → (room : ℕ) → length m - at ≡ room
        → put_at (suc n) m at v ≡ put_at (min (suc n) (length m - at)) m at v
    go more zero e =
        let none : min (suc n) (length m - at) ≡ 0 = omega arith in
        rw none (none-stored (bytes (suc n) v) m at (omega arith))
    go more (suc room) e =
        let one : min (suc n) (length m - at) ≡ suc (min n (length m - suc at)) = omega arith in
        rw one (more ∙ rw length-set)

-- what was stored is read back
pub length-bytes : (n v : ℕ) → length (bytes n v) ≡ n
unfolding bytes
length-bytes zero v = refl
length-bytes (suc n) v = ap suc (length-bytes n (v / 256))

pub number-bytes : (n v : ℕ) → v < 256 ^ n → number_of_bytes (bytes n v) ≡ v
unfolding number_of_bytes bytes
number-bytes zero v h =
    let none : v < 1 = h in
    omega arith
number-bytes (suc n) v h =
    let small : v < 256 ^ n * 256 = rw pow-suc at h in
    rw (number-bytes n (v / 256) (omega arith)) (omega arith)

pub read-stored : (n : ℕ) (m : List ℕ) (at v : ℕ) → at + n ≤ length m → v < 256 ^ n → number_at n (put_at n m at v) at ≡ v
read-stored n m at v fits small =
    let room : at + length (bytes n v) ≤ length m = rw length-bytes fits in
    let before : length (take at m) ≡ at = simp length-take (omega arith) in
    let after = drop (at + length (bytes n v)) m in
    rw (sets-eq (bytes n v) m at room, append_assoc, drop_at (take at m) (bytes n v ++ after) at before, take_at (bytes n v) after n (length-bytes n v))
    (number-bytes n v small)

-- what a slice of bytes is
abbrev pub Small : List ℕ → Type 0
Small b = (k : ℕ) → get_or b k 0 < 256

-- the number of some bytes, written
pub bytes-number : (n : ℕ) (b : List ℕ) → Small b → n ≤ length b → bytes n (number_of_bytes (take n b)) ≡ take n b
unfolding bytes number_of_bytes
bytes-number zero b small h = refl
bytes-number (suc n) [] small h = absurd (omega arith)
bytes-number (suc n) (x ∷ b) small h =
    let low : (number_of_bytes (take n b) * 256 + x) % 256 ≡ x = omega (arith, small 0) in
    let rest : (number_of_bytes (take n b) * 256 + x) / 256 ≡ number_of_bytes (take n b) = omega (arith, small 0) in
    rw (low, rest, bytes-number n b (λ k. small (suc k)) (omega arith))
