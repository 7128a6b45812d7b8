-- Numbers in bytes, one after another, over the size.
use Prim.Native.Nat.{ℕ, zero, suc, ◌+◌, ◌*◌, ◌/◌, ◌%◌, ◌^◌, ◌<◌, ◌≤◌}
use mathlib.Core.Path.{◌≡◌, refl}
use mathlib.Core.Bool.{Bool, true, false, ◌&&◌}
use mathlib.Core.List.{List, [], ◌∷◌, ◌++◌}
use native.Mathlib.Nat.{pow-suc}
use native.Mathlib.Omega.{arith}
use lib.Dec.{ltb, leb, eqb, lit<}
use borrow.Author.Tests.{lt-ltb, le-ltb, leb-true, leb-false, eqb-true, eqb-false}
use lib.ListN.{length, take, drop, length-drop, take-append-drop}
use lib.Seq.{sets, drop-drop, get_or-drop}
use Rattle.memory.specs.Bytes.{number_of_bytes, bytes, number_at, put_at}
use Rattle.memory.proofs.Numbers.{Small, length-bytes, bytes-number}
use Rattle.layout.proofs.Rows.{sets-next}

-- a number stored, and what follows it
pub stored_next : (n v : ℕ) (l : List ℕ) (at next : ℕ) (ys : List ℕ) → at + n ≡ next → sets (put_at n l at v) next ys ≡ sets l at (bytes n v ++ ys)
stored_next n v l at next ys e = sets-next l at next (bytes n v) ys (rw length-bytes e)

-- a number read and written, and what follows it
pub read_next : (n : ℕ) (b : List ℕ) (at next : ℕ) {v : ℕ} → Small b → at + n ≡ next → next ≤ length b → v ≡ number_at n b at → bytes n v ++ drop next b ≡ drop at b
read_next n b at next small e fits read =
    let room : n ≤ length (drop at b) = simp length-drop (omega arith) in
    rw (read, bytes-number n (drop at b) (λ k. rw get_or-drop (small (at + k))) room, ← e, ← drop-drop n at b) (take-append-drop n (drop at b))

-- a number of one byte more: its lowest byte, and the number of those above it
one_more : (n : ℕ) (b : List ℕ) (at : ℕ) → number_at (suc n) b at ≡ number_at n b (at + 1) * 256 + number_at 1 b at
unfolding number_of_bytes
one_more n b at = rw (← drop-drop 1 at b) (by (drop at b))
  where
    none : (n : ℕ) → number_of_bytes (take n []) ≡ 0
    none zero = refl
    none (suc n) = refl

    by : (l : List ℕ) → number_of_bytes (take (suc n) l) ≡ number_of_bytes (take n (drop 1 l)) * 256 + number_of_bytes (take 1 l)
    by [] = rw (none n)
    by (x ∷ l) = omega arith

-- n bytes are below 256 ^ n
pub number-below : (n : ℕ) (b : List ℕ) (at : ℕ) → Small b → number_at n b at < 256 ^ n
unfolding number_of_bytes
number-below n b at small = by n (drop at b) (λ k. rw get_or-drop (small (at + k)))
  where
    by : (n : ℕ) (l : List ℕ) → Small l → number_of_bytes (take n l) < 256 ^ n
    by zero l low = lit< tt
    by (suc n) [] low = rw (pow-suc 256 n) (omega (arith, by n [] low))
    by (suc n) (x ∷ l) low = rw (pow-suc 256 n) (omega (arith, low 0, by n l (λ k. low (suc k))))

-- kind, bound and zeros in one number of eight bytes
pub head_apart : (b : List ℕ) (at : ℕ) → Small b
    → (number_at 8 b at % 2 ^ 8 ≡ number_at 1 b at) × (number_at 8 b at / 2 ^ 8 % 2 ^ 8 ≡ number_at 1 b (at + 1)) × (number_at 8 b at / 2 ^ 16 ≡ number_at 6 b (at + 2))
head_apart b at small =
    let e : at + 1 + 1 ≡ at + 2 = omega arith in
    let above : number_at 7 b (at + 1) ≡ number_at 6 b (at + 2) * 256 + number_at 1 b (at + 1) = rw e at (one_more 6 b (at + 1)) in
    let whole = one_more 7 b at in
    let kind = number-below 1 b at small in
    let bound = number-below 1 b (at + 1) small in
    (omega arith, omega arith, omega arith)

-- the mark and its zeros are as laid down if they are a number below 2
pub mark-laid : (b : List ℕ) → Small b → ltb (number_at 8 b 8) 2 ≡ (leb (number_at 1 b 8) 1 && eqb (number_at 7 b 9) 0)
mark-laid b small = by (leb (number_at 1 b 8) 1) refl (eqb (number_at 7 b 9) 0) refl
  where
    is : number_at 8 b 8 ≡ number_at 7 b 9 * 256 + number_at 1 b 8
    is = one_more 7 b 8

    by : (t : Bool) → leb (number_at 1 b 8) 1 ≡ t → (u : Bool) → eqb (number_at 7 b 9) 0 ≡ u → ltb (number_at 8 b 8) 2 ≡ (t && u)
    by true e true f = lt-ltb (number_at 8 b 8) 2 (omega (arith, is, leb-true (number_at 1 b 8) 1 e, eqb-true (number_at 7 b 9) 0 f))
    by true e false f = le-ltb (number_at 8 b 8) 2 (omega (arith, is, eqb-false (number_at 7 b 9) 0 f))
    by false e u f = le-ltb (number_at 8 b 8) 2 (omega (arith, is, leb-false (number_at 1 b 8) 1 e))
