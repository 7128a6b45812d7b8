-- A name of seven bytes or fewer is the only one with its key. Assumes nothing.
use Rattle.std.proofs.lemmas.Bool.{and_parts}
use Rattle.std.proofs.lemmas.List.{append-nil}
use Rattle.std.proofs.Common.{◌≡◌, ℕ, zero, suc, ◌+◌, ◌*◌, ◌/◌, ◌%◌, ◌^◌, ◌<◌, ◌≤◌, true, List, [], ◌∷◌, ◌++◌, length, sym, refl, ap, ◌∙◌, mod-lt, mod-eq_of_lt, mul_assoc, pow-suc, div-add-mod', arith}
use native.Mathlib.Nat.{zero-mod, mul-add-mod_self_right}
use Rattle.memory.specs.Bytes.{number_of_bytes}
use Rattle.labels.specs.Bytes.{is_part, every, key_from, key_of}
use Rattle.labels.proofs.Classes.{part-bounds}

-- the bytes the other way round, before others
abbrev pub turned : List ℕ → List ℕ → List ℕ
turned [] r = r
turned (b ∷ t) r = turned t (b ∷ r)

turned-twice : (t r u : List ℕ) → turned (turned t r) u ≡ turned r (t ++ u)
turned-twice [] r u = refl
turned-twice (b ∷ t) r u = turned-twice t (b ∷ r) u

turned-every : (t r : List ℕ) → every is_part t ≡ true → every is_part r ≡ true → every is_part (turned t r) ≡ true
unfolding every
turned-every [] r h k = k
turned-every (b ∷ t) r h k = let i = and_parts (is_part b) (every is_part t) h in turned-every t (b ∷ r) i.1 (simp (i.0, k))

key-turned : (t r : List ℕ) → every is_part t ≡ true → key_from (number_of_bytes r % 2 ^ 64) t ≡ number_of_bytes (turned t r) % 2 ^ 64
unfolding every key_from number_of_bytes
key-turned [] r h = refl
key-turned (b ∷ t) r h =
    let i = and_parts (is_part b) (every is_part t) h in
    let l = part-bounds b i.0 in
    let e : number_of_bytes r % 2 ^ 64 % 2 ^ 56 * 256 + b ≡ (number_of_bytes r * 256 + b) % 2 ^ 64 = omega arith in
    ap (λ (v : ℕ). key_from v t) e ∙ key-turned t (b ∷ r) i.1

lowest-out : (m q b : ℕ) → b < 256 → 0 < q → (m * 256 + b) % (q * 256) ≡ m % q * 256 + b
lowest-out m q b h p =
    let l : m % q < q = mod-lt m p in
    let e : m * 256 + b ≡ m / q * (q * 256) + (m % q * 256 + b) = omega (arith, div-add-mod' m q, mul_assoc (m / q) q 256) in
    ap (λ (n : ℕ). n % (q * 256)) e ∙ mul-add-mod_self_right (m / q) (q * 256) (m % q * 256 + b) ∙ mod-eq_of_lt (omega arith)

some : (k : ℕ) → 0 < 256 ^ k
some zero = omega arith
some (suc k) = let p = some k in rw pow-suc (omega arith)

lowest-seen : (m k b : ℕ) → b < 256 → (m * 256 + b) % 256 ^ suc k ≡ m % 256 ^ k * 256 + b
lowest-seen m k b h = ap (λ (q : ℕ). (m * 256 + b) % q) (pow-suc 256 k) ∙ lowest-out m (256 ^ k) b h (some k)

-- of a longer name k + 1 bytes are seen, none of them 0
same_low : (k : ℕ) (t u : List ℕ) → every is_part t ≡ true → every is_part u ≡ true → length u ≤ k → number_of_bytes t % 256 ^ suc k ≡ number_of_bytes u % 256 ^ suc k → t ≡ u
unfolding every number_of_bytes
same_low k [] [] h i l e = refl
same_low k [] (c ∷ u) h i l e =
    let b = part-bounds c (and_parts (is_part c) (every is_part u) i).0 in
    absurd (omega (arith, zero-mod (256 ^ suc k), e, lowest-seen (number_of_bytes u) k c b.1))
same_low k (c ∷ t) [] h i l e =
    let b = part-bounds c (and_parts (is_part c) (every is_part t) h).0 in
    absurd (omega (arith, zero-mod (256 ^ suc k), e, lowest-seen (number_of_bytes t) k c b.1))
same_low zero (c ∷ t) (d ∷ u) h i l e = absurd (omega arith)
same_low (suc k) (c ∷ t) (d ∷ u) h i l e =
    let x = and_parts (is_part c) (every is_part t) h in
    let y = and_parts (is_part d) (every is_part u) i in
    let a = part-bounds c x.0 in
    let b = part-bounds d y.0 in
    let q : number_of_bytes t % 256 ^ suc k * 256 + c ≡ number_of_bytes u % 256 ^ suc k * 256 + d = sym (lowest-seen (number_of_bytes t) (suc k) c a.1) ∙ e ∙ lowest-seen (number_of_bytes u) (suc k) d b.1 in
    let s : c ≡ d = omega (arith, q) in
    let r : number_of_bytes t % 256 ^ suc k ≡ number_of_bytes u % 256 ^ suc k = omega (arith, q) in
    ap (◌∷ t) s ∙ ap (d ∷◌) (same_low k t u x.1 y.1 (omega arith) r)

pub one_key : (t u : List ℕ) → every is_part t ≡ true → every is_part u ≡ true → length (turned u []) ≤ 7 → key_of t ≡ key_of u → t ≡ u
unfolding every number_of_bytes
one_key t u h i l e =
    let n : number_of_bytes (turned t []) % 2 ^ 64 ≡ number_of_bytes (turned u []) % 2 ^ 64 = sym (key-turned t [] h) ∙ e ∙ key-turned u [] i in
    let s = same_low 7 (turned t []) (turned u []) (turned-every t [] h refl) (turned-every u [] i refl) l n in
    sym (append-nil t) ∙ sym (turned-twice t [] []) ∙ ap (λ (x : List ℕ). turned x []) s ∙ turned-twice u [] [] ∙ append-nil u
