-- One byte on: what the loops over a text keep. Assumes nothing.
use Rattle.std.proofs.lemmas.Bool.{and_parts}
use mathlib.Core.Path.{◌≡◌, refl, sym, ap, ◌∙◌}
use mathlib.Core.Bool.{Bool, true, false, cond, not, ◌&&◌}
use mathlib.Core.List.{List, [], ◌∷◌}
use Prim.Native.Nat.{ℕ, ◌+◌, ◌-◌, ◌*◌, ◌%◌, ◌^◌, ◌≤◌, ◌<◌}
use native.Mathlib.Omega.{arith}
use lib.Dec.{eqb, leb}
use lib.Seq.{drop-drop}
use lib.ListN.{length, take, drop, length-drop, length-append, get_or-eq_default, drop_of_length-le}
use borrow.Author.Tests.{eq-eqb, ne_eqb, eqb-true, eqb-false, leb-true, leb-false}
use Rattle.std.specs.List.{starts_with, slice_range}
use Rattle.std.proofs.lemmas.List.{take_rest}
use Rattle.labels.specs.Bytes.{is_part, every, head_of, eq_bytes, key_from, key_of}
use Rattle.labels.specs.Reading.{run_of, past, name_at, Passed}
use Rattle.labels.specs.Table.{name_from}
use Rattle.labels.proofs.Spans.{head-drop, tail-drop, inside, past_stop, past-on, run_past, run-stop, run_on}

pub head-end : (s : List ℕ) (n : ℕ) → length s ≤ n → 0 ≡ head_of (drop n s)
head-end s n h = sym (head-drop s n ∙ get_or-eq_default s 0 h)

-- a byte of a class that has no 0 lies within the text
pub class-inside : (p : ℕ → Bool) (s : List ℕ) (n : ℕ) → p 0 ≡ false → p (head_of (drop n s)) ≡ true → n < length s
class-inside p s n z h = inside s n (λ e. let q : true ≡ false = sym h ∙ ap p e ∙ z in cc)

pub record Going (p : ℕ → Bool) (s : List ℕ) (at n : ℕ) : Type 0 where
  pub from : past p (drop at s) ≡ past p (drop n s)
  pub on : at ≤ n
  pub within : at ≤ length s → n ≤ length s
  pub beyond : length s ≤ at → n ≡ at

pub starts : (p : ℕ → Bool) (s : List ℕ) (n : ℕ) → Going p s n n
starts p s n = record { from = refl; on = omega arith; within = λ h. h; beyond = λ h. refl }

pub stops : (p : ℕ → Bool) (s : List ℕ) (at n : ℕ) → Going p s at n → p (head_of (drop n s)) ≡ false → Passed p s at n
stops p s at n g h = record { rest = sym (g.from ∙ past_stop p (drop n s) h); on = g.on; within = g.within; beyond = g.beyond }

pub goes_on : (p : ℕ → Bool) (s : List ℕ) (at n : ℕ) → Going p s at n → p 0 ≡ false → p (head_of (drop n s)) ≡ true → Going p s at (n + 1)
goes_on p s at n g z h =
    let i = class-inside p s n z h in
    record {
      from = g.from ∙ past-on p (drop n s) h ∙ ap (past p) (tail-drop s n);
      on = let o = g.on in omega arith;
      within = λ k. omega arith;
      beyond = λ k. let e = g.beyond k in absurd (omega arith);
    }

-- ---- what is passed over, as a number of bytes
drop-run : (p : ℕ → Bool) (t : List ℕ) → drop (length (run_of p t)) t ≡ past p t
unfolding run_of past
drop-run p [] = refl
drop-run p (b ∷ t) = go (p b) (drop-run p t)
  where
    go : (c : Bool) → drop (length (run_of p t)) t ≡ past p t → drop (length (cond c (b ∷ run_of p t) [])) (b ∷ t) ≡ cond c (past p t) (b ∷ t)
    go true e = e
    go false e = refl

module _ (p : ℕ → Bool) (s : List ℕ) (at r : ℕ) where
  in_all : length (run_of p (drop at s)) + length (past p (drop at s)) ≡ length s - at
  in_all = sym (length-append (run_of p (drop at s)) (past p (drop at s))) ∙ ap length (run_past p (drop at s)) ∙ length-drop at s

  pub passed_over : Passed p s at r → r ≡ at + length (run_of p (drop at s))
  passed_over g = go (leb at (length s)) refl
    where
      left : length s - r ≡ length (past p (drop at s))
      left = sym (length-drop r s) ∙ ap length g.rest

      go : (c : Bool) → leb at (length s) ≡ c → r ≡ at + length (run_of p (drop at s))
      go true e = omega (arith, in_all, left, g.on, g.within (leb-true at (length s) e))
      go false e = let h = leb-false at (length s) e in omega (arith, in_all, g.beyond (omega arith))

  pub passed : r ≡ at + length (run_of p (drop at s)) → Passed p s at r
  passed e =
      record {
        rest = ap (λ (n : ℕ). drop n s) e ∙ sym (drop-drop (length (run_of p (drop at s))) at s) ∙ drop-run p (drop at s);
        on = omega arith;
        within = λ h. omega (arith, in_all);
        beyond = λ h. omega (arith, in_all);
      }

-- ---- a name that is read
key-on : (s : List ℕ) (v n : ℕ) → is_part (head_of (drop n s)) ≡ true → key_from v (name_at s n) ≡ key_from (v % 2 ^ 56 * 256 + head_of (drop n s)) (name_at s (n + 1))
unfolding key_from
key-on s v n h = ap (key_from v) (run_on is_part (drop n s) refl h) ∙ ap (λ (t : List ℕ). key_from (v % 2 ^ 56 * 256 + head_of (drop n s)) (run_of is_part t)) (tail-drop s n)

key-end : (s : List ℕ) (v n : ℕ) → is_part (head_of (drop n s)) ≡ false → key_from v (name_at s n) ≡ v
unfolding key_from
key-end s v n h = ap (key_from v) (run-stop is_part (drop n s) h)

pub record NameRead (s : List ℕ) (at v n : ℕ) : Type 0 where
  pub key : key_of (name_at s at) ≡ key_from v (name_at s n)
  pub to : Going is_part s at n

module _ (s : List ℕ) (at : ℕ) where
  module _ (v n : ℕ) (g : NameRead s at v n) where
    pub name-on : (b : ℕ) → b ≡ head_of (drop n s) → is_part b ≡ true → NameRead s at (v % 2 ^ 56 * 256 + b) (n + 1)
    name-on b e h =
        let i = ap is_part (sym e) ∙ h in
        record {
          key = g.key ∙ key-on s v n i ∙ ap (λ (c : ℕ). key_from (v % 2 ^ 56 * 256 + c) (name_at s (n + 1))) (sym e);
          to = goes_on is_part s at n g.to refl i;
        }

    pub name-ends : (b : ℕ) → b ≡ head_of (drop n s) → is_part b ≡ false → record { key = v; after = n } ≡ name_from s at
    name-ends b e h =
        let i = ap is_part (sym e) ∙ h in
        cc (g.key ∙ key-end s v n i, passed_over is_part s at n (stops is_part s at n g.to i))

-- ---- names that are compared
-- a text begins with a name and goes on with no part of one
pub begins : (name t : List ℕ) → every is_part name ≡ true → starts_with eqb t name && not (is_part (head_of (drop (length name) t))) ≡ eq_bytes (run_of is_part t) name
unfolding eq_bytes run_of every head_of
begins [] [] h = refl
begins [] (b ∷ t) h = go (is_part b)
  where
    go : (c : Bool) → not c ≡ eq_bytes (cond c (b ∷ run_of is_part t) []) []
    go true = refl
    go false = refl
begins (c ∷ name) [] h = refl
begins (c ∷ name) (b ∷ t) h = let k = and_parts (is_part c) (every is_part name) h in go (is_part b) (eqb b c) refl refl k.0 (begins name t k.1)
  where
    go : (p q : Bool) → is_part b ≡ p → eqb b c ≡ q → is_part c ≡ true
        → starts_with eqb t name && not (is_part (head_of (drop (length name) t))) ≡ eq_bytes (run_of is_part t) name
        → starts_with eqb (b ∷ t) (c ∷ name) && not (is_part (head_of (drop (length name) t))) ≡ eq_bytes (cond p (b ∷ run_of is_part t) []) (c ∷ name)
    go true true d e k i = let same : b ≡ c = eqb-true b c e in rw (eq-eqb c b (sym same), e) i
    go true false d e k i = rw (ne_eqb c b (λ z. eqb-false b c e (sym z)), e)
    go false q d e k i = rw (ne_eqb c b (λ z. let w : false ≡ true = sym d ∙ ap is_part (sym z) ∙ k in cc))

pub same-name : (text name rest : List ℕ) (p : ℕ) → every is_part name ≡ true → rest ≡ slice_range text p (length text)
    → starts_with eqb rest name && not (is_part (head_of (drop (length name) rest))) ≡ eq_bytes (name_at text p) name
same-name text name rest p h e = begins name rest h ∙ ap (λ (t : List ℕ). eq_bytes (run_of is_part t) name) (e ∙ take_rest text p)

pub no-name : (text name : List ℕ) (p : ℕ) → length text < p → eqb (length name) 0 ≡ eq_bytes (name_at text p) name
unfolding eq_bytes run_of
no-name text name p h = let l : length text ≤ p = omega arith in rw drop_of_length-le (empty name)
  where
    empty : (name : List ℕ) → eqb (length name) 0 ≡ eq_bytes [] name
    empty [] = refl
    empty (b ∷ t) = ne_eqb (length (b ∷ t)) 0 (λ z. omega arith)

-- ---- a name as a part of the text it stands in
take-run : (p : ℕ → Bool) (t : List ℕ) → take (length (run_of p t)) t ≡ run_of p t
unfolding run_of
take-run p [] = refl
take-run p (b ∷ t) = go (p b) (take-run p t)
  where
    go : (c : Bool) → take (length (run_of p t)) t ≡ run_of p t → take (length (cond c (b ∷ run_of p t) [])) (b ∷ t) ≡ cond c (b ∷ run_of p t) []
    go true e = ap (b ∷◌) e
    go false e = refl

pub name-slice : (s : List ℕ) (at after : ℕ) → after ≡ at + length (name_at s at) → slice_range s at after ≡ name_at s at
name-slice s at after e = let n : after - at ≡ length (name_at s at) = omega arith in ap (λ (k : ℕ). take k (drop at s)) n ∙ take-run is_part (drop at s)

-- a name whose key is not 0 lies within the text
pub keyed-within : (s : List ℕ) (at : ℕ) → (key_of (name_at s at) ≡ 0 → ⊥) → at + length (name_at s at) ≤ length s
unfolding key_from run_of
keyed-within s at n = go (leb at (length s)) refl
  where
    go : (c : Bool) → leb at (length s) ≡ c → at + length (name_at s at) ≤ length s
    go true e = let l = leb-true at (length s) e in omega (arith, in_all is_part s at 0)
    go false e = let l = leb-false at (length s) e in absurd (n (ap (λ (t : List ℕ). key_of (run_of is_part t)) (drop_of_length-le s (omega arith))))

-- at the end there is no further byte
pub stops_at_end : (p : ℕ → Bool) (s : List ℕ) (at n : ℕ) → p 0 ≡ false → Going p s at n → length s ≤ n → at + length (run_of p (drop at s)) ≡ n
stops_at_end p s at n z g h = sym (passed_over p s at n (stops p s at n g (ap p (sym (head-end s n h)) ∙ z)))
