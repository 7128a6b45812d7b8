-- Of the text that `zkir_print` wrote `zkir_assemble` makes the words again. Assumes nothing.
use Rattle.std.proofs.lemmas.Bool.{and_parts}
use mathlib.Core.Path.{◌≡◌, refl, ap, ◌∙◌}
use mathlib.Core.Bool.{Bool, true, false, cond}
use mathlib.Core.List.{List, [], ◌∷◌, ◌++◌, map}
use Prim.Native.Nat.{ℕ, zero, suc, ◌+◌, ◌*◌, ◌/◌, ◌%◌, ◌^◌, ◌≤◌, ◌<◌}
use native.Mathlib.Omega.{arith}
use lib.Dec.{ltb, eqb}
use lib.ListN.{length, take, drop, length-drop, take-append-drop}
use lib.Seq.{get_or-drop, take_at}
use borrow.Author.Tests.{ltb-true, lt-ltb, le-ltb, eqb-true}
use Rattle.refusal.specs.declared.Refusal.{Refusal}
use Rattle.refusal.specs.declared.Stop.TheVariants.{Fuel, Refused}
use Rattle.refusal.specs.Stops.{number_of, particular_of}
use Rattle.refusal.proofs.Determined.{stop-determined}
use Rattle.memory.specs.Bytes.{number_of_bytes, number_at}
use Rattle.memory.proofs.Numbers.{Small, bytes-number}
use Rattle.labels.specs.Bytes.{every}
use Rattle.told.specs.Told.{done_told, refused_told}
use Rattle.told.specs.declared.Told.{Told}
use Rattle.printing.specs.Print.{Printed, text, undecodable, print_of, words_in, told_of, left_by, print_told, print_leaves}
use Rattle.programs.specs.Programs.{lines_of, Teller, labels_from}
use Rattle.programs.specs.Promise.{AllLeft, left_cleared, bytes_of_words, outcome, left_of, Assembled}
use Rattle.programs.specs.Code.{reader}
use Rattle.programs.proofs.Readings.{tell}
use Rattle.text.specs.Statements.{CallsReturn}
use Rattle.text.proofs.RoundTrip.{constant, readers, assembled}

-- ---- words in bytes
small : (b : List ℕ) → every (λ b. ltb b 256) b ≡ true → Small b
unfolding every
small [] h k = omega arith
small (x ∷ b) h zero = ltb-true x 256 (and_parts (ltb x 256) (every (λ b. ltb b 256) b) h).0
small (x ∷ b) h (suc k) = small b (and_parts (ltb x 256) (every (λ b. ltb b 256) b) h).1 k

below : (b : List ℕ) → Small b → number_at 4 b 0 < 2 ^ 32
unfolding number_of_bytes
below [] s = omega arith
below (x ∷ []) s = omega (arith, s 0)
below (x ∷ (y ∷ [])) s = omega (arith, s 0, s 1)
below (x ∷ (y ∷ (z ∷ []))) s = omega (arith, s 0, s 1, s 2)
below (x ∷ (y ∷ (z ∷ (w ∷ b)))) s = omega (arith, s 0, s 1, s 2, s 3)

behind : (b : List ℕ) → Small b → Small (drop 4 b)
behind b s k = rw get_or-drop (s (4 + k))

words-below : (n : ℕ) (b : List ℕ) → Small b → every (λ w. ltb w (2 ^ 32)) (words_in n b) ≡ true
unfolding every words_in
words-below zero b s = refl
words-below (suc n) b s = rw (lt-ltb (number_at 4 b 0) (2 ^ 32) (below b s)) (words-below n (drop 4 b) (behind b s))

count : (n : ℕ) (b : List ℕ) → length (words_in n b) ≡ n
unfolding words_in
count zero b = refl
count (suc n) b = ap suc (count n (drop 4 b))

words_back : (n : ℕ) (b : List ℕ) → Small b → length b ≡ 4 * n → bytes_of_words (words_in n b) ≡ b
unfolding words_in bytes_of_words
words_back zero [] s e = refl
words_back zero (x ∷ b) s e = absurd (omega arith)
words_back (suc n) b s e =
    let rest : length (drop 4 b) ≡ 4 * n = simp length-drop (omega arith) in
    rw (bytes-number 4 b s (omega arith), words_back n (drop 4 b) (behind b s) rest) (take-append-drop 4 b)

-- ---- what is assembled of a print, which defines no label
no_label : (ws : List ℕ) (n : ℕ) → labels_from (constant ws) n ≡ []
unfolding constant labels_from
no_label [] n = refl
no_label (w ∷ ws) n = no_label ws (n + 1)

all_left : (ws out labels : List ℕ) → 4 * length ws ≤ length out
    → left_of (constant ws) out labels ≡ left_cleared (done_told (4 * length ws)) (bytes_of_words ws ++ drop (4 * length ws) out) labels
unfolding left_of outcome
all_left ws out labels h =
    rw (no_label ws 0, le-ltb (length labels) 0 (omega arith), assembled ws [] 1 0 [], le-ltb (length out) (4 * length ws) h)

-- ---- what a print told and left
refuses : (r : Refusal) (n : ℕ) → refused_told (number_of r) (particular_of r) ≡ done_told n → ⊥
refuses r n e =
    let s : Refused r ≡ Fuel = stop-determined (Refused r) Fuel (ap (λ (t : Told). t.code) e) (ap (λ (t : Told). t.particular) e) in
    let z : ◌≡◌ {A = ℕ} 0 1 = cc in omega arith

nine : (n : ℕ) → refused_told 9 0 ≡ done_told n → ⊥
nine n e = let z : ◌≡◌ {A = ℕ} 9 0 = ap (λ (t : Told). t.code) e in omega arith

pub record Wrote (ws room : List ℕ) (n : ℕ) : Type 0 where
  pub print : List ℕ
  pub is : print_of ws ≡ text print
  pub left : take n (left_by (print_of ws) room) ≡ print

wrote : (ws room : List ℕ) (n : ℕ) → told_of (print_of ws) (length room) ≡ done_told n → Wrote ws room n
wrote ws room n = go (print_of ws) refl
  where
    fits : (t : List ℕ) (c : Bool) → print_of ws ≡ text t → ltb (length room) (length t) ≡ c → cond c (refused_told 9 0) (done_told (length t)) ≡ done_told n → Wrote ws room n
    fits t true p f e = absurd (nine n e)
    fits t false p f e =
        let long : length t ≡ n = ap (λ (t : Told). t.length) e in
        record { print = t; is = p; left = rw (p, f) (take_at t (drop (length t) room) n long) }

    go : (p : Printed) → print_of ws ≡ p → told_of p (length room) ≡ done_told n → Wrote ws room n
    go (text t) p e = fits t (ltb (length room) (length t)) p refl e
    go (undecodable r) p e = absurd (refuses r n e)

-- ---- both calls
again : (words room out labels : List ℕ) (n : ℕ) (l : AllLeft) → Small words → length words % 4 ≡ 0 → length words ≤ length out
    → Wrote (words_in (length words / 4) words) room n → Assembled (take n (left_by (print_of (words_in (length words / 4) words)) room)) out labels l
    → l ≡ left_cleared (done_told (length words)) (words ++ drop (length words) out) labels
again words room out labels n l s whole fits w call =
    let ws = words_in (length words / 4) words in
    let long : 4 * length ws ≡ length words = ap (4 *◌) (count (length words / 4) words) ∙ omega arith in
    let back : bytes_of_words ws ≡ words = words_back (length words / 4) words s (omega arith) in
    let read = readers ws w.print (words-below (length words / 4) words s) w.is in
    call _ (tell (lines_of _))
    ∙ ap (λ (t : List ℕ). left_of (map reader (lines_of t)) out labels) w.left
    ∙ ap (λ (fs : List Teller). left_of fs out labels) read
    ∙ all_left ws out labels (omega arith)
    ∙ rw (long, back)

pub calls-return : CallsReturn
unfolding print_told print_leaves
calls-return words room out labels n l bytes fits = go (eqb (length words % 4) 0) refl
  where
    go : (c : Bool) → eqb (length words % 4) 0 ≡ c → cond c (told_of (print_of (words_in (length words / 4) words)) (length room)) (refused_told 9 0) ≡ done_told n
        → Assembled (take n (cond c (left_by (print_of (words_in (length words / 4) words)) room) room)) out labels l
        → l ≡ left_cleared (done_told (length words)) (words ++ drop (length words) out) labels
    go true whole told call = again words room out labels n l (small words bytes) (eqb-true (length words % 4) 0 whole) fits (wrote (words_in (length words / 4) words) room n told) call
    go false whole told call = absurd (nine n told)
