-- The words of a program in its bytes.
use Prim.Native.Nat.{ℕ, zero, suc, ◌+◌, ◌/◌, ◌^◌, ◌<◌}
use mathlib.Core.List.{List, [], ◌∷◌, ◌++◌}
use mathlib.Core.Path.{◌≡◌, ap, sym, ◌∙◌}
use native.Mathlib.Nat.{pow-suc}
use native.Mathlib.Omega.{arith}
use lib.ListN.{length, take, drop, get_or, length-append}
use lib.Seq.{get_or-drop, take_at, take_all, drop_at}
use Rattle.memory.specs.Bytes.{number_of_bytes, number_at}
use Rattle.printing.specs.Print.{words_in}
use Rattle.printing.specs.Passes.{all_words}

bytes_below : (n : ℕ) (bs : List ℕ) → ((k : ℕ) → get_or bs k 0 < 256) → number_of_bytes (take n bs) < 256 ^ n
unfolding number_of_bytes
bytes_below zero bs small = omega arith
bytes_below (suc n) [] small =
    let rest = bytes_below n [] small in
    rw pow-suc (omega arith)
bytes_below (suc n) (b ∷ bs) small =
    let low : b < 256 = small 0 in
    let rest = bytes_below n bs (λ k. small (suc k)) in
    rw pow-suc (omega arith)

pub number-below : (n : ℕ) (bs : List ℕ) (at : ℕ) → ((k : ℕ) → get_or bs k 0 < 256) → number_at n bs at < 256 ^ n
number-below n bs at small = bytes_below n (drop at bs) (λ k. rw get_or-drop (small (at + k)))

-- a word more
pub words_more : (s x t : List ℕ) → s ≡ x ++ t → length x ≡ 4 → all_words s ≡ number_at 4 x 0 ∷ all_words t
unfolding words_in
words_more s x t is long =
    let size : length s ≡ length x + length t = rw is (length-append x t) in
    let one : length s / 4 ≡ suc (length t / 4) = omega arith in
    let front : take 4 (x ++ t) ≡ take 4 x = take_at x t 4 long ∙ sym (take_all 4 x (omega arith)) in
    rw (one, is, drop_at x t 4 long) (ap (λ (l : List ℕ). number_of_bytes l ∷ all_words t) front)

pub words-none : (s : List ℕ) → length s < 4 → all_words s ≡ []
unfolding words_in
words-none s h = let none : length s / 4 ≡ 0 = omega arith in rw none
