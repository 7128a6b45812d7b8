-- What is proved of printing and assembling together.
use Rattle.std.specs.Prelude.{ℕ, ◌^◌, ◌≤◌, true, List, ◌++◌, ◌≡◌, ltb, length, take, drop}
use Rattle.labels.specs.Bytes.{every}
use Rattle.told.specs.Told.{done_told}
use Rattle.printing.specs.Print.{print_of, text, print_told, print_leaves}
use Rattle.programs.specs.Programs.{lines_of, Teller, Tells, assemble_of, made}
use Rattle.programs.specs.Promise.{AllLeft, left_cleared, Assembled}

-- "Printing any decodable program and assembling the print gives the same words": whatever the lines of the print tell
abbrev pub RoundTrip : Type 0
RoundTrip =
    (ws t : List ℕ) → every (λ w. ltb w (2 ^ 32)) ws ≡ true → print_of ws ≡ text t
    → (fs : List Teller) → Tells (lines_of t) fs → assemble_of fs ≡ made ws

-- The same of what the two calls answer and leave: where `zkir_print` has written n bytes of text, `zkir_assemble` makes of them the words
-- that were printed, byte for byte, if there is room for these. It needs no room for labels
abbrev pub CallsReturn : Type 0
CallsReturn =
    (words room out labels : List ℕ) (n : ℕ) (l : AllLeft) → every (λ b. ltb b 256) words ≡ true → length words ≤ length out
    → print_told words room ≡ done_told n → Assembled (take n (print_leaves words room)) out labels l
    → l ≡ left_cleared (done_told (length words)) (words ++ drop (length words) out) labels
