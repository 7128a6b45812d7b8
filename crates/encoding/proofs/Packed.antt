-- Pieces side by side, once over their widths: each field of a word is read back, and a word is made of its own fields.
use mathlib.Core.Path.{◌≡◌, sym, ap, ap₂, ◌∙◌}
use mathlib.Core.List.{List, [], ◌∷◌, ◌++◌}
use Prim.Native.Nat.{ℕ, ◌+◌, ◌*◌, ◌/◌, ◌%◌, ◌^◌, ◌<◌}
use native.Mathlib.Nat.{mod-lt, mod-mod, mod-one, mod-eq_of_lt, add_comm, div-one}
use lib.Pow.{pow_pos, high, low, mod-pow-add, shr-shr}
use Rattle.encoding.specs.Fields.{field}
use Rattle.encoding.specs.Words.{Piece, bits, packed}

abbrev pub width : List Piece → ℕ
width [] = 0
width (p ∷ ps) = p.wide + width ps

above : (p : Piece) (ps : List Piece) → packed (p ∷ ps) / 2 ^ p.wide ≡ packed ps
above p ps =
    ap (λ (n : ℕ). n / 2 ^ p.wide) (add_comm (p.value % 2 ^ p.wide) (packed ps * 2 ^ p.wide))
    ∙ high (packed ps) p.wide (mod-lt p.value (pow_pos p.wide))

-- a field that was encoded is read back, modulo its width: the pieces below say at which bit it starts
pub read_back : (ps : List Piece) (q : Piece) (rs : List Piece)
    → field (width ps) q.wide (packed (ps ++ (q ∷ rs))) ≡ q.value % 2 ^ q.wide
read_back [] q rs =
    ap (λ (n : ℕ). n % 2 ^ q.wide) (div-one (packed (q ∷ rs)) ∙ add_comm (q.value % 2 ^ q.wide) (packed rs * 2 ^ q.wide))
    ∙ low (packed rs) q.wide (mod-lt q.value (pow_pos q.wide))
read_back (p ∷ ps) q rs =
    ap (λ (n : ℕ). n % 2 ^ q.wide) (sym (shr-shr (packed (p ∷ (ps ++ (q ∷ rs)))) p.wide (width ps)))
    ∙ ap (λ (n : ℕ). n / 2 ^ width ps % 2 ^ q.wide) (above p (ps ++ (q ∷ rs)))
    ∙ read_back ps q rs

pub read_whole : (ps : List Piece) (q : Piece) (rs : List Piece) → q.value < 2 ^ q.wide
    → field (width ps) q.wide (packed (ps ++ (q ∷ rs))) ≡ q.value
read_whole ps q rs h = read_back ps q rs ∙ mod-eq_of_lt h

-- the fields of w from bit j on, at these widths
abbrev pub fields_of : ℕ → List ℕ → ℕ → List Piece
fields_of j [] w = []
fields_of j (k ∷ ks) w = bits k (field j k w) ∷ fields_of (j + k) ks w

abbrev pub sum : List ℕ → ℕ
sum [] = 0
sum (k ∷ ks) = sum ks + k

from-bit : (ks : List ℕ) (j w : ℕ) → packed (fields_of j ks w) ≡ w / 2 ^ j % 2 ^ sum ks
from-bit [] j w = sym (mod-one (w / 2 ^ j))
from-bit (k ∷ ks) j w =
    ap₂ (λ (a b : ℕ). a + b * 2 ^ k) (mod-mod (w / 2 ^ j) (2 ^ k))
    (from-bit ks (j + k) w ∙ ap (λ (n : ℕ). n % 2 ^ sum ks) (sym (shr-shr w j k)))
    ∙ add_comm (w / 2 ^ j % 2 ^ k) (w / 2 ^ j / 2 ^ k % 2 ^ sum ks * 2 ^ k)
    ∙ sym (mod-pow-add (w / 2 ^ j) (sum ks) k)

-- a word is made of its own fields
pub made-back : (ks : List ℕ) (w : ℕ) → w < 2 ^ sum ks → packed (fields_of 0 ks w) ≡ w
made-back ks w h = from-bit ks 0 w ∙ ap (λ (n : ℕ). n % 2 ^ sum ks) (div-one w) ∙ mod-eq_of_lt h
