-- The promise of the assembler determines what it leaves, and can be met for each text. Assumes nothing.
use mathlib.Core.Path.{◌≡◌, sym, ap, ◌∙◌}
use mathlib.Core.List.{List, map}
use Prim.Native.Nat.{ℕ}
use Rattle.programs.specs.Programs.{lines_of}
use Rattle.programs.specs.Promise.{AllLeft, left_of, Assembled}
use Rattle.programs.proofs.Readings.{tell, told}
use Rattle.programs.specs.Code.{reader}

pub one_answer : (text words labels : List ℕ) (l m : AllLeft) → Assembled text words labels l → Assembled text words labels m → l ≡ m
one_answer text words labels l m p q = let t = tell (lines_of text) in p _ t ∙ sym (q _ t)

-- what the code has to leave: it reads the lines
pub met : (text words labels : List ℕ) (l : AllLeft) → l ≡ left_of (map reader (lines_of text)) words labels → Assembled text words labels l
met text words labels l e fs t = e ∙ ap (λ (gs : List _). left_of gs words labels) (sym (told t))
