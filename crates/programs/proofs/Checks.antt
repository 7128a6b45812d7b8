-- The pass that finds the first bad line, line by line. Assumes nothing.
use mathlib.Core.Path.{◌≡◌, sym, ap}
use mathlib.Core.Bool.{Bool, true, false}
use mathlib.Core.List.{List, ◌∷◌}
use Prim.Native.Nat.{ℕ, ◌+◌, ◌≤◌}
use native.Mathlib.Omega.{arith}
use lib.Dec.{eqb}
use lib.ListN.{length, drop, drop_of_length-le}
use Rattle.lines.specs.Lines.{Saying, empty, named, word, wrong}
use Rattle.lines.specs.Reader.{line_read}
use Rattle.lines.specs.Code.{labels_in}
use Rattle.programs.specs.Programs.{lines_of}
use Rattle.programs.specs.Code.{step_by, line_step, on_step, check_from}
use Rattle.programs.specs.declared.Failure.{Failure}
use Rattle.std.specs.Prelude.{Result, Ok}

pub step_is : (text table : List ℕ) (again : Bool) (line : ℕ) (t : List ℕ) (own : ℕ) (x : Saying) → line_read (labels_in text table own) t ≡ x
    → step_by again line own x ≡ line_step text table again line t own
unfolding line_step
step_is text table again line t own x e = ap (step_by again line own) (sym e)

by-more : (again : Bool) (line own : ℕ) (x : Saying) (o : ℕ) → step_by again line own x ≡ Ok o → o ≤ own + 1
by-more again line own empty o e = let p : own ≡ o = cc in omega arith
by-more true line own (named name) o e = absurd (let z : ◌≡◌ {A = ℕ} 0 1 = cc in omega arith)
by-more false line own (named name) o e = let p : own ≡ o = cc in omega arith
by-more again line own (word w) o e = let p : own + 1 ≡ o = cc in omega arith
by-more again line own wrong o e = absurd (let z : ◌≡◌ {A = ℕ} 0 1 = cc in omega arith)

pub step-more : (text table : List ℕ) (again : Bool) (line : ℕ) (t : List ℕ) (own o : ℕ) → line_step text table again line t own ≡ Ok o → o ≤ own + 1
unfolding line_step
step-more text table again line t own o e = by-more again line own (line_read (labels_in text table own) t) o e

module _ (text table : List ℕ) (second line own : ℕ) where
  pub check-end : (s : List ℕ) (at : ℕ) → length s ≤ at → check_from text table second (lines_of (drop at s)) line own ≡ Ok own
  unfolding lines_of check_from
  check-end s at h = ap (λ (t : List ℕ). check_from text table second (lines_of t) line own) (drop_of_length-le s h)

  pub check-line : (ls : List (List ℕ)) (t : List ℕ) (ts : List (List ℕ)) (r : Result ℕ Failure) → ls ≡ t ∷ ts → line_step text table (eqb line second) line t own ≡ r
      → check_from text table second ls line own ≡ on_step r (λ o. check_from text table second ts (line + 1) o)
  unfolding check_from
  check-line ls t ts r e q = rw (e, q)
