use Rattle.std.proofs.Common.{List, ℕ, Bor, Option, Some, None, ◌≡◌, ◌-◌, ◌∙◌, length, take, arith, ap, sym}
use Rattle.std.proofs.lemmas.List.{length-take-le}
use Rattle.std.proofs.Math.Seq.{take-length}
use Rattle.std.specs.Option.{MatchOption, IfSome, unwrap_or, option_or}
use Rattle.assemble.proofs.table.without_end.Goals as goal

abbrev IsFront : List ℕ → Bor (List ℕ) → Type 0
IsFront line x = x.now ≡ take (length x.now) line

front : (line : List ℕ) (m : ℕ) (P : Type 0) (A C : Bor (List ℕ) → Type 0) (o : Option (Bor (List ℕ))) → MatchOption o P (λ x. A x × (x.now ≡ take (length line - m) line) × C x) → IfSome o (IsFront line)
front line m P A C None h = tt
front line m P A C (Some x) h =
    let long : length x.now ≡ length line - m = ap length h.1 ∙ length-take-le (length line - m) line (omega arith) in
    rw long h.1

either : (line : Bor (List ℕ)) (a b : Option (Bor (List ℕ))) → IfSome a (IsFront line.now) → IfSome b (IsFront line.now) → IsFront line.now (unwrap_or (option_or a b) line)
either line (Some x) b f g = f
either line None (Some x) f g = g
either line None None f g = sym (take-length line.now)

pub returns : goal.returns
returns c =
    let line = c.args.line in
    let f = front line.now 2 _ _ _ c.strip_suffix.result c.strip_suffix.ensures.cases in
    let g = front line.now 1 _ _ _ c.strip_suffix-2.result c.strip_suffix-2.ensures.cases in
    rw c.unwrap_or.ensures (rw c.or.ensures (either line c.strip_suffix.result c.strip_suffix-2.result f g))
