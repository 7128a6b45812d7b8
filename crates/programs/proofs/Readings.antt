-- Every line says something, and one thing: the language has one meaning. Assumes nothing.
use Rattle.std.specs.Prelude.{Option}
use mathlib.Core.Path.{◌≡◌, refl, sym, ap, ◌∙◌, subst, fun_ext}
use mathlib.Core.List.{List, [], ◌∷◌, map}
use Prim.Native.Nat.{ℕ}
use native.Mathlib.Omega.{arith}
use lib.IntN.{ℤ}
use Rattle.opcode.specs.declared.Form.{Form}
use Rattle.lines.specs.Lines.{Saying, empty, named, word, wrong}
use Rattle.lines.specs.Reader.{line_read}
use Rattle.lines.proofs.Complete.{line-complete}
use Rattle.lines.proofs.Sound.{line-sound}
use Rattle.programs.specs.Programs.{Teller, LineSays, says, unsaid, Tells, end, next}
use Rattle.programs.specs.Code.{reader}

-- what a line says is what is read of it
pub said : (look : Form → List ℕ → Option ℤ) (t : List ℕ) (x : Saying) → LineSays look t x → x ≡ line_read look t
said look t x (says l e) = sym (line-complete look l) ∙ ap (line_read look) e
said look t x (unsaid n) = go (line_read look t) refl
  where
    spelled : (x : Saying) → line_read look t ≡ x → (x ≡ wrong → ⊥) → wrong ≡ x
    spelled x e w = let k = line-sound look t x e w in sym (n k.0 (sym k.1)) ∙ k.2

    go : (x : Saying) → line_read look t ≡ x → wrong ≡ x
    go empty e = spelled empty e (λ h. let z : ◌≡◌ {A = ℕ} 0 1 = cc in omega arith)
    go (named name) e = spelled (named name) e (λ h. let z : ◌≡◌ {A = ℕ} 0 1 = cc in omega arith)
    go (word w) e = spelled (word w) e (λ h. let z : ◌≡◌ {A = ℕ} 0 1 = cc in omega arith)
    go wrong e = refl

pub reading : (look : Form → List ℕ → Option ℤ) (t : List ℕ) → LineSays look t (line_read look t)
reading look t = go (line_read look t) refl
  where
    spelled : (x : Saying) → line_read look t ≡ x → (x ≡ wrong → ⊥) → LineSays look t x
    spelled x e w = let k = line-sound look t x e w in subst (LineSays look t) k.2 (says k.0 (sym k.1))

    go : (x : Saying) → line_read look t ≡ x → LineSays look t x
    go empty e = spelled empty e (λ h. let z : ◌≡◌ {A = ℕ} 0 1 = cc in omega arith)
    go (named name) e = spelled (named name) e (λ h. let z : ◌≡◌ {A = ℕ} 0 1 = cc in omega arith)
    go (word w) e = spelled (word w) e (λ h. let z : ◌≡◌ {A = ℕ} 0 1 = cc in omega arith)
    go wrong e = unsaid (λ l s. sym (line-complete look l) ∙ ap (line_read look) s ∙ e)

-- every text's lines tell something
pub tell : (ts : List (List ℕ)) → Tells ts (map reader ts)
tell [] = end
tell (t ∷ ts) = next (λ look. reading look t) (tell ts)

-- and nothing else
pub told : {ts : List (List ℕ)} {fs : List Teller} → Tells ts fs → fs ≡ map reader ts
told end = refl
told (next {t} {f} {ts} {fs} s rest) = ap (◌∷ fs) (fun_ext (λ look. said look t (f look) (s look))) ∙ ap (reader t ∷◌) (told rest)

pub determined : {ts : List (List ℕ)} {fs gs : List Teller} → Tells ts fs → Tells ts gs → fs ≡ gs
determined p q = told p ∙ sym (told q)
