-- The lines of a text, one by one. Assumes nothing.
use mathlib.Core.Path.{◌≡◌, refl, sym, ap, ◌∙◌}
use mathlib.Core.Bool.{Bool, true, false, cond, not, ◌&&◌}
use mathlib.Core.List.{List, [], ◌∷◌}
use Prim.Native.Nat.{ℕ, zero, suc, ◌+◌, ◌-◌, ◌≤◌, ◌<◌}
use native.Mathlib.Omega.{arith}
use lib.Dec.{eqb}
use lib.ListN.{length, get_or, take, drop, length-append, take-append-drop, length-drop, drop_of_length-le}
use lib.Seq.{take_at, get_or-drop, drop-drop}
use borrow.Author.Tests.{eq-eqb, ne_eqb}
use Rattle.labels.specs.Bytes.{every, head_of}
use Rattle.labels.specs.Reading.{tail_of, run_of, past, Passed}
use Rattle.lines.specs.Reader.{nothing}
use Rattle.lines.proofs.Steps.{nothing-end, nothing-not}
use Rattle.labels.proofs.Spans.{run_past, tail-drop, head-drop, past-on, past-append}
use Rattle.labels.proofs.Steps.{Going, stops}
use Rattle.programs.specs.Programs.{with_byte, lines_of}
use Rattle.programs.specs.Code.{is_text, stripped}

-- the first line, and the text after its LF
unfoldable pub rest : List ℕ → List ℕ
rest t = tail_of (past is_text t)

unfoldable pub first : List ℕ → List ℕ
first t = stripped (not (nothing (past is_text t))) (run_of is_text t)

-- a byte that is no LF, nor a CR before one, begins the line
text-on : (b d : ℕ) (t : List ℕ) → eqb b 10 ≡ false → eqb b 13 && eqb d 10 ≡ false → first (b ∷ (d ∷ t)) ≡ b ∷ first (d ∷ t)
unfolding first run_of past stripped
text-on b d t n c = rw n (go (eqb d 10) refl c)
  where
    no-strip : (x : Bool) → x && true ≡ false → cond x [] (b ∷ []) ≡ b ∷ []
    no-strip true h = absurd (let z : ◌≡◌ {A = ℕ} 0 1 = cc in omega arith)
    no-strip false h = refl

    go : (x : Bool) → eqb d 10 ≡ x → eqb b 13 && x ≡ false
        → stripped (not (nothing (cond (not x) (past is_text t) (d ∷ t)))) (b ∷ cond (not x) (d ∷ run_of is_text t) []) ≡ b ∷ stripped (not (nothing (cond (not x) (past is_text t) (d ∷ t)))) (cond (not x) (d ∷ run_of is_text t) [])
    go true e h = no-strip (eqb b 13) h
    go false e h = by (not (nothing (past is_text t)))
      where
        by : (y : Bool) → stripped y (b ∷ (d ∷ run_of is_text t)) ≡ b ∷ stripped y (d ∷ run_of is_text t)
        by true = refl
        by false = refl

pub lines-first : (b : ℕ) (t : List ℕ) → lines_of (b ∷ t) ≡ first (b ∷ t) ∷ lines_of (rest (b ∷ t))
unfolding lines_of first rest run_of past tail_of head_of stripped
lines-first b [] = go (eqb b 10) refl
  where
    go : (x : Bool) → eqb b 10 ≡ x → cond x ([] ∷ []) (cond (eqb b 13 && false) [] ((b ∷ []) ∷ [])) ≡ stripped (not (nothing (cond (not x) [] (b ∷ [])))) (cond (not x) (b ∷ []) []) ∷ lines_of (tail_of (cond (not x) [] (b ∷ [])))
    go true e = refl
    go false e = by (eqb b 13)
      where
        by : (y : Bool) → cond (y && false) [] ((b ∷ []) ∷ []) ≡ (b ∷ []) ∷ []
        by true = refl
        by false = refl
lines-first b (d ∷ t) = go (eqb b 10) (eqb b 13) (eqb d 10) refl refl refl (lines-first d t)
  where
    go : (x y z : Bool) → eqb b 10 ≡ x → eqb b 13 ≡ y → eqb d 10 ≡ z → lines_of (d ∷ t) ≡ first (d ∷ t) ∷ lines_of (rest (d ∷ t))
        → cond x ([] ∷ lines_of (d ∷ t)) (cond (y && z) (lines_of (d ∷ t)) (with_byte b (lines_of (d ∷ t)))) ≡ first (b ∷ (d ∷ t)) ∷ lines_of (rest (b ∷ (d ∷ t)))
    go true y z ex ey ez ih = sym (ap (λ (q : Bool). stripped (not (nothing (cond (not q) (past is_text (d ∷ t)) (b ∷ (d ∷ t))))) (cond (not q) (b ∷ run_of is_text (d ∷ t)) []) ∷ lines_of (tail_of (cond (not q) (past is_text (d ∷ t)) (b ∷ (d ∷ t))))) ex)
    go false true true ex ey ez ih =
        ih ∙ ap (λ (q : Bool). stripped (not (nothing (cond (not q) (past is_text t) (d ∷ t)))) (cond (not q) (d ∷ run_of is_text t) []) ∷ lines_of (tail_of (cond (not q) (past is_text t) (d ∷ t)))) ez
        ∙ sym (ap (λ (q : Bool). stripped (not (nothing (cond (not q) (past is_text (d ∷ t)) (b ∷ (d ∷ t))))) (cond (not q) (b ∷ run_of is_text (d ∷ t)) []) ∷ lines_of (tail_of (cond (not q) (past is_text (d ∷ t)) (b ∷ (d ∷ t))))) ex
        ∙ ap (λ (q : Bool). stripped (not (nothing (cond (not q) (past is_text t) (d ∷ t)))) (b ∷ cond (not q) (d ∷ run_of is_text t) []) ∷ lines_of (tail_of (cond (not q) (past is_text t) (d ∷ t)))) ez
        ∙ ap (λ (q : Bool). cond q [] (b ∷ []) ∷ lines_of t) ey)
    go false true false ex ey ez ih = plain (text-on b d t ex (ap (eqb b 13 &&◌) ez ∙ no (eqb b 13))) ex ih
      where
        no : (x : Bool) → x && false ≡ false
        no true = refl
        no false = refl

        plain : first (b ∷ (d ∷ t)) ≡ b ∷ first (d ∷ t) → eqb b 10 ≡ false → lines_of (d ∷ t) ≡ first (d ∷ t) ∷ lines_of (rest (d ∷ t)) → with_byte b (lines_of (d ∷ t)) ≡ first (b ∷ (d ∷ t)) ∷ lines_of (rest (b ∷ (d ∷ t)))
        plain f e ih = ap (with_byte b) ih ∙ ap (◌∷ lines_of (rest (d ∷ t))) (sym f) ∙ ap (λ (q : Bool). first (b ∷ (d ∷ t)) ∷ lines_of (tail_of (cond (not q) (past is_text (d ∷ t)) (b ∷ (d ∷ t))))) (sym e)
    go false false z ex ey ez ih = plain (text-on b d t ex (ap (◌&& eqb d 10) ey)) ex ih
      where
        plain : first (b ∷ (d ∷ t)) ≡ b ∷ first (d ∷ t) → eqb b 10 ≡ false → lines_of (d ∷ t) ≡ first (d ∷ t) ∷ lines_of (rest (d ∷ t)) → with_byte b (lines_of (d ∷ t)) ≡ first (b ∷ (d ∷ t)) ∷ lines_of (rest (b ∷ (d ∷ t)))
        plain f e ih = ap (with_byte b) ih ∙ ap (◌∷ lines_of (rest (d ∷ t))) (sym f) ∙ ap (λ (q : Bool). first (b ∷ (d ∷ t)) ∷ lines_of (tail_of (cond (not q) (past is_text (d ∷ t)) (b ∷ (d ∷ t))))) (sym e)

-- ---- a CR at the end of the line
pub strip-cr : (l : List ℕ) (k : ℕ) → k < length l → get_or l k 0 ≡ 13 → stripped true (take (suc k) l) ≡ take k l
unfolding stripped
strip-cr [] k h e = absurd (omega arith)
strip-cr (b ∷ l) zero h e = ap (λ (c : Bool). cond c [] (b ∷ [])) (eq-eqb b 13 e)
strip-cr (b ∷ []) (suc k) h e = absurd (omega arith)
strip-cr (b ∷ (d ∷ l)) (suc k) h e = ap (b ∷◌) (strip-cr (d ∷ l) k (omega arith) e)

pub strip-none : (l : List ℕ) (k : ℕ) → k < length l → (get_or l k 0 ≡ 13 → ⊥) → stripped true (take (suc k) l) ≡ take (suc k) l
unfolding stripped
strip-none [] k h e = absurd (omega arith)
strip-none (b ∷ l) zero h e = ap (λ (c : Bool). cond c [] (b ∷ [])) (ne_eqb b 13 e)
strip-none (b ∷ []) (suc k) h e = absurd (omega arith)
strip-none (b ∷ (d ∷ l)) (suc k) h e = ap (b ∷◌) (strip-none (d ∷ l) k (omega arith) e)

-- ---- places
run_take : (s : List ℕ) (at n : ℕ) → at ≤ length s → Passed is_text s at n → run_of is_text (drop at s) ≡ take (n - at) (drop at s)
run_take s at n h p =
    let w = p.within h in
    let o = p.on in
    let a : length (run_of is_text (drop at s)) + length (past is_text (drop at s)) ≡ length s - at = sym (length-append (run_of is_text (drop at s)) (past is_text (drop at s))) ∙ ap length (run_past is_text (drop at s)) ∙ length-drop at s in
    let b : length (past is_text (drop at s)) ≡ length s - n = ap length (sym p.rest) ∙ length-drop n s in
    let e : length (run_of is_text (drop at s)) ≡ n - at = omega arith in
    sym (ap (take (n - at)) (sym (run_past is_text (drop at s))) ∙ take_at (run_of is_text (drop at s)) (past is_text (drop at s)) (n - at) e)

lines_at : (s : List ℕ) (at n : ℕ) → at < length s → Passed is_text s at n
    → lines_of (drop at s) ≡ stripped (not (nothing (drop n s))) (take (n - at) (drop at s)) ∷ lines_of (drop (n + 1) s)
unfolding first rest
lines_at s at n h p =
    whole (drop at s) (let e = length-drop at s in omega arith)
    ∙ ap (λ (u : List ℕ). stripped (not (nothing u)) (run_of is_text (drop at s)) ∷ lines_of (tail_of u)) (sym p.rest)
    ∙ ap (λ (u : List ℕ). stripped (not (nothing (drop n s))) u ∷ lines_of (tail_of (drop n s))) (run_take s at n (omega arith) p)
    ∙ ap (λ (u : List ℕ). stripped (not (nothing (drop n s))) (take (n - at) (drop at s)) ∷ lines_of u) (tail-drop s n)
  where
    whole : (t : List ℕ) → 0 < length t → lines_of t ≡ first t ∷ lines_of (rest t)
    whole [] l = absurd (omega arith)
    whole (b ∷ t) l = lines-first b t

pub span_last : (s : List ℕ) (at n : ℕ) → at < length s → Passed is_text s at n → length s ≤ n → lines_of (drop at s) ≡ take (n - at) (drop at s) ∷ lines_of (drop n s)
unfolding stripped
span_last s at n h p l =
    lines_at s at n h p ∙ ap (λ (c : Bool). stripped (not c) (take (n - at) (drop at s)) ∷ lines_of (drop (n + 1) s)) (nothing-end s n l)
    ∙ ap (λ (u : List ℕ). take (n - at) (drop at s) ∷ lines_of u) (let e : length s ≤ n + 1 = omega arith in drop_of_length-le s e ∙ sym (drop_of_length-le s l))

pub span-ended : (s : List ℕ) (at n r : ℕ) → at < length s → Passed is_text s at n → n < length s → take (r - at) (drop at s) ≡ stripped true (take (n - at) (drop at s))
    → lines_of (drop at s) ≡ take (r - at) (drop at s) ∷ lines_of (drop (n + 1) s)
span-ended s at n r h p l e =
    lines_at s at n h p ∙ ap (λ (c : Bool). stripped (not c) (take (n - at) (drop at s)) ∷ lines_of (drop (n + 1) s)) (nothing-not s n l)
    ∙ ap (◌∷ lines_of (drop (n + 1) s)) (sym e)

module _ (s : List ℕ) (at n : ℕ) (o : at ≤ n) (l : n < length s) where
  last_byte : at < n → get_or (drop at s) (n - at - 1) 0 ≡ head_of (drop (n - 1) s)
  last_byte h = let e : at + (n - at - 1) ≡ n - 1 = omega arith in get_or-drop at s (n - at - 1) 0 ∙ ap (λ (k : ℕ). get_or s k 0) e ∙ sym (head-drop s (n - 1))

  pub end_none : n ≤ at → take (n - at) (drop at s) ≡ stripped true (take (n - at) (drop at s))
  unfolding stripped
  end_none h = let e : n - at ≡ 0 = omega arith in ap (λ (k : ℕ). take k (drop at s)) e ∙ sym (ap (λ (k : ℕ). stripped true (take k (drop at s))) e)

  pub end-cr : at < n → head_of (drop (n - 1) s) ≡ 13 → take (n - 1 - at) (drop at s) ≡ stripped true (take (n - at) (drop at s))
  end-cr h c =
      let e : n - 1 - at ≡ n - at - 1 = omega arith in
      let f : suc (n - at - 1) ≡ n - at = omega arith in
      ap (λ (k : ℕ). take k (drop at s)) e ∙ sym (strip-cr (drop at s) (n - at - 1) (let m = length-drop at s in omega arith) (last_byte h ∙ c)) ∙ ap (λ (k : ℕ). stripped true (take k (drop at s))) f

  pub end-plain : at < n → (head_of (drop (n - 1) s) ≡ 13 → ⊥) → take (n - at) (drop at s) ≡ stripped true (take (n - at) (drop at s))
  end-plain h c =
      let f : suc (n - at - 1) ≡ n - at = omega arith in
      ap (λ (k : ℕ). take k (drop at s)) (sym f) ∙ sym (strip-none (drop at s) (n - at - 1) (let m = length-drop at s in omega arith) (λ z. c (sym (last_byte h) ∙ z))) ∙ ap (λ (k : ℕ). stripped true (take k (drop at s))) f

-- ---- the search for an LF
one_more : (p : ℕ → Bool) (t : List ℕ) (k : ℕ) → k < length t → every p (take (suc k) t) ≡ (every p (take k t) && p (get_or t k 0))
unfolding every
one_more p [] k h = absurd (omega arith)
one_more p (b ∷ t) zero h = go (p b)
  where
    go : (x : Bool) → x && true ≡ x
    go true = refl
    go false = refl
one_more p (b ∷ t) (suc k) h = ap (p b &&◌) (one_more p t k (omega arith)) ∙ go (p b) (every p (take k t)) (p (get_or t k 0))
  where
    go : (x y z : Bool) → x && (y && z) ≡ (x && y) && z
    go true y z = refl
    go false y z = refl

-- whether none of the bytes from a place to the k-th after it is an LF
abbrev pub text_to : List ℕ → ℕ → ℕ → Bool
text_to s n zero = is_text (get_or s n 0)
text_to s n (suc k) = text_to s n k && is_text (get_or s (n + suc k) 0)

pub text-to : (s : List ℕ) (n k : ℕ) → n + k < length s → text_to s n k ≡ every is_text (take (suc k) (drop n s))
unfolding every
text-to s n zero h =
    let e : n + 0 ≡ n = omega arith in
    sym (one_more is_text (drop n s) zero (rw length-drop (omega arith)) ∙ ap is_text (get_or-drop n s 0 0) ∙ ap (λ (k : ℕ). is_text (get_or s k 0)) e)
text-to s n (suc k) h =
    ap (◌&& is_text (get_or s (n + suc k) 0)) (text-to s n k (omega arith))
    ∙ ap (λ (b : ℕ). every is_text (take (suc k) (drop n s)) && is_text b) (sym (get_or-drop n s (suc k) 0))
    ∙ sym (one_more is_text (drop n s) (suc k) (rw length-drop (omega arith)))

module _ (s : List ℕ) (at n : ℕ) (g : Going is_text s at n) where
  pub feed-end : length s ≤ n → Passed is_text s at n
  unfolding past
  feed-end h = let e = drop_of_length-le s h in record { rest = e ∙ sym (g.from ∙ ap (past is_text) e); on = g.on; within = g.within; beyond = g.beyond }

  pub feed-here : get_or s n 0 ≡ 10 → Passed is_text s at n
  feed-here e = stops is_text s at n g (ap is_text (head-drop s n ∙ e))

  pub feed-on : n < length s → (get_or s n 0 ≡ 10 → ⊥) → Going is_text s at (n + 1)
  feed-on h e =
      let o = g.on in
      record {
        from = g.from ∙ past-on is_text (drop n s) (ap is_text (head-drop s n) ∙ ap not (ne_eqb (get_or s n 0) 10 e)) ∙ ap (past is_text) (tail-drop s n);
        on = omega arith;
        within = λ k. omega arith;
        beyond = λ k. let b = g.beyond k in absurd (omega arith);
      }

  -- so many bytes that are no LF
  pub feed-far : (k : ℕ) → n + k ≤ length s → every is_text (take k (drop n s)) ≡ true → Going is_text s at (n + k)
  feed-far k h e =
      let o = g.on in
      record {
        from = g.from ∙ ap (past is_text) (sym (take-append-drop k (drop n s))) ∙ past-append is_text (take k (drop n s)) (drop k (drop n s)) e ∙ ap (past is_text) (drop-drop k n s);
        on = omega arith;
        within = λ i. h;
        beyond = λ i. let b = g.beyond i in omega arith;
      }
