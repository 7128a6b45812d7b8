-- Whatever is read of a line is what a line with that text says. Assumes nothing.
use Rattle.std.proofs.lemmas.Bool.{and_parts}
use Rattle.std.proofs.lemmas.List.{append-nil}
use Rattle.std.proofs.Common.{Option, None, Some, ◌≡◌, ℕ, zero, suc, ◌+◌, ◌-◌, ◌≤◌, Bool, true, false, cond, ◌&&◌, eqb, ltb, leb, List, [], ◌∷◌, ◌++◌, length, ℤ, pos, sym, refl, ap, ◌∙◌, subst, append_assoc, arith, le-ltb, lt-ltb, eqb-true, leb-true}
use Rattle.opcode.specs.Opcodes.{all, opcode_in, form_of}
use Rattle.opcode.specs.declared.Opcode.{Opcode}
use Rattle.opcode.specs.declared.Opcode.TheVariants as O
use Rattle.opcode.specs.declared.Form.{Form}
use Rattle.opcode.specs.declared.Form.TheVariants.{R, I, Shift, S, B, J, Alone}
use Rattle.opcode.proofs.Arms.{everywhere}
use Rattle.opcode.proofs.Variants.{place, all-at}
use Rattle.opcode.proofs.Numberings.{number-found}
use Rattle.names.specs.Names.{register_text, name_of, name_key}
use Rattle.labels.specs.Bytes.{is_space, is_digit, is_letter, is_part, spaces, head_of, key_of}
use Rattle.labels.specs.Reading.{tail_of, run_of, past, skip}
use Rattle.sums.specs.Reader.{Got, got, bad}
use Rattle.labels.proofs.Spans.{run_past, every-run, past_head}
use Rattle.labels.proofs.Classes.{digit_low, digit-high}
use Rattle.sums.proofs.Sound.{sound, bad-got, cons-is, skipped, is-name, onto-got}
use Rattle.lines.specs.Lines.{Kind, register, immediate, kinds_of, Operand, reg, sum, Operands, without, last, more, Line, blank, defines, instruction, operand_text, operands_text, arguments_text, line_text, operand_value, pushed, operands_values, word_for, Saying, empty, named, wrong, saying_of, line_saying}
use Rattle.lines.specs.Reader.{is_teen, register_read, operand_read, nothing, with, operands_read, instruction_read, word_read, line_read}
use Rattle.lines.proofs.Complete.{name-is, parts-of}
use Rattle.lines.proofs.Names.{turned, one_key}

-- ---- a register
RegisterSound : List ℕ → ℤ → List ℕ → Type 0
RegisterSound t v u = (r : ℕ) × (ltb r 16 ≡ true) × (t ≡ register_text r ++ u) × (pos r ≡ v)

two-sound : (t : List ℕ) (v : ℤ) (u : List ℕ) → head_of t ≡ 82 → is_teen (tail_of t) ≡ true → got (pos (head_of (tail_of (tail_of t)) - 38)) (tail_of (tail_of (tail_of t))) ≡ got v u → RegisterSound t v u
unfolding RegisterSound
two-sound t v u e k h =
    let b : ℕ = head_of (tail_of (tail_of t)) in
    let teen = and_parts (eqb (head_of (tail_of t)) 49) (leb 48 b && leb b 53) k in
    let l = leb-true 48 b (and_parts (leb 48 b) (leb b 53) teen.1).0 in
    let m = leb-true b 53 (and_parts (leb 48 b) (leb b 53) teen.1).1 in
    let r : ℕ = b - 38 in
    let p : tail_of (tail_of (tail_of t)) ≡ u = cc in
    let q : b ≡ 38 + r = omega arith in (
      r,
      lt-ltb r 16 (omega arith),
      cons-is t 82 e (λ z. omega arith)
          ∙ ap (82 ∷◌) (cons-is (tail_of t) 49 (eqb-true (head_of (tail_of t)) 49 teen.0) (λ z. omega arith) ∙ ap (49 ∷◌) (cons-is (tail_of (tail_of t)) (38 + r) q (λ z. omega arith) ∙ ap ((38 + r) ∷◌) p))
          ∙ ap (λ (x : Bool). (82 ∷ cond x ((48 + r) ∷ []) (49 ∷ ((38 + r) ∷ []))) ++ u) (sym (le-ltb r 10 (omega arith))),
      cc,
    )

one-sound : (t : List ℕ) (v : ℤ) (u : List ℕ) → head_of t ≡ 82 → is_digit (head_of (tail_of t)) ≡ true → got (pos (head_of (tail_of t) - 48)) (tail_of (tail_of t)) ≡ got v u → RegisterSound t v u
unfolding RegisterSound
one-sound t v u e k h =
    let b : ℕ = head_of (tail_of t) in
    let l = digit_low b k in
    let m = digit-high b k in
    let r : ℕ = b - 48 in
    let p : tail_of (tail_of t) ≡ u = cc in
    let q : b ≡ 48 + r = omega arith in (
      r,
      lt-ltb r 16 (omega arith),
      cons-is t 82 e (λ z. omega arith) ∙ ap (82 ∷◌) (cons-is (tail_of t) (48 + r) q (λ z. omega arith) ∙ ap ((48 + r) ∷◌) p)
          ∙ ap (λ (x : Bool). (82 ∷ cond x ((48 + r) ∷ []) (49 ∷ ((38 + r) ∷ []))) ++ u) (sym (lt-ltb r 10 (omega arith))),
      cc,
    )

register-sound : (t : List ℕ) (v : ℤ) (u : List ℕ) → register_read t ≡ got v u → RegisterSound t v u
unfolding register_read
register-sound t v u = go (eqb (head_of t) 82) refl
  where
    by : (x y : Bool) → eqb (head_of t) 82 ≡ true → is_teen (tail_of t) ≡ x → is_digit (head_of (tail_of t)) ≡ y
        → cond x (got (pos (head_of (tail_of (tail_of t)) - 38)) (tail_of (tail_of (tail_of t)))) (cond y (got (pos (head_of (tail_of t) - 48)) (tail_of (tail_of t))) bad) ≡ got v u → RegisterSound t v u
    by true y e k d h = two-sound t v u (eqb-true (head_of t) 82 e) k h
    by false true e k d h = one-sound t v u (eqb-true (head_of t) 82 e) d h
    by false false e k d h = bad-got h

    go : (x : Bool) → eqb (head_of t) 82 ≡ x
        → cond x (cond (is_teen (tail_of t)) (got (pos (head_of (tail_of (tail_of t)) - 38)) (tail_of (tail_of (tail_of t)))) (cond (is_digit (head_of (tail_of t))) (got (pos (head_of (tail_of t) - 48)) (tail_of (tail_of t))) bad)) bad ≡ got v u → RegisterSound t v u
    go true e h = by (is_teen (tail_of t)) (is_digit (head_of (tail_of t))) e refl refl h
    go false e h = bad-got h

none-some : {A : Type 0} {vs : List ℤ} → None ≡ Some vs → A
none-some h = absurd (cc)

is-nothing : (t : List ℕ) → nothing t ≡ true → t ≡ []
is-nothing [] h = refl
is-nothing (b ∷ t) h = absurd (cc)

-- ---- operands
module _ (look : List ℕ → Option ℤ) where
  OperandSound : Kind → List ℕ → ℤ → List ℕ → Type 0
  OperandSound k t v u = (o : Operand k) × ((h : ℕ) × (t ≡ operand_text o ++ (spaces h ++ u)) × (operand_value o look ≡ Some v))

  operand_sound : (k : Kind) (t : List ℕ) (v : ℤ) (u : List ℕ) → operand_read k look t ≡ got v u → OperandSound k t v u
  unfolding OperandSound operand_read RegisterSound
  operand_sound register t v u h =
      let k = onto-got look (λ v u. got v (skip u)) (register_read t) v u h in
      let r = register-sound t k.0 k.1.0 k.1.1 in
      let e = k.1.2 in
      let same : k.0 ≡ v = cc in
      let rest : skip k.1.0 ≡ u = cc in
      (reg r.0 r.1, (length (run_of is_space k.1.0), r.2 ∙ ap (register_text r.0 ++◌) (skipped k.1.0 ∙ ap (spaces (length (run_of is_space k.1.0)) ++◌) rest), ap Some (r.3 ∙ same)))
  operand_sound immediate t v u h = let k = sound look 16 t v u h in (sum k.0, (k.1.0, k.1.1, k.1.2))

  with-some : (x : Got) (go : ℤ → List ℕ → Option (List ℤ)) (vs : List ℤ) → with x go ≡ Some vs → (v : ℤ) × ((u : List ℕ) × (x ≡ got v u) × (go v u ≡ Some vs))
  with-some bad go vs h = none-some h
  with-some (got v u) go vs h = (v, (u, refl, h))

  push-some : (v : ℤ) (o : Option (List ℤ)) (vs : List ℤ) → pushed (Some v) o ≡ Some vs → (ws : List ℤ) × (o ≡ Some ws) × (vs ≡ v ∷ ws)
  push-some v None vs h = none-some h
  push-some v (Some ws) vs h = (ws, refl, cc)

  cond-some : (c : Bool) (o : Option (List ℤ)) (vs : List ℤ) → cond c o None ≡ Some vs → (c ≡ true) × (o ≡ Some vs)
  cond-some true o vs h = (refl, h)
  cond-some false o vs h = none-some h

  OperandsSound : List Kind → List ℕ → List ℤ → Type 0
  OperandsSound ks t vs = (os : Operands ks) × ((n : ℕ) × (t ≡ operands_text os ++ spaces n) × (operands_values os look ≡ Some vs))

  module _ (k : Kind) (o : Operand k) (t u : List ℕ) (v : ℤ) (h : ℕ) (e : skip t ≡ operand_text o ++ (spaces h ++ u)) (w : operand_value o look ≡ Some v) where
    g : ℕ
    g = length (run_of is_space t)

    last-text : u ≡ [] → t ≡ operands_text (last g o h) ++ []
    unfolding g operands_text
    last-text n = skipped t ∙ ap (spaces g ++◌) (e ∙ ap (λ (x : List ℕ). operand_text o ++ (spaces h ++ x)) n) ∙ simp append_assoc

    last-sound : (vs : List ℤ) → u ≡ [] → Some (v ∷ []) ≡ Some vs → OperandsSound (k ∷ []) t vs
    unfolding OperandsSound operands_values
    last-sound vs n q = (last g o h, (0, last-text n, ap (λ (x : Option ℤ). pushed x (Some [])) w ∙ q))

    module _ (j : Kind) (ks : List Kind) (os : Operands (j ∷ ks)) (n : ℕ) where
      more-text : head_of u ≡ 44 → tail_of u ≡ operands_text os ++ spaces n → t ≡ operands_text (more g o h os) ++ spaces n
      unfolding g operands_text
      more-text c r =
          let f : u ≡ 44 ∷ (operands_text os ++ spaces n) = cons-is u 44 c (λ z. omega arith) ∙ ap (44 ∷◌) r in
          skipped t ∙ ap (spaces g ++◌) (e ∙ ap (λ (x : List ℕ). operand_text o ++ (spaces h ++ x)) f) ∙ simp append_assoc

      more-sound : (vs ws : List ℤ) → head_of u ≡ 44 → tail_of u ≡ operands_text os ++ spaces n → operands_values os look ≡ Some ws → vs ≡ v ∷ ws → OperandsSound (k ∷ (j ∷ ks)) t vs
      unfolding OperandsSound operands_values
      more-sound vs ws c r q s = (
        more g o h os,
        (n, more-text c r, ap (λ (x : Option ℤ). pushed x (operands_values os look)) w ∙ ap (pushed (Some v)) q ∙ ap Some (sym s)),
      )

  operands-sound : (ks : List Kind) (t : List ℕ) (vs : List ℤ) → operands_read ks look t ≡ Some vs → OperandsSound ks t vs
  unfolding operands_read OperandsSound OperandSound operands_text operands_values
  operands-sound [] t vs h =
      let k = cond-some (nothing (skip t)) (Some []) vs h in
      (without, (length (run_of is_space t), skipped t ∙ ap (spaces (length (run_of is_space t)) ++◌) (is-nothing (skip t) k.0) ∙ append-nil (spaces (length (run_of is_space t))), k.1))
  operands-sound (k ∷ []) t vs h =
      let x = with-some (operand_read k look (skip t)) (λ v u. cond (nothing u) (Some (v ∷ [])) None) vs h in
      let c = cond-some (nothing x.1.0) (Some (x.0 ∷ [])) vs x.1.2 in
      let o = operand_sound k (skip t) x.0 x.1.0 x.1.1 in
      last-sound k o.0 t x.1.0 x.0 o.1.0 o.1.1 o.1.2 vs (is-nothing x.1.0 c.0) c.1
  operands-sound (k ∷ (j ∷ ks)) t vs h =
      let x = with-some (operand_read k look (skip t)) (λ v u. cond (eqb (head_of u) 44) (pushed (Some v) (operands_read (j ∷ ks) look (tail_of u))) None) vs h in
      let c = cond-some (eqb (head_of x.1.0) 44) (pushed (Some x.0) (operands_read (j ∷ ks) look (tail_of x.1.0))) vs x.1.2 in
      let p = push-some x.0 (operands_read (j ∷ ks) look (tail_of x.1.0)) vs c.1 in
      let rest = operands-sound (j ∷ ks) (tail_of x.1.0) p.0 p.1 in
      let o = operand_sound k (skip t) x.0 x.1.0 x.1.1 in
      more-sound k o.0 t x.1.0 x.0 o.1.0 o.1.1 o.1.2 j ks rest.0 rest.1.0 vs p.0 (eqb-true (head_of x.1.0) 44 c.0) rest.1.1 rest.1.2 p.2

  -- with the space that must stand before the first
  ArgumentsSound : List Kind → List ℕ → List ℤ → Type 0
  ArgumentsSound ks t vs = (os : Operands ks) × ((n : ℕ) × (t ≡ arguments_text os ++ spaces n) × (operands_values os look ≡ Some vs))

  spaced : {j : Kind} {ks : List Kind} (os : Operands (register ∷ (j ∷ ks))) (n : ℕ) (t : List ℕ) (vs : List ℤ) → t ≡ operands_text os ++ spaces n → operands_values os look ≡ Some vs → is_part (head_of t) ≡ false → ArgumentsSound (register ∷ (j ∷ ks)) t vs
  unfolding ArgumentsSound operands_text operands_values head_of
  spaced (more zero (reg r p) h os) n t vs e v a = absurd (let q : true ≡ false = sym (ap (λ (u : List ℕ). is_part (head_of u)) e) ∙ a in cc)
  spaced (more (suc g) o h os) n t vs e v a = (more g o h os, (n, e, v))

  arguments_sound : (f : Form) (t : List ℕ) (vs : List ℤ) → is_part (head_of t) ≡ false → operands_read (kinds_of f) look t ≡ Some vs → ArgumentsSound (kinds_of f) t vs
  unfolding OperandsSound ArgumentsSound operands_text
  arguments_sound R t vs a h = let k = operands-sound (kinds_of R) t vs h in spaced k.0 k.1.0 t vs k.1.1 k.1.2 a
  arguments_sound I t vs a h = let k = operands-sound (kinds_of I) t vs h in spaced k.0 k.1.0 t vs k.1.1 k.1.2 a
  arguments_sound Shift t vs a h = let k = operands-sound (kinds_of I) t vs h in spaced k.0 k.1.0 t vs k.1.1 k.1.2 a
  arguments_sound S t vs a h = let k = operands-sound (kinds_of I) t vs h in spaced k.0 k.1.0 t vs k.1.1 k.1.2 a
  arguments_sound B t vs a h = let k = operands-sound (kinds_of I) t vs h in spaced k.0 k.1.0 t vs k.1.1 k.1.2 a
  arguments_sound J t vs a h = let k = operands-sound (kinds_of J) t vs h in spaced k.0 k.1.0 t vs k.1.1 k.1.2 a
  arguments_sound Alone t vs a h = let k = operands-sound [] t vs h in go k.0 k.1.0 k.1.1 k.1.2
    where
      go : (os : Operands []) (n : ℕ) → t ≡ operands_text os ++ spaces n → operands_values os look ≡ Some vs → ArgumentsSound [] t vs
      go without n e v = (without, (n, e, v))

-- ---- names
name-short : (op : Opcode) → length (turned (name_of op) []) ≤ 7
unfolding all
name-short op = leb-true (length (turned (name_of op) [])) 7 (everywhere all O.Add place all-at (λ (op : Opcode). leb (length (turned (name_of op) [])) 7) (λ (op : Opcode). true) refl refl op)

-- ---- a line
module _ (look : Form → List ℕ → Option ℤ) where
  LineSound : List ℕ → Saying → Type 0
  LineSound t x = (l : Line) × (t ≡ line_text l) × (line_saying l look ≡ x)

  refused : {A : Type 0} (x : Saying) → wrong ≡ x → (x ≡ wrong → ⊥) → A
  refused x e n = absurd (n (sym e))

  told-word : (op : Opcode) (o : Option (List ℤ)) (x : Saying) → saying_of (word_for op o) ≡ x → (x ≡ wrong → ⊥) → (vs : List ℤ) × (o ≡ Some vs)
  unfolding word_for
  told-word op None x e n = refused x e n
  told-word op (Some vs) x e n = (vs, refl)

  op-sound : (g : ℕ) (t : List ℕ) (f : Option Opcode) (x : Saying) → opcode_in name_key (key_of (run_of is_part t)) ≡ f → instruction_read f look (past is_part t) ≡ x → (x ≡ wrong → ⊥) → LineSound (spaces g ++ t) x
  unfolding LineSound line_text line_saying ArgumentsSound
  op-sound g t None x e h n = refused x h n
  op-sound g t (Some op) x e h n =
      let k = told-word op (operands_read (kinds_of (form_of op)) (look (form_of op)) (past is_part t)) x h n in
      let a = arguments_sound (look (form_of op)) (form_of op) (past is_part t) k.0 (past_head is_part t refl) k.1 in
      let name : run_of is_part t ≡ name_of op = one_key (run_of is_part t) (name_of op) (every-run is_part t) (parts-of look (name_of op) (name-is op)) (name-short op) (sym (number-found name_key all (key_of (run_of is_part t)) op e)) in (
        instruction g op a.0 a.1.0,
        ap (spaces g ++◌) (sym (run_past is_part t) ∙ ap (λ (u : List ℕ). u ++ past is_part t) name ∙ ap (name_of op ++◌) a.1.1),
        ap (λ (o : Option (List ℤ)). saying_of (word_for op o)) (a.1.2 ∙ sym k.1) ∙ h,
      )

  word_sound : (g : ℕ) (t : List ℕ) (x : Saying) → is_letter (head_of t) ≡ true → word_read look t ≡ x → (x ≡ wrong → ⊥) → LineSound (spaces g ++ t) x
  unfolding word_read LineSound line_text line_saying
  word_sound g t x l h n = go (eqb (head_of (skip (past is_part t))) 58) refl h
    where
      colon : (c : Bool) → nothing (skip (tail_of (skip (past is_part t)))) ≡ c → head_of (skip (past is_part t)) ≡ 58 → cond c (named (run_of is_part t)) wrong ≡ x → LineSound (spaces g ++ t) x
      colon false e p h = refused x h n
      colon true e p h =
          let u : List ℕ = past is_part t in
          let i : ℕ = length (run_of is_space u) in
          let j : ℕ = length (run_of is_space (tail_of (skip u))) in (
            defines g (run_of is_part t) (is-name (look R) 0 t l) i j,
            ap (spaces g ++◌) (sym (run_past is_part t) ∙ ap (run_of is_part t ++◌) (skipped u ∙ ap (spaces i ++◌) (cons-is (skip u) 58 p (λ z. omega arith) ∙ ap (58 ∷◌) (skipped (tail_of (skip u)) ∙ ap (spaces j ++◌) (is-nothing (skip (tail_of (skip u))) e) ∙ append-nil (spaces j))))),
            h,
          )

      go : (c : Bool) → eqb (head_of (skip (past is_part t))) 58 ≡ c
          → cond c (cond (nothing (skip (tail_of (skip (past is_part t))))) (named (run_of is_part t)) wrong) (instruction_read (opcode_in name_key (key_of (run_of is_part t))) look (past is_part t)) ≡ x → LineSound (spaces g ++ t) x
      go true e h = colon (nothing (skip (tail_of (skip (past is_part t))))) refl (eqb-true (head_of (skip (past is_part t))) 58 e) h
      go false e h = op-sound g t (opcode_in name_key (key_of (run_of is_part t))) x refl h n

  -- whatever is read, but for a bad line, is what a line with that text says
  pub line-sound : (t : List ℕ) (x : Saying) → line_read look t ≡ x → (x ≡ wrong → ⊥) → (l : Line) × (t ≡ line_text l) × (line_saying l look ≡ x)
  unfolding line_read LineSound line_text line_saying
  line-sound t x h n = go (nothing (skip t)) refl h
    where
      g : ℕ
      g = length (run_of is_space t)

      by : (c : Bool) → is_letter (head_of (skip t)) ≡ c → cond c (word_read look (skip t)) wrong ≡ x → LineSound t x
      by true e h = subst (λ (u : List ℕ). LineSound u x) (sym (skipped t)) (word_sound g (skip t) x e h n)
      by false e h = refused x h n

      go : (c : Bool) → nothing (skip t) ≡ c → cond c empty (cond (is_letter (head_of (skip t))) (word_read look (skip t)) wrong) ≡ x → LineSound t x
      go true e h = (blank g, skipped t ∙ ap (spaces g ++◌) (is-nothing (skip t) e) ∙ append-nil (spaces g), h)
      go false e h = by (is_letter (head_of (skip t))) refl h
