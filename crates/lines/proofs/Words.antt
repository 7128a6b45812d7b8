-- The operands of an instruction one by one, and its word. Assumes nothing.
use Rattle.std.proofs.Common.{None, Option, Some, ◌≡◌, ℕ, ◌<◌, ◌≤◌, Bool, true, false, cond, eqb, List, [], ◌∷◌, length, drop, ℤ, pos, sym, refl, ap, ◌∙◌, w64, of_z, to_z, FitsSigned}
use Rattle.std.proofs.lemmas.Int.{to_z-of_z}
use Rattle.opcode.specs.Opcodes.{opcode_number, form_of}
use Rattle.opcode.specs.declared.Opcode.{Opcode}
use Rattle.opcode.specs.declared.Form.{Form}
use Rattle.opcode.specs.declared.Form.TheVariants.{R, I, Shift, S, B, J, Alone}
use Rattle.instruction.specs.declared.Parts.{Parts}
use Rattle.words.specs.Words.{encoded_in}
use Rattle.labels.specs.Bytes.{head_of, is_space}
use Rattle.labels.specs.Reading.{tail_of, skip, Passed}
use Rattle.sums.specs.Reader.{Got, got, bad, onto}
use Rattle.lines.proofs.Steps.{nothing-end, nothing-not}
use Rattle.lines.specs.Lines.{Kind, register, kinds_of, pushed, parts, parts_by, word_made, word_for, saying_of, Saying}
use Rattle.lines.specs.Reader.{operand_read, nothing, with, operands_read}
use Rattle.lines.specs.Code.{comma_read, last_read, is_numbered}

-- ---- operands, one by one
module _ (look : List ℕ → Option ℤ) where
  ops-comma : (k j : Kind) (ks : List Kind) (t : List ℕ) → operands_read (k ∷ (j ∷ ks)) look t ≡ with (comma_read k look t) (λ v u. pushed (Some v) (operands_read (j ∷ ks) look u))
  unfolding operands_read comma_read
  ops-comma k j ks t = go (operand_read k look (skip t))
    where
      by : (c : Bool) (v : ℤ) (u : List ℕ) → cond c (pushed (Some v) (operands_read (j ∷ ks) look (tail_of u))) None ≡ with (cond c (got v (tail_of u)) bad) (λ v u. pushed (Some v) (operands_read (j ∷ ks) look u))
      by true v u = refl
      by false v u = refl

      go : (w : Got) → with w (λ v u. cond (eqb (head_of u) 44) (pushed (Some v) (operands_read (j ∷ ks) look (tail_of u))) None) ≡ with (onto (λ v u. cond (eqb (head_of u) 44) (got v (tail_of u)) bad) w) (λ v u. pushed (Some v) (operands_read (j ∷ ks) look u))
      go bad = refl
      go (got v u) = by (eqb (head_of u) 44) v u

  ops-last : (k : Kind) (t : List ℕ) → operands_read (k ∷ []) look t ≡ with (last_read k look t) (λ v u. Some (v ∷ []))
  unfolding operands_read last_read
  ops-last k t = go (operand_read k look (skip t))
    where
      by : (c : Bool) (v : ℤ) (u : List ℕ) → cond c (Some (v ∷ [])) None ≡ with (cond c (got v u) bad) (λ v u. Some (v ∷ []))
      by true v u = refl
      by false v u = refl

      go : (w : Got) → with w (λ v u. cond (nothing u) (Some (v ∷ [])) None) ≡ with (onto (λ v u. cond (nothing u) (got v u) bad) w) (λ v u. Some (v ∷ []))
      go bad = refl
      go (got v u) = by (nothing u) v u

  pub first-bad : (k j : Kind) (ks : List Kind) (t : List ℕ) → comma_read k look t ≡ bad → operands_read (k ∷ (j ∷ ks)) look t ≡ None
  first-bad k j ks t e = ops-comma k j ks t ∙ ap (λ (w : Got). with w (λ v u. pushed (Some v) (operands_read (j ∷ ks) look u))) e

  pub first-got : (k j : Kind) (ks : List Kind) (t : List ℕ) (v : ℤ) (u : List ℕ) (o : Option (List ℤ)) → comma_read k look t ≡ got v u → operands_read (j ∷ ks) look u ≡ o → operands_read (k ∷ (j ∷ ks)) look t ≡ pushed (Some v) o
  first-got k j ks t v u o e f = ops-comma k j ks t ∙ ap (λ (w : Got). with w (λ v u. pushed (Some v) (operands_read (j ∷ ks) look u))) e ∙ ap (pushed (Some v)) f

  pub last_none : (k : Kind) (t : List ℕ) → last_read k look t ≡ bad → operands_read (k ∷ []) look t ≡ None
  last_none k t e = ops-last k t ∙ ap (λ (w : Got). with w (λ v u. Some (v ∷ []))) e

  pub last_some : (k : Kind) (t : List ℕ) (v : ℤ) (u : List ℕ) → last_read k look t ≡ got v u → operands_read (k ∷ []) look t ≡ Some (v ∷ [])
  last_some k t v u e = ops-last k t ∙ ap (λ (w : Got). with w (λ v u. Some (v ∷ []))) e

  -- a register does not ask what labels mean
  pub register-any : (look' : List ℕ → Option ℤ) (t : List ℕ) (w : Got) → comma_read register look' t ≡ w → comma_read register look t ≡ w
  unfolding comma_read operand_read
  register-any look' t w e = e

-- ---- the word
pub none-word : (op : Opcode) (o : Option (List ℤ)) → o ≡ None → saying_of (word_for op o) ≡ Saying.wrong
unfolding word_for
none-word op o e = ap (λ (x : Option (List ℤ)). saying_of (word_for op x)) e

pub some_word : (op : Opcode) (o : Option (List ℤ)) (vs : List ℤ) (p : Parts) → o ≡ Some vs → parts_by op (form_of op) vs ≡ p → saying_of (word_for op o) ≡ saying_of (word_made (encoded_in opcode_number p))
unfolding word_for
some_word op o vs p e q = ap (λ (x : Option (List ℤ)). saying_of (word_for op x)) e ∙ ap (λ (x : Parts). saying_of (word_made (encoded_in opcode_number x))) q

module _ (op : Opcode) (a b : ℕ) where
  pub parts-three : (c : ℕ) → form_of op ≡ R → parts_by op (form_of op) (pos a ∷ (pos b ∷ (pos c ∷ []))) ≡ parts op a b c 0
  unfolding parts_by
  parts-three c e = ap (λ (f : Form). parts_by op f (pos a ∷ (pos b ∷ (pos c ∷ [])))) e

  pub parts-two : (v : ℤ) (i : ℕ) → is_numbered (form_of op) ≡ true → i ≡ of_z w64 v → parts_by op (form_of op) (pos a ∷ (pos b ∷ (v ∷ []))) ≡ parts op a b 0 i
  unfolding parts_by
  parts-two v i h e = go (form_of op) h
    where
      no : {A : Type 0} → false ≡ true → A
      no h = absurd (cc)

      go : (f : Form) → is_numbered f ≡ true → parts_by op f (pos a ∷ (pos b ∷ (v ∷ []))) ≡ parts op a b 0 i
      go R h = no h
      go I h = ap (parts op a b 0) (sym e)
      go Shift h = ap (parts op a b 0) (sym e)
      go S h = ap (parts op a b 0) (sym e)
      go B h = ap (parts op a b 0) (sym e)
      go J h = no h
      go Alone h = no h

pub parts-one : (op : Opcode) (a : ℕ) (v : ℤ) (i : ℕ) → form_of op ≡ J → i ≡ of_z w64 v → parts_by op (form_of op) (pos a ∷ (v ∷ [])) ≡ parts op a 0 0 i
unfolding parts_by
parts-one op a v i e q = ap (λ (f : Form). parts_by op f (pos a ∷ (v ∷ []))) e ∙ ap (parts op a 0 0) (sym q)

pub parts_none : (op : Opcode) → form_of op ≡ Alone → parts_by op (form_of op) [] ≡ parts op 0 0 0 0
unfolding parts_by
parts_none op e = ap (λ (f : Form). parts_by op f []) e

pub bits-of : (v : ℤ) (i : ℕ) → FitsSigned w64 v → i ≡ of_z w64 (to_z w64 (of_z w64 v)) → i ≡ of_z w64 v
bits-of v i f e = e ∙ ap (of_z w64) (to_z-of_z w64 v f)

-- ---- no operands
module _ (s : List ℕ) (at n : ℕ) (look : List ℕ → Option ℤ) (p : Passed is_space s at n) where
  pub none_left : n < length s → operands_read [] look (drop at s) ≡ None
  unfolding operands_read
  none_left h = ap (λ (u : List ℕ). cond (nothing u) (Some []) None) (sym p.rest) ∙ ap (λ (c : Bool). cond c (Some []) None) (nothing-not s n h)

  pub none-there : length s ≤ n → operands_read [] look (drop at s) ≡ Some []
  unfolding operands_read
  none-there h = ap (λ (u : List ℕ). cond (nothing u) (Some []) None) (sym p.rest) ∙ ap (λ (c : Bool). cond c (Some []) None) (nothing-end s n h)

-- three registers do not ask what labels mean
pub three-any : (look look' : List ℕ → Option ℤ) (t : List ℕ) → operands_read (kinds_of R) look t ≡ operands_read (kinds_of R) look' t
unfolding operands_read operand_read
three-any look look' t = refl
