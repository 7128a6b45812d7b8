-- Whatever spells a line is read as what it says. Assumes nothing.
use Rattle.std.proofs.lemmas.Bool.{and_parts, or_parts}
use Rattle.std.proofs.lemmas.List.{append-nil}
use Rattle.std.proofs.Math.Bool.{and-false}
use Rattle.std.proofs.Common.{None, Option, Some, ◌≡◌, ℕ, zero, suc, ◌+◌, ◌-◌, ◌<◌, ◌≤◌, Bool, true, false, cond, ◌&&◌, ◌||◌, eqb, ltb, leb, List, [], ◌∷◌, ◌++◌, ℤ, pos, refl, ap, ◌∙◌, subst, append_assoc, arith, ltb-false, ltb-true, ne_eqb, le-leb, leb-false}
use lib.ListN.{replicate-append-replicate}
use borrow.Author.Tests.{lt-leb}
use Rattle.opcode.specs.Opcodes.{all, opcode_in, form_of}
use Rattle.opcode.specs.declared.Opcode.{Opcode}
use Rattle.opcode.specs.declared.Opcode.TheVariants as O
use Rattle.opcode.specs.declared.Form.{Form}
use Rattle.opcode.proofs.Arms.{everywhere}
use Rattle.opcode.proofs.Variants.{place, all-at}
use Rattle.names.specs.Names.{register_text, name_of, name_key}
use Rattle.names.proofs.Fifty.{found}
use Rattle.labels.specs.Bytes.{is_space, is_digit, is_letter, is_part, every, is_name, is_number, spaces, head_of, key_of}
use Rattle.sums.specs.Sums.{Term, number as numeral, label, group, unsigned, plus, minus, term_text, rest_text}
use Rattle.labels.specs.Reading.{tail_of, run_of, past, skip}
use Rattle.sums.specs.Reader.{Got, got, bad, given, onto}
use Rattle.labels.proofs.Spans.{past_stop, past-append, run-append, skip-spaces}
use Rattle.sums.proofs.Complete.{Ends, complete, space-apart}
use Rattle.labels.proofs.Classes.{or-true, digit_low, digit-high, letter-low}
use Rattle.lines.specs.Lines.{Kind, kinds_of, Operand, reg, sum, Operands, without, last, more, Line, blank, defines, instruction, operand_text, operands_text, arguments_text, line_text, operand_value, pushed, operands_values, word_for, empty, named, wrong, saying_of, line_saying}
use Rattle.lines.specs.Reader.{register_read, operand_read, nothing, with, operands_read, instruction_read, word_read, line_read}

pub skip_all : (n : ℕ) → skip (spaces n) ≡ []
unfolding past
skip_all zero = refl
skip_all (suc n) = skip_all n

-- ---- the first byte of an operand: no space and no colon
first : ℕ → Bool
first b = eqb b 32 || eqb b 58

not_first : (b : ℕ) → (b ≡ 32 → ⊥) → (b ≡ 58 → ⊥) → first b ≡ false
unfolding first
not_first b s c = simp (ne_eqb b 32 s, ne_eqb b 58 c)

term-first : (e : Term) (t : List ℕ) → first (head_of (term_text e ++ t)) ≡ false
unfolding term_text head_of is_number is_name every first
term-first (numeral unsigned [] h) t = absurd (cc)
term-first (numeral unsigned (b ∷ ds) h) t =
    let d = (and_parts (is_digit b) (every is_digit ds) h).0 in
    let l = digit_low b d in let u = digit-high b d in not_first b (λ z. omega arith) (λ z. omega arith)
term-first (numeral plus ds h) t = refl
term-first (numeral minus ds h) t = refl
term-first (label [] h) t = absurd (cc)
term-first (label (b ∷ name) h) t = let l = letter-low b (and_parts (is_letter b) (every is_part name) h).0 in not_first b (λ z. omega arith) (λ z. omega arith)
term-first (group g e r k) t = refl

operand-first : {k : Kind} (o : Operand k) (t : List ℕ) → first (head_of (operand_text o ++ t)) ≡ false
unfolding head_of first
operand-first (reg r h) t = refl
operand-first (sum e) t = rw append_assoc (term-first e.first (rest_text e.rest ++ t))

first-space : (b : ℕ) → first b ≡ false → is_space b ≡ false
unfolding first
first-space b h = go (eqb b 32) h
  where
    go : (x : Bool) → x || eqb b 58 ≡ false → x ≡ false
    go true h = h
    go false h = refl

first-colon : (b : ℕ) → first b ≡ false → eqb b 58 ≡ false
unfolding first
first-colon b h = go (eqb b 32) h
  where
    go : (x : Bool) → x || eqb b 58 ≡ false → eqb b 58 ≡ false
    go true h = absurd (cc)
    go false h = h

skip-operand : {k : Kind} (o : Operand k) (t : List ℕ) → skip (operand_text o ++ t) ≡ operand_text o ++ t
skip-operand o t = past_stop is_space (operand_text o ++ t) (first-space (head_of (operand_text o ++ t)) (operand-first o t))

-- ---- an operand
teen-no : (a b : ℕ) → is_digit b ≡ false → eqb a 49 && (leb 48 b && leb b 53) ≡ false
teen-no a b h = go (leb 48 b) h
  where
    go : (x : Bool) → x && leb b 57 ≡ false → eqb a 49 && (x && leb b 53) ≡ false
    go true h = let u = leb-false b 57 h in ap (λ (y : Bool). eqb a 49 && y) (lt-leb b 53 (omega arith)) ∙ and-false (eqb a 49)
    go false h = and-false (eqb a 49)

register-one : (r : ℕ) (t : List ℕ) → r < 10 → is_digit (head_of t) ≡ false → register_read (82 ∷ ((48 + r) ∷ t)) ≡ got (pos r) t
unfolding register_read head_of tail_of
register-one r t h d =
    ap (λ (x : Bool). cond x (got (pos (head_of t - 38)) (tail_of t)) (cond (is_digit (48 + r)) (got (pos (48 + r - 48)) t) bad)) (teen-no (48 + r) (head_of t) d)
    ∙ simp (le-leb 48 (48 + r) (omega arith), le-leb (48 + r) 57 (omega arith)) (ap (λ (n : ℕ). got (pos n) t) (omega arith))

register-two : (r : ℕ) (t : List ℕ) → 10 ≤ r → r < 16 → register_read (82 ∷ (49 ∷ ((38 + r) ∷ t))) ≡ got (pos r) t
unfolding register_read head_of tail_of
register-two r t l h = simp (le-leb 48 (38 + r) (omega arith), le-leb (38 + r) 53 (omega arith)) (ap (λ (n : ℕ). got (pos n) t) (omega arith))

register-law : (r : ℕ) (t : List ℕ) → ltb r 16 ≡ true → is_digit (head_of t) ≡ false → register_read (register_text r ++ t) ≡ got (pos r) t
register-law r t h d = go (ltb r 10) refl
  where
    go : (x : Bool) → ltb r 10 ≡ x → register_read ((82 ∷ cond x ((48 + r) ∷ []) (49 ∷ ((38 + r) ∷ []))) ++ t) ≡ got (pos r) t
    go true e = register-one r t (ltb-true r 10 e) d
    go false e = register-two r t (ltb-false r 10 e) (ltb-true r 16 h)

some-given : (o : Option ℤ) (t : List ℕ) (go : ℤ → List ℕ → Option (List ℤ)) (rest : Option (List ℤ)) → ((v : ℤ) → go v t ≡ pushed (Some v) rest) → with (given o t) go ≡ pushed o rest
some-given None t go rest h = refl
some-given (Some v) t go rest h = h v

operand-law : {k : Kind} (o : Operand k) (look : List ℕ → Option ℤ) (t : List ℕ) → Ends t → operand_read k look (operand_text o ++ t) ≡ given (operand_value o look) (skip t)
unfolding operand_read
operand-law (reg r h) look t e = ap (onto (λ v u. got v (skip u))) (register-law r t h (or_parts (is_letter (head_of t)) (is_digit (head_of t)) e.apart).1)
operand-law (sum e) look t ends = complete e look 16 t ends

-- ---- operands, up to the end of the line
ends_by : (k : ℕ) (t : List ℕ) → is_part (head_of t) ≡ false → is_space (head_of t) ≡ false → eqb (head_of t) 43 ≡ false → eqb (head_of t) 45 ≡ false → Ends (spaces k ++ t)
ends_by k t a s p m =
    let e : skip (spaces k ++ t) ≡ t = skip-spaces k t ∙ past_stop is_space t s in
    record { apart = space-apart k t a; no_plus = ap (λ (u : List ℕ). eqb (head_of u) 43) e ∙ p; no_minus = ap (λ (u : List ℕ). eqb (head_of u) 45) e ∙ m }

two-gaps : (g h : ℕ) → spaces g ++ spaces h ≡ spaces (g + h)
two-gaps g h = replicate-append-replicate g h 32

ends_last : (k : ℕ) → Ends (spaces k)
unfolding head_of
ends_last k = subst Ends (append-nil (spaces k)) (ends_by k [] refl refl refl refl)

ends-comma : (k : ℕ) (t : List ℕ) → Ends (spaces k ++ (44 ∷ t))
unfolding head_of
ends-comma k t = ends_by k (44 ∷ t) refl refl refl refl

module _ (look : List ℕ → Option ℤ) where
  last-law : {k : Kind} (g : ℕ) (o : Operand k) (h n : ℕ) → operands_read (k ∷ []) look (operands_text (last g o h) ++ spaces n) ≡ operands_values (last g o h) look
  unfolding operands_read operands_text operands_values
  last-law {k} g o h n =
      let T : List ℕ = operand_text o ++ spaces (h + n) in
      let whole : operands_text (last g o h) ++ spaces n ≡ spaces g ++ T = simp append_assoc (ap (λ (u : List ℕ). spaces g ++ (operand_text o ++ u)) (two-gaps h n)) in
      let reads : operand_read k look (skip (operands_text (last g o h) ++ spaces n)) ≡ given (operand_value o look) [] =
      ap (λ (u : List ℕ). operand_read k look (skip u)) whole ∙ ap (operand_read k look) (skip-spaces g T ∙ skip-operand o (spaces (h + n)))
      ∙ operand-law o look (spaces (h + n)) (ends_last (h + n)) ∙ ap (given (operand_value o look)) (skip_all (h + n)) in
      ap (λ (x : Got). with x (λ v u. cond (nothing u) (Some (v ∷ [])) None)) reads
      ∙ some-given (operand_value o look) [] (λ v u. cond (nothing u) (Some (v ∷ [])) None) (Some []) (λ v. refl)

  more-law : {k j : Kind} {ks : List Kind} (g : ℕ) (o : Operand k) (h : ℕ) (os : Operands (j ∷ ks)) (n : ℕ) → operands_read (j ∷ ks) look (operands_text os ++ spaces n) ≡ operands_values os look
      → operands_read (k ∷ (j ∷ ks)) look (operands_text (more g o h os) ++ spaces n) ≡ operands_values (more g o h os) look
  unfolding operands_read operands_text operands_values head_of tail_of past
  more-law {k} {j} {ks} g o h os n ih =
      let U : List ℕ = operands_text os ++ spaces n in
      let Y : List ℕ = spaces h ++ (44 ∷ U) in
      let whole : operands_text (more g o h os) ++ spaces n ≡ spaces g ++ (operand_text o ++ Y) = simp append_assoc in
      let reads : operand_read k look (skip (operands_text (more g o h os) ++ spaces n)) ≡ given (operand_value o look) (44 ∷ U) =
      ap (λ (u : List ℕ). operand_read k look (skip u)) whole ∙ ap (operand_read k look) (skip-spaces g (operand_text o ++ Y) ∙ skip-operand o Y)
      ∙ operand-law o look Y (ends-comma h U) ∙ ap (given (operand_value o look)) (skip-spaces h (44 ∷ U)) in
      ap (λ (x : Got). with x (λ v u. cond (eqb (head_of u) 44) (pushed (Some v) (operands_read (j ∷ ks) look (tail_of u))) None)) reads
      ∙ some-given (operand_value o look) (44 ∷ U) (λ v u. cond (eqb (head_of u) 44) (pushed (Some v) (operands_read (j ∷ ks) look (tail_of u))) None) (operands_values os look) (λ v. ap (pushed (Some v)) ih)

  operands-law : {ks : List Kind} (os : Operands ks) (n : ℕ) → operands_read ks look (operands_text os ++ spaces n) ≡ operands_values os look
  unfolding operands_read operands_text operands_values
  operands-law without n = ap (λ (u : List ℕ). cond (nothing u) (Some []) None) (skip_all n)
  operands-law (last g o h) n = last-law g o h n
  operands-law (more g o h os) n = more-law g o h os n (operands-law os n)

  -- a space before them changes nothing
  space-first : (ks : List Kind) (t : List ℕ) → operands_read ks look (32 ∷ t) ≡ operands_read ks look t
  unfolding operands_read past
  space-first [] t = refl
  space-first (k ∷ []) t = refl
  space-first (k ∷ (j ∷ ks)) t = refl

  arguments-law : {ks : List Kind} (os : Operands ks) (n : ℕ) → operands_read ks look (arguments_text os ++ spaces n) ≡ operands_values os look
  unfolding operands_text
  arguments-law without n = operands-law without n
  arguments-law (last g o h) n = space-first _ (operands_text (last g o h) ++ spaces n) ∙ operands-law (last g o h) n
  arguments-law (more g o h os) n = space-first _ (operands_text (more g o h os) ++ spaces n) ∙ operands-law (more g o h os) n

arguments-apart : {ks : List Kind} (os : Operands ks) (n : ℕ) → is_part (head_of (arguments_text os ++ spaces n)) ≡ false
unfolding head_of
arguments-apart without n = subst (λ (u : List ℕ). is_part (head_of u) ≡ false) (append-nil (spaces n)) (space-apart n [] refl)
arguments-apart (last g o h) n = refl
arguments-apart (more g o h os) n = refl

after-gap : {k : Kind} (g : ℕ) (o : Operand k) (t : List ℕ) → eqb (head_of (skip (32 ∷ (spaces g ++ (operand_text o ++ t))))) 58 ≡ false
unfolding past
after-gap g o t = ap (λ (u : List ℕ). eqb (head_of u) 58) (skip-spaces g (operand_text o ++ t) ∙ skip-operand o t) ∙ first-colon (head_of (operand_text o ++ t)) (operand-first o t)

no-colon : {ks : List Kind} (os : Operands ks) (n : ℕ) → eqb (head_of (skip (arguments_text os ++ spaces n))) 58 ≡ false
unfolding head_of operands_text
no-colon without n = ap (λ (u : List ℕ). eqb (head_of u) 58) (skip_all n)
no-colon (last g o h) n = simp append_assoc (after-gap g o (spaces h ++ spaces n))
no-colon (more g o h os) n = simp append_assoc (after-gap g o (spaces h ++ (44 ∷ (operands_text os ++ spaces n))))

-- ---- a line
pub name-is : (op : Opcode) → is_name (name_of op) ≡ true
unfolding all is_name every
name-is = everywhere all O.Add place all-at (λ (op : Opcode). is_name (name_of op)) (λ (op : Opcode). true) refl refl

module _ (look : Form → List ℕ → Option ℤ) where
  -- a line that begins with a name
  starts : (g : ℕ) (name t : List ℕ) → is_name name ≡ true → line_read look (spaces g ++ (name ++ t)) ≡ word_read look (name ++ t)
  unfolding line_read is_name
  starts g [] t h = absurd (cc)
  starts g (b ∷ name) t h =
      let l = (and_parts (is_letter b) (every is_part name) h).0 in
      let low = letter-low b l in
      let to : skip (spaces g ++ ((b ∷ name) ++ t)) ≡ b ∷ (name ++ t) = skip-spaces g ((b ∷ name) ++ t) ∙ past_stop is_space (b ∷ (name ++ t)) (unfold head_of in (ne_eqb b 32 (λ z. omega arith))) in
      let lt : is_letter (head_of (b ∷ (name ++ t))) ≡ true = unfold head_of in l in
      ap (λ (u : List ℕ). cond (nothing u) empty (cond (is_letter (head_of u)) (word_read look u) wrong)) to
      ∙ ap (λ (x : Bool). cond x (word_read look (b ∷ (name ++ t))) wrong) lt

  pub parts-of : (name : List ℕ) → is_name name ≡ true → every is_part name ≡ true
  unfolding is_name every
  parts-of [] h = refl
  parts-of (b ∷ name) h = let k = and_parts (is_letter b) (every is_part name) h in rw (or-true (is_letter b) (is_digit b) k.0) k.1

  module _ (name t : List ℕ) (h : is_name name ≡ true) (a : is_part (head_of t) ≡ false) where
    runs : run_of is_part (name ++ t) ≡ name
    runs = run-append is_part name t (parts-of name h) a

    passes : past is_part (name ++ t) ≡ t
    passes = past-append is_part name t (parts-of name h) ∙ past_stop is_part t a

  defines-law : (g : ℕ) (name : List ℕ) (n : is_name name ≡ true) (h k : ℕ) → line_read look (line_text (defines g name n h k)) ≡ named name
  unfolding line_text word_read head_of tail_of past
  defines-law g name n h k =
      let t : List ℕ = spaces h ++ (58 ∷ spaces k) in
      let a : is_part (head_of t) ≡ false = unfold head_of in space-apart h (58 ∷ spaces k) refl in
      let colon : skip (past is_part (name ++ t)) ≡ 58 ∷ spaces k = ap skip (passes name t n a) ∙ skip-spaces h (58 ∷ spaces k) in
      starts g name t n
      ∙ ap (λ (u : List ℕ). cond (eqb (head_of u) 58) (cond (nothing (skip (tail_of u))) (named (run_of is_part (name ++ t))) wrong) (instruction_read (opcode_in name_key (key_of (run_of is_part (name ++ t)))) look (past is_part (name ++ t)))) colon
      ∙ ap (λ (u : List ℕ). cond (nothing u) (named (run_of is_part (name ++ t))) wrong) (skip_all k)
      ∙ ap named (runs name t n a)

  instruction-law : (g : ℕ) (op : Opcode) (os : Operands (kinds_of (form_of op))) (h : ℕ) → line_read look (line_text (instruction g op os h)) ≡ saying_of (word_for op (operands_values os (look (form_of op))))
  unfolding line_text word_read
  instruction-law g op os h =
      let t : List ℕ = arguments_text os ++ spaces h in
      let a = arguments-apart os h in
      let n = name-is op in
      let p = passes (name_of op) t n a in
      let colon : eqb (head_of (skip (past is_part (name_of op ++ t)))) 58 ≡ false = ap (λ (u : List ℕ). eqb (head_of (skip u)) 58) p ∙ no-colon os h in
      starts g (name_of op) t n
      ∙ ap (λ (x : Bool). cond x (cond (nothing (skip (tail_of (skip (past is_part (name_of op ++ t)))))) (named (run_of is_part (name_of op ++ t))) wrong) (instruction_read (opcode_in name_key (key_of (run_of is_part (name_of op ++ t)))) look (past is_part (name_of op ++ t)))) colon
      ∙ ap (λ (f : Option Opcode). instruction_read f look (past is_part (name_of op ++ t))) (ap (λ (u : List ℕ). opcode_in name_key (key_of u)) (runs (name_of op) t n a) ∙ found op)
      ∙ ap (λ (vs : Option (List ℤ)). saying_of (word_for op vs)) (ap (operands_read (kinds_of (form_of op)) (look (form_of op))) p ∙ arguments-law (look (form_of op)) os h)

  pub line-complete : (l : Line) → line_read look (line_text l) ≡ line_saying l look
  unfolding line_saying
  line-complete (blank g) = unfold line_read line_text in ap (λ (u : List ℕ). cond (nothing u) empty (cond (is_letter (head_of u)) (word_read look u) wrong)) (skip_all g)
  line-complete (defines g name n h k) = defines-law g name n h k
  line-complete (instruction g op os h) = instruction-law g op os h
