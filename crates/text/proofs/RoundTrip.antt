-- "Printing any decodable program and assembling the print gives the same words." Assumes nothing.
use Rattle.std.specs.Prelude.{None, Option, Some, Err, Ok, Result}
use Rattle.refusal.specs.declared.Refusal.{Refusal}
use Rattle.std.proofs.lemmas.Bool.{and_parts}
use Rattle.std.proofs.lemmas.List.{append-nil}
use mathlib.Core.Path.{◌≡◌, refl, sym, ap, ◌∙◌, fun_ext}
use mathlib.Core.Logic.{⊎_elim}
use mathlib.Core.Bool.{Bool, true, false, cond, ◌&&◌, not}
use mathlib.Core.List.{List, [], ◌∷◌, ◌++◌, map}
use Prim.Native.Nat.{ℕ, suc, ◌+◌, ◌-◌, ◌^◌, ◌≤◌, ◌<◌}
use native.Mathlib.Omega.{arith}
use native.Mathlib.Nat.{pow-le-pow_right}
use lib.Dec.{ltb, eqb}
use lib.IntN.{ℤ, pos, negsuc, neg_ℤ}
use mir.Syntax.{w64}
use mir.Val.{of_z}
use borrow.Author.Tests.{ltb-true, ltb-false, lt-ltb, ne_eqb, not-true}
use Rattle.encoding.specs.Fields.{fits_in}
use Rattle.encoding.proofs.Extends.{fits-means}
use Rattle.forms.specs.Forms.{imm_fits}
use Rattle.opcode.specs.Opcodes.{all, opcode_number, form_of}
use Rattle.opcode.specs.declared.Opcode.{Opcode}
use Rattle.opcode.specs.declared.Opcode.TheVariants as O
use Rattle.opcode.specs.declared.Form.{Form}
use Rattle.opcode.specs.declared.Form.TheVariants.{R, I, Shift, S, B, J, Alone}
use Rattle.opcode.proofs.Arms.{everywhere}
use Rattle.opcode.proofs.Variants.{place, all-at}
use Rattle.instruction.specs.Operands.{parts_of}
use Rattle.instruction.specs.declared.Instruction.{Instruction}
use Rattle.instruction.specs.declared.Parts.{Parts}
use Rattle.instruction.proofs.Wholes.{kept, parts-kept}
use Rattle.refusal.specs.Stops.{refusal_of}
use Rattle.words.specs.Words.{parts_fit, encoded_in, decode_in, word_of}
use Rattle.words.proofs.OneWord.{document}
use Rattle.names.specs.Names.{name_of, register_text}
use Rattle.labels.specs.Bytes.{is_digit, every}
use Rattle.sums.specs.Sums.{Sum, Term, done, number, unsigned, minus, sum_text, sum_value, term_text, rest_text, term_value, rest_value, checked, fits64}
use Rattle.labels.proofs.Classes.{digit_low}
use Rattle.lines.specs.Lines.{kinds_of, reg, sum, Operands, without, last, more, Line, instruction, operands_text, arguments_text, line_text, pushed, operands_values, bits_at, parts_by, word_made, word_for, word, saying_of, line_saying}
use Rattle.lines.specs.Reader.{line_read}
use Rattle.lines.proofs.Complete.{line-complete}
use Rattle.programs.specs.Programs.{with_byte, lines_of, Teller, made, and_word, assemble_from, assemble_of}
use Rattle.printing.specs.Print.{digits_by, number_text, operand_texts, with_commas, spelled, print_line, Printed, text, undecodable, printed_by, print_of}
use Rattle.text.proofs.Digits.{written}
use Rattle.programs.specs.Code.{reader}
use Rattle.programs.proofs.Readings.{told}
use Rattle.text.specs.Statements.{RoundTrip}

-- ---- a number
pub record Numeral (n : ℕ) : Type 0 where
  pub tree : Sum
  pub text : sum_text tree ≡ number_text n
  pub value : (look : List ℕ → Option ℤ) → (v : ℤ) × (sum_value tree look 16 ≡ Some v) × (of_z w64 v ≡ n)

single : Term → Sum
single t = record { first = t; rest = done }

numeral : (n : ℕ) → n < 2 ^ 64 → Numeral n
unfolding single term_text rest_text term_value rest_value checked number_text
numeral n h = go (ltb n (2 ^ 63)) refl
  where
    go : (c : Bool) → ltb n (2 ^ 63) ≡ c → Numeral n
    go true e =
        let w = written 20 n (omega arith) (omega arith) in
        record {
          tree = single (number unsigned (digits_by 20 n) w.some);
          text = append-nil (digits_by 20 n) ∙ ap (λ (c : Bool). cond c (digits_by 20 n) (45 ∷ digits_by 20 (2 ^ 64 - n))) (sym e);
          value = λ look. (pos n, ap (λ (m : ℕ). cond (ltb m (2 ^ 63)) (Some (pos m)) None) w.value ∙ ap (λ (c : Bool). cond c (Some (pos n)) None) e, refl);
        }
    go false e =
        let l = ltb-false n (2 ^ 63) e in
        let k : ℕ = 2 ^ 64 - suc n in
        let m : 2 ^ 64 - n ≡ suc k = omega arith in
        let w = written 20 (2 ^ 64 - n) (omega arith) (omega arith) in
        let f : ltb k (2 ^ 63) ≡ true = lt-ltb k (2 ^ 63) (omega arith) in
        record {
          tree = single (number minus (digits_by 20 (2 ^ 64 - n)) w.some);
          text = append-nil (45 ∷ digits_by 20 (2 ^ 64 - n)) ∙ ap (λ (c : Bool). cond c (digits_by 20 n) (45 ∷ digits_by 20 (2 ^ 64 - n))) (sym e);
          value = λ look. (negsuc k, ap (λ (m : ℕ). cond (fits64 (neg_ℤ (pos m))) (Some (neg_ℤ (pos m))) None) (w.value ∙ m) ∙ ap (λ (c : Bool). cond c (Some (negsuc k)) None) f, omega arith);
        }

-- ---- an instruction's operands
pub record Arguments (f : Form) (p : Parts) : Type 0 where
  pub operands : Operands (kinds_of f)
  pub text : arguments_text operands ≡ spelled (operand_texts f p)
  pub values : (look : List ℕ → Option ℤ) → (vs : List ℤ) × (operands_values operands look ≡ Some vs) × (parts_by p.op f vs ≡ kept f p)

narrow : (h n : ℕ) → h ≤ 63 → fits_in h n ≡ true → n < 2 ^ 64
narrow h n l e = ⊎_elim (λ w. small (2 ^ h) w (power h l)) (λ w. w.1) (fits-means h n e)
  where
    small : (m : ℕ) → n < m → m ≤ 2 ^ 64 → n < 2 ^ 64
    small m w u = omega arith

    power : (h : ℕ) → h ≤ 63 → 2 ^ h ≤ 2 ^ 64
    power h l = pow-le-pow_right {n = 2} (omega arith) {i = h} {j = 64} (omega arith)

module _ (p : Parts) (a : ltb p.a 16 ≡ true) (b : ltb p.b 16 ≡ true) (c : ltb p.c 16 ≡ true) where
  three : Arguments R p
  unfolding operands_text operands_values parts_by kept
  three = record {
    operands = more 0 (reg p.a a) 0 (more 1 (reg p.b b) 0 (last 1 (reg p.c c) 0));
    text = refl;
    values = λ look. (pos p.a ∷ (pos p.b ∷ (pos p.c ∷ [])), refl, refl);
  }

  with_number : (n : Numeral p.imm) → Operands (kinds_of I)
  with_number n = more 0 (reg p.a a) 0 (more 1 (reg p.b b) 0 (last 1 (sum n.tree) 0))

  two-text : (n : Numeral p.imm) → arguments_text (with_number n) ≡ spelled (operand_texts I p)
  unfolding with_number operands_text
  two-text n = ap (λ (t : List ℕ). 32 ∷ (register_text p.a ++ (44 ∷ (32 ∷ (register_text p.b ++ (44 ∷ (32 ∷ (t ++ [])))))))) n.text

  two-values : (n : Numeral p.imm) (look : List ℕ → Option ℤ) → operands_values (with_number n) look ≡ Some (pos p.a ∷ (pos p.b ∷ ((n.value look).0 ∷ [])))
  unfolding with_number operands_values
  two-values n look = ap (λ (o : Option ℤ). pushed (Some (pos p.a)) (pushed (Some (pos p.b)) (pushed o (Some [])))) (n.value look).1

  -- the four forms with two registers and a number
  two : (f : Form) → (n : Numeral p.imm) → (to : Operands (kinds_of I) → Operands (kinds_of f))
      → arguments_text (to (with_number n)) ≡ arguments_text (with_number n) → operand_texts f p ≡ operand_texts I p
      → ((look : List ℕ → Option ℤ) → operands_values (to (with_number n)) look ≡ operands_values (with_number n) look)
      → ((vs : List ℤ) → bits_at vs 0 ≡ p.a → bits_at vs 1 ≡ p.b → bits_at vs 2 ≡ p.imm → parts_by p.op f vs ≡ kept f p) → Arguments f p
  two f n to e t v k = record {
    operands = to (with_number n);
    text = e ∙ two-text n ∙ ap spelled (sym t);
    values = λ look. (pos p.a ∷ (pos p.b ∷ ((n.value look).0 ∷ [])), v look ∙ two-values n look, k _ refl refl (n.value look).2);
  }

  jump : (n : Numeral p.imm) → Arguments J p
  unfolding operands_text operands_values parts_by kept
  jump n = record {
    operands = more 0 (reg p.a a) 0 (last 1 (sum n.tree) 0);
    text = ap (λ (t : List ℕ). 32 ∷ (register_text p.a ++ (44 ∷ (32 ∷ (t ++ []))))) n.text;
    values = λ look. (pos p.a ∷ ((n.value look).0 ∷ []), ap (λ (o : Option ℤ). pushed (Some (pos p.a)) (pushed o (Some []))) (n.value look).1, ap (λ (i : ℕ). record { op = p.op; a = p.a; b = 0; c = 0; imm = i }) (n.value look).2);
  }

  arguments : (f : Form) → imm_fits f p.imm ≡ true → Arguments f p
  unfolding imm_fits parts_by kept operands_text operands_values
  arguments R e = three
  arguments I e = two I (numeral p.imm (narrow 16 p.imm (omega arith) e)) (λ os. os) refl refl (λ look. refl) by
    where
      by : (vs : List ℤ) → bits_at vs 0 ≡ p.a → bits_at vs 1 ≡ p.b → bits_at vs 2 ≡ p.imm → parts_by p.op I vs ≡ kept I p
      by vs x y z = cc
  arguments Shift e = two Shift (numeral p.imm (let l = ltb-true p.imm 64 e in omega arith)) (λ os. os) refl refl (λ look. refl) by
    where
      by : (vs : List ℤ) → bits_at vs 0 ≡ p.a → bits_at vs 1 ≡ p.b → bits_at vs 2 ≡ p.imm → parts_by p.op Shift vs ≡ kept Shift p
      by vs x y z = cc
  arguments S e = two S (numeral p.imm (narrow 16 p.imm (omega arith) e)) (λ os. os) refl refl (λ look. refl) by
    where
      by : (vs : List ℤ) → bits_at vs 0 ≡ p.a → bits_at vs 1 ≡ p.b → bits_at vs 2 ≡ p.imm → parts_by p.op S vs ≡ kept S p
      by vs x y z = cc
  arguments B e = two B (numeral p.imm (narrow 16 p.imm (omega arith) e)) (λ os. os) refl refl (λ look. refl) by
    where
      by : (vs : List ℤ) → bits_at vs 0 ≡ p.a → bits_at vs 1 ≡ p.b → bits_at vs 2 ≡ p.imm → parts_by p.op B vs ≡ kept B p
      by vs x y z = cc
  arguments J e = jump (numeral p.imm (narrow 20 p.imm (omega arith) e))
  arguments Alone e = record { operands = without; text = refl; values = λ look. ([], refl, refl) }

-- ---- a line
pub record LineOf (p : Parts) : Type 0 where
  pub tree : Line
  pub text : line_text tree ≡ print_line p
  pub tells : (look : Form → List ℕ → Option ℤ) → line_saying tree look ≡ saying_of (word_made (encoded_in opcode_number p))

printed : (p : Parts) → p ≡ kept (form_of p.op) p → Arguments (form_of p.op) p → LineOf p
unfolding line_text print_line line_saying word_for
printed p k a = record {
  tree = instruction 0 p.op a.operands 0;
  text = ap (name_of p.op ++◌) (append-nil (arguments_text a.operands) ∙ a.text);
  tells = λ look. let v = a.values (look (form_of p.op)) in
      ap (λ (o : Option (List ℤ)). saying_of (word_for p.op o)) v.1 ∙ ap (λ (q : Parts). saying_of (word_made (encoded_in opcode_number q))) (v.2 ∙ sym k);
}

fit : (p : Parts) → parts_fit p ≡ true → p ≡ kept (form_of p.op) p → LineOf p
unfolding parts_fit
fit p h k =
    let x = and_parts (ltb p.a 16 && ltb p.b 16 && ltb p.c 16) (imm_fits (form_of p.op) p.imm) h in
    let y = and_parts (ltb p.a 16 && ltb p.b 16) (ltb p.c 16) x.0 in
    let z = and_parts (ltb p.a 16) (ltb p.b 16) y.0 in
    printed p k (arguments p z.0 z.1 y.1 (form_of p.op) x.1)

made-fits : (p : Parts) (w : ℕ) → encoded_in opcode_number p ≡ Ok w → parts_fit p ≡ true
unfolding encoded_in
made-fits p w = go (parts_fit p)
  where
    go : (c : Bool) → cond c (Ok (word_of (form_of p.op) (opcode_number p.op) p)) (Err (refusal_of 9 0)) ≡ Ok w → c ≡ true
    go true e = refl
    go false e = absurd (let z : ◌≡◌ {A = ℕ} 0 1 = cc in omega arith)

-- what a decoded instruction prints is read as its word
line-back : (w : ℕ) (i : Instruction) → w < 2 ^ 32 → decode_in opcode_number w ≡ Ok i → reader (print_line (parts_of i)) ≡ (λ look. word w)
line-back w i h e =
    let made : encoded_in opcode_number (parts_of i) ≡ Ok w = document.made_again w i h e in
    let p = fit (parts_of i) (made-fits (parts_of i) w made) (parts-kept i) in
    fun_ext (λ look. ap (line_read look) (sym p.text) ∙ line-complete look p.tree ∙ p.tells look ∙ ap (λ (x : Result ℕ Refusal). saying_of (word_made x)) made)

-- ---- the lines of a print
plain : ℕ → Bool
plain b = not (eqb b 10) && not (eqb b 13)

plain-is : (b : ℕ) → 14 ≤ b → plain b ≡ true
unfolding plain
plain-is b h = simp (ne_eqb b 10 (λ z. omega arith), ne_eqb b 13 (λ z. omega arith))

every-both : (p : ℕ → Bool) (s t : List ℕ) → every p s ≡ true → every p t ≡ true → every p (s ++ t) ≡ true
unfolding every
every-both p [] t x y = y
every-both p (b ∷ s) t x y = let k = and_parts (p b) (every p s) x in rw k.0 (every-both p s t k.1 y)

digits-plain : (ds : List ℕ) → every is_digit ds ≡ true → every plain ds ≡ true
unfolding every
digits-plain [] h = refl
digits-plain (d ∷ ds) h = let k = and_parts (is_digit d) (every is_digit ds) h in let l = digit_low d k.0 in rw (plain-is d (omega arith)) (digits-plain ds k.1)

register-plain : (r : ℕ) → every plain (register_text r) ≡ true
unfolding every
register-plain r = go (ltb r 10)
  where
    go : (c : Bool) → every plain (82 ∷ cond c ((48 + r) ∷ []) (49 ∷ ((38 + r) ∷ []))) ≡ true
    go true = rw (plain-is 82 (omega arith)) (rw (plain-is (48 + r) (omega arith)) refl)
    go false = rw (plain-is 82 (omega arith)) (rw (plain-is 49 (omega arith)) (rw (plain-is (38 + r) (omega arith)) refl))

line-print : (t u : List ℕ) → every plain t ≡ true → lines_of (t ++ (10 ∷ u)) ≡ t ∷ lines_of u
unfolding lines_of every plain
line-print [] u h = refl
line-print (b ∷ t) u h =
    let k = and_parts (plain b) (every plain t) h in
    let m = and_parts (not (eqb b 10)) (not (eqb b 13)) k.0 in
    rw (not-true (eqb b 10) m.0, not-true (eqb b 13) m.1) (ap (with_byte b) (line-print t u k.1))

number-plain : (n : ℕ) → n < 2 ^ 64 → every plain (number_text n) ≡ true
unfolding number_text every
number-plain n h = go (ltb n (2 ^ 63)) refl
  where
    go : (c : Bool) → ltb n (2 ^ 63) ≡ c → every plain (cond c (digits_by 20 n) (45 ∷ digits_by 20 (2 ^ 64 - n))) ≡ true
    go true e = digits-plain (digits_by 20 n) (written 20 n (omega arith) (omega arith)).digits
    go false e = rw (plain-is 45 (omega arith)) (digits-plain (digits_by 20 (2 ^ 64 - n)) (written 20 (2 ^ 64 - n) (omega arith) (omega arith)).digits)

data Plains : List (List ℕ) → Type 0 where
  no_more : Plains []
  and : {t : List ℕ} {ts : List (List ℕ)} → every plain t ≡ true → Plains ts → Plains (t ∷ ts)

commas-plain : {ts : List (List ℕ)} → Plains ts → every plain (with_commas ts) ≡ true
unfolding every
commas-plain no_more = refl
commas-plain (and {t} {ts} h r) = rw (plain-is 44 (omega arith)) (rw (plain-is 32 (omega arith)) (every-both plain t (with_commas ts) h (commas-plain r)))

spelled-plain : {ts : List (List ℕ)} → Plains ts → every plain (spelled ts) ≡ true
unfolding every
spelled-plain no_more = refl
spelled-plain (and {t} {ts} h r) = rw (plain-is 32 (omega arith)) (every-both plain t (with_commas ts) h (commas-plain r))

texts-plain : (f : Form) (p : Parts) → imm_fits f p.imm ≡ true → Plains (operand_texts f p)
unfolding imm_fits
texts-plain R p e = and (register-plain p.a) (and (register-plain p.b) (and (register-plain p.c) no_more))
texts-plain I p e = and (register-plain p.a) (and (register-plain p.b) (and (number-plain p.imm (narrow 16 p.imm (omega arith) e)) no_more))
texts-plain Shift p e = and (register-plain p.a) (and (register-plain p.b) (and (number-plain p.imm (let l = ltb-true p.imm 64 e in omega arith)) no_more))
texts-plain S p e = and (register-plain p.a) (and (register-plain p.b) (and (number-plain p.imm (narrow 16 p.imm (omega arith) e)) no_more))
texts-plain B p e = and (register-plain p.a) (and (register-plain p.b) (and (number-plain p.imm (narrow 16 p.imm (omega arith) e)) no_more))
texts-plain J p e = and (register-plain p.a) (and (number-plain p.imm (narrow 20 p.imm (omega arith) e)) no_more)
texts-plain Alone p e = no_more

names-plain : (op : Opcode) → every plain (name_of op) ≡ true
unfolding all every plain
names-plain = everywhere all O.Add place all-at (λ (op : Opcode). every plain (name_of op)) (λ (op : Opcode). true) refl refl

line_plain : (p : Parts) → parts_fit p ≡ true → every plain (print_line p) ≡ true
unfolding parts_fit print_line
line_plain p h =
    let x = and_parts (ltb p.a 16 && ltb p.b 16 && ltb p.c 16) (imm_fits (form_of p.op) p.imm) h in
    every-both plain (name_of p.op) (spelled (operand_texts (form_of p.op) p)) (names-plain p.op) (spelled-plain (texts-plain (form_of p.op) p x.1))

-- ---- the program
unfoldable pub constant : List ℕ → List Teller
constant [] = []
constant (w ∷ ws) = (λ look. word w) ∷ constant ws

pub readers : (ws t : List ℕ) → every (λ w. ltb w (2 ^ 32)) ws ≡ true → print_of ws ≡ text t → map reader (lines_of t) ≡ constant ws
unfolding print_of constant lines_of every
readers [] t h e = let q : [] ≡ t = cc in ap (λ (t : List ℕ). map reader (lines_of t)) (sym q)
readers (w ∷ ws) t h e = go (decode_in opcode_number w) (print_of ws) refl refl e (readers ws)
  where
    small : (ltb w (2 ^ 32) ≡ true) × (every (λ w. ltb w (2 ^ 32)) ws ≡ true)
    small = and_parts (ltb w (2 ^ 32)) (every (λ w. ltb w (2 ^ 32)) ws) h

    go : (d : Result Instruction Refusal) (p : Printed) → decode_in opcode_number w ≡ d → print_of ws ≡ p → printed_by d p ≡ text t
        → ((t : List ℕ) → every (λ w. ltb w (2 ^ 32)) ws ≡ true → print_of ws ≡ text t → map reader (lines_of t) ≡ constant ws)
        → map reader (lines_of t) ≡ (λ look. word w) ∷ constant ws
    go (Ok i) (text u) ed ep e ih =
        let b = ltb-true w (2 ^ 32) small.0 in
        let fits = made-fits (parts_of i) w (document.made_again w i b ed) in
        let q : print_line (parts_of i) ++ (10 ∷ u) ≡ t = cc in
        ap (λ (t : List ℕ). map reader (lines_of t)) (sym q)
        ∙ ap (map reader) (line-print (print_line (parts_of i)) u (line_plain (parts_of i) fits))
        ∙ ap (λ (f : Teller). f ∷ map reader (lines_of u)) (line-back w i b ed)
        ∙ ap ((λ look. word w) ∷◌) (ih u small.1 ep)
    go (Ok i) (undecodable r) ed ep e ih = absurd (let z : ◌≡◌ {A = ℕ} 0 1 = cc in omega arith)
    go (Err r) p ed ep e ih = absurd (let z : ◌≡◌ {A = ℕ} 0 1 = cc in omega arith)

pub assembled : (ws : List ℕ) (labels : List _) (line own : ℕ) (seen : List _) → assemble_from (constant ws) labels line own seen ≡ made ws
unfolding constant assemble_from
assembled [] labels line own seen = refl
assembled (w ∷ ws) labels line own seen = ap (and_word w) (assembled ws labels (line + 1) (own + 1) seen)

pub round_trip : RoundTrip
round_trip ws t h e fs s = ap assemble_of (told s ∙ readers ws t h e) ∙ assembled ws _ 1 0 []
