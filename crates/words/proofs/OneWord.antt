-- Each instruction that fits has one word, and each word that is read has one instruction: in any numbering below 128 without repeats.
use Rattle.refusal.specs.declared.Refusal.{Refusal}
use Rattle.std.specs.Prelude.{Err, None, Ok, Option, Result, Some}
use Prim.Native.Nat.{ℕ, ◌/◌, ◌%◌, ◌^◌, ◌<◌}
use native.Mathlib.Omega.{arith}
use native.Mathlib.Nat.{mod-mod}
use mathlib.Core.Path.{◌≡◌, refl, sym, ap, ap₂, ◌∙◌, subst}
use mathlib.Core.Bool.{Bool, true, false, cond, ◌&&◌}
use mathlib.Core.List.{[], ◌∷◌}
use lib.Dec.{eqb}
use borrow.Author.Tests.{eq-eqb, eqb-true, lt-ltb, ltb-true}
use Rattle.encoding.specs.Fields.{field, extended, fits_in}
use Rattle.encoding.specs.Words.{bits, r_word, i_word, j_word}
use Rattle.encoding.proofs.Extends.{cut-extended, extended-cut, extended_fits}
use Rattle.encoding.proofs.Packed.{read_back, read_whole, made-back}
use Rattle.refusal.specs.declared.Refusal.TheVariants.{UnusedBits, Malformed}
use Rattle.opcode.specs.Opcodes.{opcode_number, form_of, all, opcode_in}
use Rattle.instruction.specs.Operands.{instruction_of, parts_of}
use Rattle.forms.specs.Forms.{used_bits, immediate_of, imm_fits}
use Rattle.words.specs.Words.{apart_of, found_apart, take_in, decoded_of, decode_in, parts_fit, word_of, encoded_in, encode_in}
use Rattle.opcode.specs.declared.Opcode.{Opcode}
use Rattle.opcode.specs.declared.Form.{Form}
use Rattle.opcode.specs.declared.Form.TheVariants.{R, I, Shift, S, B, J, Alone}
use Rattle.instruction.specs.declared.Instruction.{Instruction}
use Rattle.instruction.specs.declared.Parts.{Parts}
use Rattle.opcode.proofs.Numberings.{Numbering, found, number-found, opcode_number-numbers}
use Rattle.instruction.proofs.Wholes.{kept, kept_op, joined-parts, parts-joined, joined-kept, parts-kept}

-- ---- what fits

record Fits (p : Parts) (imm-fits : Bool) : Type 0 where
  a : p.a < 16
  b : p.b < 16
  c : p.c < 16
  imm : imm-fits ≡ true

both : (t u : Bool) → t && u ≡ true → (t ≡ true) × (u ≡ true)
both true u e = (refl, e)
both false u e = let z : ◌≡◌ {A = ℕ} 0 1 = cc in absurd (omega arith)

fits-holds : (p : Parts) → parts_fit p ≡ true → Fits p (imm_fits (form_of p.op) p.imm)
unfolding parts_fit
fits-holds p e =
    let x = both _ _ e in
    let y = both _ _ x.0 in
    let z = both _ _ y.0 in
    record { a = ltb-true _ _ z.0; b = ltb-true _ _ z.1; c = ltb-true _ _ y.1; imm = x.1 }

holds_fits : (p : Parts) (f : Form) → form_of p.op ≡ f → Fits p (imm_fits f p.imm) → parts_fit p ≡ true
unfolding parts_fit
holds_fits p f e h = rw (lt-ltb _ _ h.a, lt-ltb _ _ h.b, lt-ltb _ _ h.c, e) h.imm

-- ---- the fields of a word that was made

-- what is read of a word at a form
abbrev read : Form → Opcode → ℕ → Parts
read f op w = record { op = op; a = field 7 4 w; b = field 11 4 w; c = field 15 4 w; imm = immediate_of f w }

record Shows (n w used : ℕ) (got want : Parts) : Type 0 where
  number : field 0 7 w ≡ n
  unused : w / 2 ^ used ≡ 0
  operands : got ≡ want

module _ (n : ℕ) (p : Parts) (h : n < 128) where
  -- two registers and an immediate, whatever it stands for
  abbrev word-2 : ℕ
  word-2 = i_word n p.a p.b p.imm

  number-2 : field 0 7 word-2 ≡ n
  number-2 = read_whole [] (bits 7 n) (bits 4 p.a ∷ bits 4 p.b ∷ bits 17 p.imm ∷ []) h

  a_2 : p.a < 16 → field 7 4 word-2 ≡ p.a
  a_2 l = read_whole (bits 7 n ∷ []) (bits 4 p.a) (bits 4 p.b ∷ bits 17 p.imm ∷ []) l

  b_2 : p.b < 16 → field 11 4 word-2 ≡ p.b
  b_2 l = read_whole (bits 7 n ∷ bits 4 p.a ∷ []) (bits 4 p.b) (bits 17 p.imm ∷ []) l

  imm-2 : field 15 17 word-2 ≡ p.imm % 2 ^ 17
  imm-2 = read_back (bits 7 n ∷ bits 4 p.a ∷ bits 4 p.b ∷ []) (bits 17 p.imm) []

  signed-2 : Fits p (fits_in 16 p.imm) → Shows n word-2 32 (kept I (read I p.op word-2)) (kept I p)
  unfolding immediate_of kept
  signed-2 t =
      let i : extended 16 (field 15 17 word-2) ≡ p.imm = ap (extended 16) imm-2 ∙ cut-extended 16 (omega arith) p.imm t.imm in
      record { number = number-2; unused = omega arith; operands = rw (a_2 t.a, b_2 t.b, i) }

  shows : (f : Form) → Fits p (imm_fits f p.imm) → Shows n (word_of f n p) (used_bits f) (kept f (read f p.op (word_of f n p))) (kept f p)
  unfolding word_of used_bits immediate_of imm_fits kept
  shows R t =
      let a = read_whole (bits 7 n ∷ []) (bits 4 p.a) (bits 4 p.b ∷ bits 4 p.c ∷ bits 13 0 ∷ []) t.a in
      let b = read_whole (bits 7 n ∷ bits 4 p.a ∷ []) (bits 4 p.b) (bits 4 p.c ∷ bits 13 0 ∷ []) t.b in
      let c = read_whole (bits 7 n ∷ bits 4 p.a ∷ bits 4 p.b ∷ []) (bits 4 p.c) (bits 13 0 ∷ []) t.c in
      record {
        number = read_whole [] (bits 7 n) (bits 4 p.a ∷ bits 4 p.b ∷ bits 4 p.c ∷ bits 13 0 ∷ []) h;
        unused = omega arith;
        operands = rw (a, b, c);
      }
  shows I t = signed-2 t
  shows Shift t =
      let s : p.imm < 64 = ltb-true _ _ t.imm in
      let i : field 15 17 word-2 ≡ p.imm = imm-2 ∙ omega arith in
      record { number = number-2; unused = omega arith; operands = rw (a_2 t.a, b_2 t.b, i) }
  shows S t = signed-2 t
  shows B t = signed-2 t
  shows J t =
      let a = read_whole (bits 7 n ∷ []) (bits 4 p.a) (bits 21 p.imm ∷ []) t.a in
      let i = ap (extended 20) (read_back (bits 7 n ∷ bits 4 p.a ∷ []) (bits 21 p.imm) []) ∙ cut-extended 20 (omega arith) p.imm t.imm in
      record {
        number = read_whole [] (bits 7 n) (bits 4 p.a ∷ bits 21 p.imm ∷ []) h;
        unused = omega arith;
        operands = rw (a, i);
      }
  shows Alone t = record { number = omega arith; unused = omega arith; operands = refl }

-- ---- a word made of the fields that were read

made-2 : (w i : ℕ) → w < 2 ^ 32 → i % 2 ^ 17 ≡ field 15 17 w → i_word (field 0 7 w) (field 7 4 w) (field 11 4 w) i ≡ w
made-2 w i h e =
    let cut : i % 2 ^ 17 ≡ field 15 17 w % 2 ^ 17 = e ∙ sym (mod-mod (w / 2 ^ 15) (2 ^ 17)) in
    rw cut (made-back (7 ∷ 4 ∷ 4 ∷ 17 ∷ []) w h)

made-1 : (w i : ℕ) → w < 2 ^ 32 → i % 2 ^ 21 ≡ field 11 21 w → j_word (field 0 7 w) (field 7 4 w) i ≡ w
made-1 w i h e =
    let cut : i % 2 ^ 21 ≡ field 11 21 w % 2 ^ 21 = e ∙ sym (mod-mod (w / 2 ^ 11) (2 ^ 21)) in
    rw cut (made-back (7 ∷ 4 ∷ 21 ∷ []) w h)

module _ (op : Opcode) (w : ℕ) (h : w < 2 ^ 32) where
  signed-made : Fits (kept I (read I op w)) (fits_in 16 (extended 16 (field 15 17 w)))
      × (i_word (field 0 7 w) (field 7 4 w) (field 11 4 w) (extended 16 (field 15 17 w)) ≡ w)
  unfolding kept immediate_of
  signed-made = (
    record { a = omega arith; b = omega arith; c = omega arith; imm = extended_fits 16 (omega arith) (field 15 17 w) (omega arith) },
    made-2 w (extended 16 (field 15 17 w)) h (extended-cut 16 (omega arith) (field 15 17 w) (omega arith)),
  )

  made : (f : Form) → w / 2 ^ used_bits f ≡ 0
      → Fits (kept f (read f op w)) (imm_fits f (kept f (read f op w)).imm) × (word_of f (field 0 7 w) (kept f (read f op w)) ≡ w)
  unfolding word_of used_bits immediate_of imm_fits kept
  made R z =
      let funct : 0 ≡ field 19 13 w = omega arith in (
        record { a = omega arith; b = omega arith; c = omega arith; imm = refl },
        ap (r_word (field 0 7 w) (field 7 4 w) (field 11 4 w) (field 15 4 w)) funct ∙ made-back (7 ∷ 4 ∷ 4 ∷ 4 ∷ 13 ∷ []) w h,
      )
  made I z = signed-made
  made Shift z = (
    record { a = omega arith; b = omega arith; c = omega arith; imm = lt-ltb (field 15 17 w) 64 (omega arith) },
    made-2 w (field 15 17 w) h (omega arith),
  )
  made S z = signed-made
  made B z = signed-made
  made J z = (
    record { a = omega arith; b = omega arith; c = omega arith; imm = extended_fits 20 (omega arith) (field 11 21 w) (omega arith) },
    made-1 w (extended 20 (field 11 21 w)) h (extended-cut 20 (omega arith) (field 11 21 w) (omega arith)),
  )
  made Alone z = (record { a = omega arith; b = omega arith; c = omega arith; imm = refl }, omega arith)

-- ---- words and instructions

module _ (num : Opcode → ℕ) where
  word-of : (p : Parts) (w : ℕ) → encoded_in num p ≡ Ok w → (parts_fit p ≡ true) × (word_of (form_of p.op) (num p.op) p ≡ w)
  unfolding encoded_in
  word-of p w e = by (parts_fit p) refl e
    where
      by : (t : Bool) → parts_fit p ≡ t → cond t (Ok (word_of (form_of p.op) (num p.op) p)) (Err Malformed) ≡ Ok w
          → (parts_fit p ≡ true) × (word_of (form_of p.op) (num p.op) p ≡ w)
      by true q e = (q, cc)
      by false q e = let z : ◌≡◌ {A = ℕ} 0 1 = cc in absurd (omega arith)

  pub decode-encode : Numbering num → (i : Instruction) (w : ℕ) → encode_in num i ≡ Ok w → decode_in num w ≡ Ok i
  unfolding take_in found_apart apart_of decoded_of
  decode-encode N i w e =
      let p = parts_of i in
      let op = p.op in
      let f = form_of op in
      let x = word-of p w e in
      let s : Shows (num op) w (used_bits f) (kept f (read f op w)) (kept f p) =
      subst (λ (v : ℕ). Shows (num op) v (used_bits f) (kept f (read f op v)) (kept f p)) x.1 (shows (num op) p (N.below op) f (fits-holds p x.0)) in
      rw (s.number, found num N op, eq-eqb (w / 2 ^ used_bits f) 0 s.unused)
      (ap Ok
      (sym (joined-kept (read f op w)) ∙ ap instruction_of (s.operands ∙ sym (parts-kept i)) ∙ joined-parts i))

  -- what is known of a word that is read
  record Read (w : ℕ) (i : Instruction) : Type 0 where
    op : Opcode
    number : num op ≡ field 0 7 w
    parts : parts_of i ≡ kept (form_of op) (read (form_of op) op w)
    unused : w / 2 ^ used_bits (form_of op) ≡ 0

  reads : (w : ℕ) (i : Instruction) → decode_in num w ≡ Ok i → Read w i
  unfolding take_in found_apart apart_of decoded_of
  reads w i e = by (opcode_in num (field 0 7 w)) refl e
    where
      apart : (op : Opcode) → opcode_in num (field 0 7 w) ≡ Some op → (t : Bool) → eqb (w / 2 ^ used_bits (form_of op)) 0 ≡ t
          → decoded_of (cond t (Ok (read (form_of op) op w)) (Err (UnusedBits w))) ≡ Ok i → Read w i
      apart op o true q e =
          let j : i ≡ instruction_of (read (form_of op) op w) = cc in
          record {
            op = op;
            number = number-found num all (field 0 7 w) op o;
            parts = ap parts_of j ∙ parts-joined (read (form_of op) op w);
            unused = eqb-true _ _ q;
          }
      apart op o false q e = let z : ◌≡◌ {A = ℕ} 0 1 = cc in absurd (omega arith)

      by : (o : Option Opcode) → opcode_in num (field 0 7 w) ≡ o → decoded_of (found_apart o w) ≡ Ok i → Read w i
      by (Some op) o e = apart op o (eqb (w / 2 ^ used_bits (form_of op)) 0) refl e
      by None o e = let z : ◌≡◌ {A = ℕ} 0 1 = cc in absurd (omega arith)

  word_made : (p : Parts) (op : Opcode) (n w : ℕ) → p.op ≡ op → num op ≡ n → Fits p (imm_fits (form_of op) p.imm)
      → word_of (form_of op) n p ≡ w → encoded_in num p ≡ Ok w
  unfolding encoded_in
  word_made p op n w o k t m =
      rw (holds_fits p (form_of op) (ap form_of o) t)
      (ap Ok (ap₂ (λ (f : Form) (j : ℕ). word_of f j p) (ap form_of o) (ap num o ∙ k) ∙ m))

  -- in this direction the numbers may be any
  pub encode-decode : (w : ℕ) (i : Instruction) → w < 2 ^ 32 → decode_in num w ≡ Ok i → encode_in num i ≡ Ok w
  encode-decode w i h e =
      let r = reads w i e in
      let op = r.op in
      let f = form_of op in
      let m = made op w h f r.unused in
      ap (encoded_in num) r.parts
      ∙ word_made (kept f (read f op w)) op (field 0 7 w) w (kept_op f (read f op w)) r.number m.0 m.1

pub record OneWord (num : Opcode → ℕ) : Type 0 where
  pub read_again : (i : Instruction) (w : ℕ) → encode_in num i ≡ Ok w → decode_in num w ≡ Ok i
  pub made_again : (w : ℕ) (i : Instruction) → w < 2 ^ 32 → decode_in num w ≡ Ok i → encode_in num i ≡ Ok w
  pub one-instruction : (i j : Instruction) (w : ℕ) → encode_in num i ≡ Ok w → encode_in num j ≡ Ok w → i ≡ j
  pub one_word : (v w : ℕ) (i : Instruction) → v < 2 ^ 32 → w < 2 ^ 32
      → decode_in num v ≡ Ok i → decode_in num w ≡ Ok i → v ≡ w

pub numbered : (num : Opcode → ℕ) → Numbering num → OneWord num
numbered num N =
    record {
      read_again = decode-encode num N;
      made_again = encode-decode num;
      one-instruction = λ i j w p q. same-instruction (sym (decode-encode num N i w p) ∙ decode-encode num N j w q);
      one_word = λ v w i h k p q. same_word (sym (encode-decode num v i h p) ∙ encode-decode num w i k q);
    }
  where
    same-instruction : {i j : Instruction} → ◌≡◌ {A = Result Instruction Refusal} (Ok i) (Ok j) → i ≡ j
    same-instruction e = cc

    same_word : {v w : ℕ} → ◌≡◌ {A = Result ℕ Refusal} (Ok v) (Ok w) → v ≡ w
    same_word e = cc

-- in particular in document 01
pub document : OneWord opcode_number
document = numbered opcode_number opcode_number-numbers
