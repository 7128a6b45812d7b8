-- What is met of one line, and what that leaves of the labels. Assumes nothing.
use Rattle.std.specs.Prelude.{Option, None, Some}
use Rattle.opcode.specs.declared.Opcode.{Opcode}
use mathlib.Core.Path.{◌≡◌, refl, sym, ap, ◌∙◌, subst}
use mathlib.Core.Bool.{Bool, true, false, cond, not}
use mathlib.Core.List.{List, [], ◌∷◌}
use Prim.Native.Nat.{ℕ, zero, suc, ◌+◌, ◌-◌, ◌*◌, ◌≤◌, ◌<◌}
use native.Mathlib.Numerals.{sub-one}
use native.Mathlib.Omega.{arith}
use lib.Dec.{eqb, leb}
use lib.IntN.{ℤ}
use lib.ListN.{length, get_or, take, drop}
use lib.Seq.{length-sets}
use borrow.Author.Tests.{leb-true, leb-false, ne_eqb, not-true}
use Rattle.labels.specs.Bytes.{key_of}
use Rattle.labels.specs.Reading.{name_at}
use Rattle.labels.specs.Table.{slots_of, search_in}
use Rattle.labels.specs.declared.table.Slot.{Slot}
use Rattle.opcode.specs.Opcodes.{opcode_in, form_of}
use Rattle.opcode.specs.declared.Form.{Form}
use Rattle.names.specs.Names.{name_key}
use Rattle.lines.specs.Lines.{saying_of, named, wrong, kinds_of, word_for}
use Rattle.lines.specs.Reader.{line_read, instruction_read, operands_read}
use Rattle.lines.specs.Code.{is_end, start_of}
use Rattle.lines.specs.declared.Start.{Start}
use Rattle.lines.proofs.Starts.{Started, began}
use Rattle.lines.proofs.Ends.{plain-start}
use Rattle.programs.specs.Programs.{no_labels}
use Rattle.programs.specs.Code.{Spans, NotedAll, one_more, After, after, slot_after, label_after, start_after, is_plain, line_after}
use Rattle.programs.specs.declared.spans.Span.{Span}
use Rattle.programs.specs.declared.noting.Tally.{Tally}
use Rattle.programs.specs.declared.Failure.{Failure}
use Rattle.std.specs.Prelude.{Result, Ok, Err}
use Rattle.programs.proofs.Notes.{text-letter, text-name, Counts, Noting, noting-blank, noting-other, noting-short, noting-full, noting-again, noting-new}

-- ---- an instruction counts, right or wrong
pub instruction-counts : (f : Option Opcode) (look : Form → List ℕ → Option ℤ) (u : List ℕ) → Counts (instruction_read f look u)
instruction-counts (Some op) look u = go (word_for op (operands_read (kinds_of (form_of op)) (look (form_of op)) u))
  where
    go : (o : Option ℕ) → Counts (saying_of o)
    go None = tt
    go (Some w) = tt
instruction-counts None look u = tt

-- ---- what the labels are then
module _ (text table : List ℕ) (at before : ℕ) (t : Tally) (g : Noting text table at before t.own t.count t.second) (r : Span) (spans : Spans text at r) where
  -- what is kept of the labels after the line, and the table's length
  abbrev pub KeptBy : Result Tally Failure → List ℕ → Type 0
  KeptBy (Ok u) new = Noting text new r.next (before + 1) u.own u.count u.second × (u.own ≤ t.own + 1)
  KeptBy (Err f) new = NotedAll text new (Err f)

  abbrev pub Kept : After → Type 0
  Kept a = KeptBy a.met a.table × (length a.table ≡ length table)

  kept_label : (p : ℕ) → start_of (take (r.stop - at) (drop at text)) ≡ Start.Label p → Kept (label_after text table (at + p) (before + 1) t)
  kept_label p e = go (leb (slots_of table) t.count) (search_in text table (name_at text (at + p))) refl refl
    where
      s : List ℕ
      s = take (r.stop - at) (drop at text)

      line : Started s (Start.Label p)
      line = began s (start_of s) (Start.Label p) refl e

      reads : line_read no_labels s ≡ named (name_at text (at + p))
      reads = line.0 no_labels ∙ ap named (sym (text-name text at (r.stop - at) p line.1.1.0 line.1.1.1))

      slot : (x : Slot) → search_in text table (name_at text (at + p)) ≡ x → t.count < slots_of table → Kept (slot_after x table (at + p) (key_of (name_at text (at + p))) (before + 1) t)
      slot (Slot.Held h) q b = ((noting-again text table at before t.own t.count t.second g r spans (name_at text (at + p)) reads h q b, omega arith), refl)
      slot (Slot.Free j) q b = (
        (noting-new text table at before t.own t.count t.second g r spans (name_at text (at + p)) reads (at + p) j (text-letter text at (r.stop - at) p line.1.1.0) refl q b, omega arith),
        length-sets table (3 * j) ((at + p) ∷ (key_of (name_at text (at + p)) ∷ (t.own ∷ []))),
      )
      slot Slot.Full q b = (noting-full text table at before t.own t.count t.second g r spans (name_at text (at + p)) reads q, refl)

      go : (c : Bool) (x : Slot) → leb (slots_of table) t.count ≡ c → search_in text table (name_at text (at + p)) ≡ x
          → Kept (cond c (after (Err Failure.NoRoom) table) (slot_after (search_in text table (name_at text (at + p))) table (at + p) (key_of (name_at text (at + p))) (before + 1) t))
      go true x c q = (noting-short text table at before t.own t.count t.second g r spans (name_at text (at + p)) reads (leb-true _ _ c), refl)
      go false x c q = slot (search_in text table (name_at text (at + p))) refl (leb-false _ _ c)

  pub kept : Kept (line_after text table (take (r.stop - at) (drop at text)) at (before + 1) t)
  unfolding line_after
  kept = go (start_of (take (r.stop - at) (drop at text))) refl
    where
      s : List ℕ
      s = take (r.stop - at) (drop at text)

      go : (x : Start) → start_of (take (r.stop - at) (drop at text)) ≡ x → Kept (start_after text table x at (before + 1) t)
      go Start.Blank e = ((noting-blank text table at before t.own t.count t.second g r spans (began s (start_of s) Start.Blank refl e no_labels), omega arith), refl)
      go (Start.Label p) e = kept_label p e
      go (Start.Word key n) e = (
        (
          noting-other text table at before t.own t.count t.second g r spans (instruction_read (opcode_in name_key key) no_labels (drop n s))
              (began s (start_of s) (Start.Word key n) refl e no_labels) (instruction-counts (opcode_in name_key key) no_labels (drop n s)),
          omega arith,
        ),
        refl,
      )
      go Start.Other e = ((noting-other text table at before t.own t.count t.second g r spans wrong (began s (start_of s) Start.Other refl e no_labels) tt, omega arith), refl)

  pub kept-go : (u : Tally) (new : List ℕ) → after (Ok u) new ≡ line_after text table (take (r.stop - at) (drop at text)) at (before + 1) t
      → (Noting text new r.next (before + 1) u.own u.count u.second × (u.own ≤ t.own + 1)) × (length new ≡ length table)
  kept-go u new e = subst Kept (sym e) kept

  pub kept-short : (f : Failure) (new : List ℕ) → after (Err f) new ≡ line_after text table (take (r.stop - at) (drop at text)) at (before + 1) t
      → NotedAll text new (Err f) × (length new ≡ length table)
  kept-short f new e = subst Kept (sym e) kept

-- ---- a line that is an instruction by its last byte
pub plain-after : (text table s : List ℕ) (at line : ℕ) (t : Tally) → is_plain s ≡ true → after (Ok (one_more t)) table ≡ line_after text table s at line t
unfolding line_after
plain-after text table s at line t h = sym (go (length s) refl h)
  where
    go : (n : ℕ) → length s ≡ n → cond (eqb n 0) false (not (is_end (get_or s (n - 1) 0))) ≡ true → start_after text table (start_of s) at line t ≡ after (Ok (one_more t)) table
    go zero q h = absurd (let z : ◌≡◌ {A = ℕ} 0 1 = cc in omega arith)
    go (suc k) q h =
        let i : is_end (get_or s (suc k - 1) 0) ≡ false = not-true _ (sym (ap (λ (b : Bool). cond b false (not (is_end (get_or s (suc k - 1) 0)))) (ne_eqb (suc k) 0 (λ z. omega arith))) ∙ h) in
        plain-start (λ x. start_after text table x at line t) (after (Ok (one_more t)) table) s k q (ap (λ (m : ℕ). is_end (get_or s m 0)) (sym (sub-one (suc k))) ∙ i) (λ p e. refl) refl
