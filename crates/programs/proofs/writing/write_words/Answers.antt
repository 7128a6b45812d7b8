use Rattle.programs.proofs.Writes.{put_word, words-end, words-word, words-none}
use Rattle.programs.proofs.Turns.{line_next}
use Rattle.programs.specs.Code.{words_from}
use Rattle.programs.specs.Promise.{bytes_of_words}
use Rattle.programs.specs.Programs.{lines_of}
use Rattle.lines.specs.Code.{said_of}
use Rattle.memory.specs.Bytes.{bytes}
use lib.Seq.{sets}
use Rattle.std.proofs.Common.{ℕ, ◌+◌, List, length, drop, arith, sym, ap, ◌∙◌}
use Rattle.programs.proofs.writing.write_words.Goals as goal

pub loop-line-preserved-in-Word : goal.loop-line-preserved-in-Word
loop-line-preserved-in-Word c =
    let a = c.args in
    let l = c.loop-line in
    let it = l.line-iterator in
    let inv = l.invariant in
    let n = line_next it c.next.new.self c.in-Some.line a.text.now inv.2 c.in-Some.ensures.steps in
    let rest = words_from a.text.now a.table.now (lines_of (drop c.next.new.self.at a.text.now)) (l.own + 1) in
    let w = c.in-Word.w in
    let e = words-word a.text.now a.table.now l.own _ _ _ n.lines w (c.line.ensures ∙ ap (said_of _) c.in-Word.is) in
    let long = ap length e in
    let put = c.put_number.ensures ∙ ap (λ (v : ℕ). sets l.words l.to (bytes 4 v)) c.from.ensures in (
      (omega (arith, n.before, n.on, inv.0.0), omega (arith, n.within, ap length n.same)),
      tt,
      n.same,
      omega (arith, n.on, inv.3),
      omega (arith, inv.4, long),
      ap (λ (m : List ℕ). sets m (l.to + 4) (bytes_of_words rest)) put
          ∙ sym (put_word l.words l.to w rest)
          ∙ ap (λ (ws : List ℕ). sets l.words l.to (bytes_of_words ws)) (sym e)
          ∙ inv.5,
    )

pub loop-line-preserved : goal.loop-line-preserved
loop-line-preserved c =
    let a = c.args in
    let l = c.loop-line in
    let it = l.line-iterator in
    let inv = l.invariant in
    let n = line_next it c.next.new.self c.in-Some.line a.text.now inv.2 c.in-Some.ensures.steps in
    let e = words-none a.text.now a.table.now l.own _ _ _ n.lines _ c.line.result c.line.ensures c.in_default.not-Word in
    let long = ap length e in (
      (omega (arith, n.before, n.on, inv.0.0), omega (arith, n.within, ap length n.same)),
      tt,
      n.same,
      omega (arith, n.on, inv.3),
      omega (arith, inv.4, long),
      ap (λ (ws : List ℕ). sets l.words l.to (bytes_of_words ws)) (sym e) ∙ inv.5,
    )

pub returns : goal.returns
unfolding bytes_of_words
returns c =
    let a = c.args in
    let l = c.loop-line in
    let it = l.line-iterator in
    let end = c.in-None.ensures.steps.1.0 in
    ap (λ (ws : List ℕ). sets l.words l.to (bytes_of_words ws)) (sym (words-end a.text.now a.table.now l.own a.text.now it.at (omega (arith, end, ap length l.invariant.2))))
    ∙ l.invariant.5
