-- One more line of a text. Assumes nothing.
use Rattle.std.proofs.Common.{◌≡◌, ℕ, ◌+◌, ◌<◌, ◌≤◌, List, ◌∷◌, Some, length, drop, ap, ◌∙◌}
use Rattle.programs.specs.Programs.{lines_of}
use Rattle.programs.specs.Code.{Spans, line_steps}
use Rattle.programs.specs.declared.spans.TextLine.{TextLine}
use Rattle.programs.specs.declared.spans.TextLines.{TextLines}

pub record Next (s t : TextLines) (l : TextLine) (text : List ℕ) : Type 0 where
  pub same : t.text.now ≡ text
  pub lines : lines_of (drop s.at text) ≡ l.bytes.now ∷ lines_of (drop t.at text)
  pub number : l.number ≡ s.before + 1
  pub before : t.before ≡ s.before + 1
  pub on : s.at < t.at
  pub within : t.at ≤ length text

pub line_next : (s t : TextLines) (l : TextLine) (text : List ℕ) → s.text.now ≡ text → line_steps s (Some l) t → Next s t l text
line_next s t l text is steps =
    let spans : Spans text s.at steps.1.3.0 = rw is at steps.1.3.1 in
    record {
      same = ap (λ b. b.now) steps.0 ∙ is;
      lines = rw (steps.1.3.2, steps.1.3.3, is) spans.lines;
      number = steps.1.1;
      before = steps.1.2 ∙ steps.1.1;
      on = rw steps.1.3.3 spans.on;
      within = rw steps.1.3.3 spans.within;
    }
