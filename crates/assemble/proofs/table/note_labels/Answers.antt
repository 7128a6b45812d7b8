use Rattle.std.proofs.Common.{◌≡◌, ◌++◌, [], ◌∙◌, sym, ap, length, drop}
use Rattle.std.proofs.lemmas.List.{take-append-drop, append_assoc}
use Rattle.assemble.proofs.table.note_labels.Goals.{then-here-number, else-here-number}
use Rattle.assemble.proofs.table.note_labels.Goals as goal

pub loop-here-init : goal.loop-here-init
loop-here-init c =
    let rest = sym c.split_inclusive.ensures.rest ∙ sym (ap (λ z. z.rest.now) c.zip-here-items.ensures.second) in
    (([], rest ∙ sym (ap (λ z. z.b.rest.now) c.into_iter-here-iterator.ensures.into_iter_gives)), ([], c.args.text.now, λ i. c.args.text.now))

pub loop-here-preserved : goal.loop-here-preserved
loop-here-preserved c =
    let l = c.loop-here in
    let front = l.invariant.0.0 in
    let whole = c.in-Some.whole.now in
    let bytes = c.without_end-bytes.result.now in
    let rest = c.next.new.self.b.rest.now in
    let cut = c.in-Some.ensures.steps.1.0 in
    let here : c.args.text.now ≡ front ++ (whole ++ rest) = l.invariant.0.1 ∙ ap (λ r. front ++ r) cut in
    let behind = drop (length bytes) whole ++ rest in
    let split : whole ≡ bytes ++ drop (length bytes) whole = sym (take-append-drop (length bytes) whole) ∙ ap (λ b. b ++ drop (length bytes) whole) (sym c.without_end-bytes.ensures) in
    let line : c.args.text.now ≡ front ++ (bytes ++ behind) = here ∙ ap (λ w. front ++ (w ++ rest)) split ∙ ap (λ r. front ++ r) (append_assoc bytes (drop (length bytes) whole) rest) in (
      (front ++ whole, here ∙ sym (append_assoc front whole rest)),
      elim c.if-here-number.branch [
        | then-here-number w ↦ (front, behind, rw w.found-is line)
        | else-here-number w ↦ rw w.found-is l.invariant.1
      ],
    )

pub returns : goal.returns
returns c = c.loop-here.invariant.1
