use Rattle.std.proofs.Common.{List, ℕ, ◌≡◌, ◌++◌}
use Rattle.assemble.proofs.table.note_labels.Given as goal

-- What is left of the text is an end of it, and the line that was found is a part.
abbrev pub invariant-loop-here : goal.invariant-loop-here
invariant-loop-here l = ((front : List ℕ) × (l.text ≡ front ++ l.here-iterator.b.rest.now)) × ((front back : List ℕ) × (l.text ≡ front ++ (l.found.bytes.now ++ back)))
