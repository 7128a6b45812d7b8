-- Three numbers stored one after another are the whole of a slice of their size.
use Prim.Native.Nat.{ℕ, ◌+◌, ◌≤◌}
use mathlib.Core.Path.{◌≡◌, ◌∙◌}
use mathlib.Core.List.{List, [], append-nil}
use native.Mathlib.Omega.{arith}
use lib.ListN.{length, drop, drop_of_length-le}
use lib.Seq.{sets-eq}
use borrow.Author.Tests.{eq-eqb, ne_eqb}
use Rattle.memory.specs.Bytes.{bytes, put_at}
use Rattle.layout.specs.Layout.{written}
use Rattle.exports.specs.Triples.{TRIPLE_BYTES, triple_bytes, tripled}
use Rattle.exports.specs.declared.triple.Triple.{Triple}

module _ (t : Triple) (old : List ℕ) where
  pub triple-stored : length old ≡ TRIPLE_BYTES
      → put_at 8 (put_at 8 (put_at 8 old 0 t.first) 8 t.second) 16 t.third ≡ tripled t old
  unfolding bytes triple_bytes written
  triple-stored h =
      let room : 0 + 24 ≤ length old = omega arith in
      let none : drop (0 + 24) old ≡ [] = drop_of_length-le old {i = 0 + 24} (omega arith) in
      rw (eq-eqb (length old) TRIPLE_BYTES h) (sets-eq (triple_bytes t) old 0 room ∙ rw none (append-nil (triple_bytes t)))

  pub triple-kept : (length old ≡ TRIPLE_BYTES → ⊥) → old ≡ tripled t old
  unfolding written
  triple-kept h = rw (ne_eqb (length old) TRIPLE_BYTES h)
