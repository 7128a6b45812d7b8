-- Inner: three numbers of eight bytes each in a lent slice, for the comparison.
use Rattle.std.specs.Prelude.{ℕ, List, ◌++◌}
use Rattle.refusal.specs.Stops.{number_of, particular_of}
use Rattle.refusal.specs.declared.Refusal.{Refusal}
use Rattle.memory.specs.Bytes.{bytes}
use Rattle.layout.specs.Layout.{written}
use Rattle.exports.specs.declared.triple.Triple.{Triple}

abbrev pub TRIPLE_BYTES : ℕ
TRIPLE_BYTES = 24

abbrev pub triple : ℕ → ℕ → ℕ → Triple
triple a b c = record { first = a; second = b; third = c }

unfoldable pub triple_bytes : Triple → List ℕ
triple_bytes t = bytes 8 t.first ++ (bytes 8 t.second ++ bytes 8 t.third)

-- a slice of another size isn't written
abbrev pub tripled : Triple → List ℕ → List ℕ
tripled t old = written TRIPLE_BYTES (triple_bytes t) old

-- a refusal's number, 0, its particular
abbrev pub refusal_triple : Refusal → Triple
refusal_triple r = triple (number_of r) 0 (particular_of r)
