-- Inner: pending checks with their answers in bytes, for the comparison.
use Rattle.refusal.specs.declared.Refusal.{Refusal}
use Rattle.std.specs.Prelude.{None, Option, Some, Err, Ok, Result, ℕ, List}
use Rattle.refusal.specs.Stops.{number_of}
use Rattle.pending.specs.declared.Entry.{Entry}
use Rattle.exports.specs.declared.triple.Triple.{Triple}
use Rattle.exports.specs.Triples.{triple, tripled, refusal_triple}

-- 0, the count, 0; or the refusal
abbrev pub counted_triple : Result ℕ Refusal → Triple
counted_triple (Ok n) = triple 0 n 0
counted_triple (Err r) = refusal_triple r

-- 0 for an entry, 64 for none, or the refusal's number
abbrev pub entry_code : Result (Option Entry) Refusal → ℕ
entry_code (Ok (Some e)) = 0
entry_code (Ok None) = 64
entry_code (Err r) = number_of r

-- value, bound and pc; an answer is left alone where there is no such entry
abbrev pub entry_in : Result (Option Entry) Refusal → List ℕ → List ℕ
entry_in (Ok (Some e)) an = tripled (triple e.value e.bound e.pc) an
entry_in (Ok None) an = an
entry_in (Err r) an = an
