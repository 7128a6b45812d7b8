-- Pending checks as one lent list of records: what the three lists hold of them. Every promise of this crate is one of `pending`'s, through `listed`.
use Rattle.refusal.specs.declared.Refusal.{Refusal}
use Rattle.std.specs.Prelude.{Result, ℕ, List, map}
use Rattle.pending.specs.Pending.{Lists, lists, append_answer, append_lists}
use Rattle.checks.specs.declared.Pending.{Pending}

-- "one lent list of records": the values, bounds and pcs of the records, each a list by itself
abbrev pub listed : ℕ → List Pending → Lists
listed n l = lists n (map (λ (p : Pending). p.value) l) (map (λ (p : Pending). p.bound) l) (map (λ (p : Pending). p.pc) l)

abbrev pub answer_to : Pending → ℕ → List Pending → Result ℕ Refusal
answer_to p n l = append_answer p.value p.bound p.pc (listed n l)

abbrev pub with_one : Pending → ℕ → List Pending → Lists
with_one p n l = append_lists p.value p.bound p.pc (listed n l)
