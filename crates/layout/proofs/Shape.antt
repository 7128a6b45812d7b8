-- The state in any bytes is in numbers of 64 and of 8 bits.
use Prim.Native.Nat.{ℕ, zero, suc, ◌+◌, ◌%◌, ◌^◌, ◌<◌}
use mathlib.Core.Bool.{Bool, true, false, cond}
use mathlib.Core.List.{List}
use native.Mathlib.Omega.{arith}
use lib.Dec.{eqb, lit<}
use lib.ListN.{get_or}
use Rattle.state.specs.Held.{Whole, Limbs, kept}
use Rattle.layout.specs.Layout.{record_at, kind_in, bound_in, first_in, second_in, held_by, held_in, table, state_in}
use Rattle.layout.specs.Shape.{Shaped}
use Rattle.memory.proofs.Numbers.{Small}
use Rattle.layout.proofs.Rows.{length-table}
use Rattle.layout.proofs.Numbers.{number-below}

table-each : (P : ℕ → Type 0) (n i : ℕ) (f : ℕ → ℕ) (k : ℕ) → P 0 → ((j : ℕ) → P (f j)) → P (get_or (table n i f) k 0)
unfolding table
table-each P zero i f k none each = none
table-each P (suc n) i f zero none each = each i
table-each P (suc n) i f (suc k) none each = table-each P n (i + 1) f k none each

kept-fits : (kind first second : ℕ) → first < 2 ^ 64 → kept (held_by kind first second) < 2 ^ 64
unfolding held_by kept
kept-fits kind first second h = by (eqb kind 1)
  where
    by : (t : Bool) → kept (cond t (Limbs (first % 2 ^ 30) (second % 2 ^ 30)) (Whole first)) < 2 ^ 64
    by true = omega arith
    by false = h

pub shaped_in : (b : List ℕ) → Small b → Shaped (state_in b)
unfolding state_in
shaped_in b small =
    record {
      pc-fits = number-below 8 b 0 small;
      values_long = length-table 16 0 (λ i. kept (held_in b i));
      accumulated-long = length-table 16 0 _;
      bounds-long = length-table 16 0 (bound_in b);
      value-fits = λ k. table-each (λ n. n < 2 ^ 64) 16 0 (λ i. kept (held_in b i)) k (lit< tt)
          (λ i. kept-fits (kind_in b i) (first_in b i) (second_in b i) (number-below 8 b (record_at i + 8) small));
      bound-fits = λ k. table-each (λ n. n < 2 ^ 8) 16 0 (bound_in b) k (lit< tt) (λ i. number-below 1 b (record_at i + 1) small);
    }
