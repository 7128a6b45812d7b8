-- Inner: what the answers say of the text that was read.
use Rattle.std.specs.Prelude.{Option, ℕ, ◌<◌, ◌≤◌, Bool, true, false, cond, List, eqb, ℤ, length, drop, Option as RustOption, Some, None}
use Rattle.labels.specs.Table.{index_in}
use Rattle.sums.specs.Sums.{Sign, plus, minus, Op, add, sub, distance}
use Rattle.sums.specs.Reader.{Got, got, bad}
use Rattle.sums.specs.declared.numbers.Op.{Op as RustOp}
use Rattle.sums.specs.declared.numbers.Op.TheVariants.{Add, Sub}

abbrev pub value_read : RustOption ℤ → Option ℤ
value_read (Some v) = Some v
value_read None = None

abbrev pub sign_of : Bool → Sign
sign_of true = minus
sign_of false = plus

abbrev pub op_of : RustOp → Op
op_of Add = add
op_of Sub = sub

abbrev pub op_at : ℕ → RustOption RustOp
op_at c = cond (eqb c 43) (Some Add) (cond (eqb c 45) (Some Sub) None)

unfoldable pub look_in : List ℕ → List ℕ → ℕ → List ℕ → Option ℤ
look_in text table base name = distance base (index_in text table name)

-- what an answer says of the text s: a value, and the place after it
abbrev pub read_to : List ℕ → RustOption (ℤ × ℕ) → Got
read_to s (Some (v, n)) = got v (drop n s)
read_to s None = bad

abbrev pub Past : List ℕ → ℕ → RustOption (ℤ × ℕ) → Type 0
Past s at (Some (v, n)) = (at < n) × (n ≤ length s)
Past s at None = Unit {0}
