-- What the calls of this crate come to over one list of records, from the tests that they make.
use Prim.Native.Nat.{ℕ}
use mathlib.Core.Path.{◌≡◌, refl}
use mathlib.Core.Bool.{◌&&◌}
use mathlib.Core.List.{List}
use lib.Dec.{eqb, leb}
use lib.ListN.{length}
use borrow.Author.Tests.{eq-eqb}
use Rattle.state.specs.declared.State.{State}
use Rattle.execute.specs.Execute.{admits}
use Rattle.execute.specs.declared.Choices.{Choices}
use Rattle.pending.specs.Pending.{lists_fit}
use Rattle.checks.specs.Records.{listed}
use Rattle.checks.specs.declared.Pending.{Pending}
use Rattle.checks.proofs.Listed.{fits-is}

-- the test of an entry
pub entry : (c : Choices) (s : State) (n : ℕ) (l : List Pending)
    → (admits c.mode s.registers && (eqb (length l) (length l) && eqb (length l) (length l) && leb n (length l))) ≡ (admits c.mode s.registers && lists_fit (listed n l))
entry c s n l = rw (fits-is n l, eq-eqb (length l) (length l) refl)
