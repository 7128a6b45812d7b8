-- A call of the run that goes on where another stopped on fuel.
use Rattle.std.specs.Prelude.{ℕ, ◌+◌, ◌^◌, ◌<◌, cond, List, eqb, get_or}
use Rattle.memory.specs.Bytes.{number_at}
use Rattle.layout.specs.Answer.{answer_bytes}
use Rattle.host.specs.Call.{Called, called}

-- what is lent to a call
abbrev pub AreBytes : List ℕ → Type 0
AreBytes b = (k : ℕ) → get_or b k 0 < 2 ^ 8

-- an answer's numbers are "code, steps, particular"
abbrev pub steps_in : List ℕ → ℕ
steps_in answer = number_at 8 answer 8

abbrev pub particular_in : List ℕ → ℕ
particular_in answer = number_at 8 answer 16

-- the call that leaves a, and then, where it stopped on fuel, the one that leaves b: the steps of both, and what the second leaves
unfoldable pub called_on : Called → Called → Called
called_on a b =
    cond (eqb a.code 0)
    (called b.code b.state b.memory (answer_bytes b.code (steps_in a.answer + steps_in b.answer) (particular_in b.answer)))
    a
