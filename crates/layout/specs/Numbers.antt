-- Inner: a register's record as the code has it, three numbers of eight bytes.
use Rattle.std.specs.Prelude.{ℕ, ◌+◌, List, ◌++◌}
use Rattle.memory.specs.Bytes.{bytes, number_at}
use Rattle.layout.specs.declared.records.Record.{Record}

abbrev pub numbers_of : Record → List ℕ
numbers_of r = bytes 8 r.head ++ (bytes 8 r.first ++ bytes 8 r.second)

abbrev pub numbers_at : List ℕ → ℕ → Record
numbers_at b at = record { head = number_at 8 b at; first = number_at 8 b (at + 8); second = number_at 8 b (at + 16) }
