-- Inner: a register's record and the whole state as the code reads them.
use Rattle.std.specs.Prelude.{ℕ, ◌+◌, ◌/◌, ◌%◌, ◌^◌, Bool, ◌&&◌, List, length, leb, eqb}
use Rattle.memory.specs.Bytes.{number_at}
use Rattle.layout.specs.Layout.{STATE_BYTES, numbers_fit, state_in, well_laid}
use Rattle.layout.specs.declared.records.Record.{Record}
use Rattle.layout.specs.declared.reading.RecordParts.{RecordParts}
use Rattle.layout.specs.declared.reading.Reading.{Reading}

-- the first number is taken apart
abbrev pub record_parts : Record → RecordParts
record_parts r =
    record {
      kind = r.head % 2 ^ 8;
      bound = r.head / 2 ^ 8 % 2 ^ 8;
      zeros = r.head / 2 ^ 16;
      first = r.first;
      second = r.second;
    }

abbrev pub parts_at : List ℕ → ℕ → RecordParts
parts_at b at =
    record {
      kind = number_at 1 b at;
      bound = number_at 1 b (at + 1);
      zeros = number_at 6 b (at + 2);
      first = number_at 8 b (at + 8);
      second = number_at 8 b (at + 16);
    }

abbrev pub parts_laid : RecordParts → Bool
parts_laid p = eqb p.zeros 0 && numbers_fit p.kind p.first p.second

abbrev pub header_laid : List ℕ → Bool
header_laid b = eqb (length b) STATE_BYTES && leb (number_at 1 b 8) 1 && eqb (number_at 7 b 9) 0

-- the state in some bytes, and whether they are well laid
abbrev pub read_in : List ℕ → Reading
read_in b = record { state = state_in b; laid = well_laid b }
