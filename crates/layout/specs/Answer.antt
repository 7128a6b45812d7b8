-- Document 01 on the host's call: the bytes of its answer.
use Rattle.std.specs.Prelude.{ℕ, List, ◌++◌}
use Rattle.memory.specs.Bytes.{bytes}

abbrev pub ANSWER_BYTES : ℕ
ANSWER_BYTES = 24

-- "three 8-byte numbers: code, steps, particular"
unfoldable pub answer_bytes : ℕ → ℕ → ℕ → List ℕ
answer_bytes code steps particular = bytes 8 code ++ (bytes 8 steps ++ bytes 8 particular)
