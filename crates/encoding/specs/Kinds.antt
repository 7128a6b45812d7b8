-- Document 01, "Words": the kind of a word, by the number of its opcode.
use Rattle.std.specs.Prelude.{ℕ, Bool, not, ◌&&◌, ◌||◌, eqb}
use Rattle.encoding.specs.Fields.{within}

-- "Kind S is 37-40"
abbrev pub is_s : ℕ → Bool
is_s n = within 37 40 n

-- "B 41-46"
abbrev pub is_b : ℕ → Bool
is_b n = within 41 46 n

-- "J 47 alone"
abbrev pub is_j : ℕ → Bool
is_j n = eqb n 47

-- "I 9, 13-15, 19-21, 31-36 and 48"
abbrev pub is_i : ℕ → Bool
is_i n = eqb n 9 || within 13 15 n || within 19 21 n || within 31 36 n || eqb n 48

-- "the other valid opcodes, Ecall and Ebreak too, are kind R"; the valid ones run from 1 to 50
abbrev pub is_r : ℕ → Bool
is_r n = within 1 50 n && not (is_s n || is_b n || is_j n || is_i n)
