-- Document 01, "Words": how the fields of each kind of word lie side by side. "The raw encoders mask their fields".
use Rattle.std.specs.Prelude.{ℕ, ◌+◌, ◌*◌, ◌%◌, ◌^◌, List, [], ◌∷◌}

-- what is to stand in a field of so many bits
pub record Piece : Type 0 where
  pub wide : ℕ
  pub value : ℕ

abbrev pub bits : ℕ → ℕ → Piece
bits k x = record { wide = k; value = x }

-- the pieces side by side from bit 0 on, each cut to its width
abbrev pub packed : List Piece → ℕ
packed [] = 0
packed (p ∷ ps) = p.value % 2 ^ p.wide + packed ps * 2 ^ p.wide

-- R: opcode 0-6, rd 7-10, rs1 11-14, rs2 15-18, funct 19-31
abbrev pub r_word : ℕ → ℕ → ℕ → ℕ → ℕ → ℕ
r_word opcode rd rs1 rs2 funct = packed (bits 7 opcode ∷ bits 4 rd ∷ bits 4 rs1 ∷ bits 4 rs2 ∷ bits 13 funct ∷ [])

-- I: rd, rs1, immediate 15-31
abbrev pub i_word : ℕ → ℕ → ℕ → ℕ → ℕ
i_word opcode rd rs1 imm = packed (bits 7 opcode ∷ bits 4 rd ∷ bits 4 rs1 ∷ bits 17 imm ∷ [])

-- S and B: rs1 at 7-10, rs2 at 11-14, immediate 15-31
abbrev pub s_word : ℕ → ℕ → ℕ → ℕ → ℕ
s_word opcode rs1 rs2 imm = packed (bits 7 opcode ∷ bits 4 rs1 ∷ bits 4 rs2 ∷ bits 17 imm ∷ [])

-- J: rd, offset 11-31
abbrev pub j_word : ℕ → ℕ → ℕ → ℕ
j_word opcode rd offset = packed (bits 7 opcode ∷ bits 4 rd ∷ bits 21 offset ∷ [])
