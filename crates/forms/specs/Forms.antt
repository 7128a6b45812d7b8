-- Document 01, "Words": what a word of each form has beside its opcode and registers.
use Rattle.std.specs.Prelude.{ℕ, Bool, true, nat_lt}
use Rattle.encoding.specs.Fields.{field, extended, fits_in}
use Rattle.opcode.specs.declared.Form.{Form}
use Rattle.opcode.specs.declared.Form.TheVariants.{R, I, Shift, S, B, J, Alone}

-- the bits of a word that a form uses, from bit 0 on: "a nonzero funct, a shift amount over 63, or an Ecall or Ebreak
-- with bits 7-31 not zero is refused (5)"
unfoldable pub used_bits : Form → ℕ
used_bits R = 19
used_bits I = 32
used_bits Shift = 21
used_bits S = 32
used_bits B = 32
used_bits J = 32
used_bits Alone = 7

-- a word's immediate or offset with its sign, modulo 2^64; a shift amount has none
unfoldable pub immediate_of : Form → ℕ → ℕ
immediate_of R w = 0
immediate_of I w = extended 16 (field 15 17 w)
immediate_of Shift w = field 15 17 w
immediate_of S w = extended 16 (field 15 17 w)
immediate_of B w = extended 16 (field 15 17 w)
immediate_of J w = extended 20 (field 11 21 w)
immediate_of Alone w = 0

-- what the field of a form holds; a shift amount is at most 63
unfoldable pub imm_fits : Form → ℕ → Bool
imm_fits R i = true
imm_fits I i = fits_in 16 i
imm_fits Shift i = nat_lt i 64
imm_fits S i = fits_in 16 i
imm_fits B i = fits_in 16 i
imm_fits J i = fits_in 20 i
imm_fits Alone i = true
