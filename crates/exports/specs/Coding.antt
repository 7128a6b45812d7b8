-- Inner: decoder and encoder over numbers alone, for the comparison.
use Rattle.opcode.specs.declared.Opcode.{Opcode}
use Rattle.refusal.specs.declared.Refusal.{Refusal}
use Rattle.std.specs.Prelude.{Err, None, Ok, Option, Result, Some, ℕ, ◌+◌, ◌-◌, ◌*◌, ◌^◌}
use Rattle.refusal.specs.Stops.{number_of}
use Rattle.opcode.specs.Opcodes.{opcode_number}
use Rattle.opcode.specs.declared.Opcode.TheVariants as O
use Rattle.instruction.specs.Operands.{built, parts_of}
use Rattle.instruction.specs.declared.Instruction.{Instruction}
use Rattle.instruction.specs.declared.Parts.{Parts}
use Rattle.exports.specs.declared.triple.Triple.{Triple}
use Rattle.exports.specs.Triples.{triple, refusal_triple}

-- the opcode's number and the registers at bits 7, 11 and 15, a byte each
abbrev pub packed_of : Parts → ℕ
packed_of p = opcode_number p.op + 2 ^ 8 * p.a + 2 ^ 16 * p.b + 2 ^ 24 * p.c

-- 0, the packed parts, the immediate; or the refusal
abbrev pub decoded_triple : Result Instruction Refusal → Triple
decoded_triple (Ok i) = triple 0 (packed_of (parts_of i)) (parts_of i).imm
decoded_triple (Err r) = refusal_triple r

-- a word, or 2^64 - 1 less the refusal's number
abbrev pub encoded_number : Result ℕ Refusal → ℕ
encoded_number (Ok w) = w
encoded_number (Err r) = 2 ^ 64 - 1 - number_of r

-- the instruction of an opcode's number; for a number that is none's, one that the encoder refuses
unfoldable pub given_of : Option Opcode → ℕ → ℕ → ℕ → ℕ → Instruction
given_of (Some op) a b c imm = built op a b c imm
given_of None a b c imm = built O.Add 16 16 16 0
