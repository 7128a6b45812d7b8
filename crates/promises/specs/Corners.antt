-- Document 01's corners P1 to P12 as one list under one statement: what a definition gives, beside what the document says.
use Rattle.refusal.specs.declared.Refusal.{Refusal}
use Rattle.std.specs.Prelude.{None, Some, Option, Err, Ok, Result, ℕ, ◌-◌, ◌^◌, ◌≡◌, false, ℤ, pos, negsuc, get_or}
use mathlib.Core.List.{List, [], ◌∷◌, replicate}
use Rattle.encoding.specs.Fields.{signed_of}
use Rattle.opcode.specs.Opcodes.{opcode_number}
use Rattle.words.specs.Words.{encode_in}
use Rattle.instruction.specs.declared.Instruction.{Instruction}
use Rattle.instruction.specs.declared.Instruction.TheVariants as N
use Rattle.instruction.specs.declared.Division.TheVariants.{Div, Rem}
use Rattle.instruction.specs.declared.Operation.TheVariants.{Mulh, Sll, Sra, Seq, Sltu}
use Rattle.instruction.specs.declared.StoreKind.TheVariants.{Sw}
use Rattle.state.specs.Held.{value_of}
use Rattle.state.specs.Registers.{registers, holds}
use Rattle.state.specs.Formed.{fresh_at}
use Rattle.normalize.specs.Normalizing.{zeros, normalize_and_write}
use Rattle.normalize.specs.declared.NormalizationResult.{NormalizationResult}
use Rattle.effect.specs.Notes.{document_notes}
use Rattle.execute.specs.World.{World, world}
use Rattle.given.specs.Given.{execute_one}
use Rattle.execute.specs.declared.Mode.TheVariants.{Plain}

pub data Corner : Type 0 where
  number : ℕ → ℕ → Corner
  integer : ℤ → ℤ → Corner

-- the statement
abbrev pub All : List Corner → Type 0
All [] = Unit {0}
All (number a b ∷ cs) = (a ≡ b) × All cs
All (integer a b ∷ cs) = (a ≡ b) × All cs

-- the word of an instruction, or 2^32, which is none
abbrev pub word_in : Result ℕ Refusal → ℕ
word_in (Ok w) = w
word_in (Err r) = 2 ^ 32

abbrev pub word : Instruction → ℕ
word i = word_in (encode_in opcode_number i)

-- limbs 2^30-1 twice, normalised; an answer that is none gives zeros
abbrev pub normalisation_in : Result (Option NormalizationResult) Refusal → NormalizationResult
normalisation_in (Ok (Some r)) = r
normalisation_in (Ok None) = zeros
normalisation_in (Err r) = zeros

abbrev pub normalised : NormalizationResult
normalised = normalisation_in (normalize_and_write (fresh_at 0) 1 (2 ^ 30 - 1) (2 ^ 30 - 1)).answer

-- R1 holds a and R2 b; R3 holds 7, which no corner gives
abbrev pub holding : ℕ → ℕ → World
holding a b = world 0 false (registers (0 ∷ a ∷ b ∷ 7 ∷ replicate 12 0) (replicate 16 false) (replicate 16 0)) []

-- what R3 holds after an instruction on them
abbrev pub stores : (ℕ → ℕ → ℕ → Instruction) → ℕ → ℕ → ℕ
stores op a b = value_of (holds (execute_one Plain document_notes (op 3 1 2) (holding a b)).world.registers 3)

-- negsuc n is -1 - n
abbrev pub paper : List Corner
paper =
    -- P1: 0x0FFFF is 65535, 0x10000 is -65536. P2: 0x0FFFFF is 1048575, 0x100000 is -1048576
    integer (signed_of 16 0x0FFFF) (pos 65535)
    ∷ integer (signed_of 16 0x10000) (negsuc 65535)
    ∷ integer (signed_of 20 0x0FFFFF) (pos 1048575)
    ∷ integer (signed_of 20 0x100000) (negsuc 1048575)
    -- P3: Add R3,R1,R2. P4: Addi R1,R0,-1. P5: Sw with rs1 R2, rs2 R3, 8. P6: Jal R15,-4
    ∷ number (word (N.Add 3 1 2)) 0x00010981
    ∷ number (word (N.Addi 1 0 (2 ^ 64 - 1))) 0xFFFF8089
    ∷ number (word (N.Store Sw 2 3 8)) 0x00041927
    ∷ number (word (N.Jal 15 (2 ^ 64 - 4))) 0xFFFFE7AF
    -- P7: limbs 2^30-1 twice normalise to 1048575 and 1022, carries 1023 and 1024
    ∷ number (get_or normalised.normalized 0 0) 1048575
    ∷ number (get_or normalised.normalized 1 0) 1022
    ∷ number (get_or normalised.carries 0 0) 1023
    ∷ number (get_or normalised.carries 1 0) 1024
    -- P8: Mulh of 2^64-1 by itself, of 2^40-1 by itself
    ∷ number (stores (N.Op Mulh) (2 ^ 64 - 1) (2 ^ 64 - 1)) 1099478073344
    ∷ number (stores (N.Op Mulh) (2 ^ 40 - 1) (2 ^ 40 - 1)) 1099511627774
    -- P9: -2^63 by -1: Div stores 2^63, Rem 0
    ∷ number (stores (N.Divide Div) (2 ^ 63) (2 ^ 64 - 1)) (2 ^ 63)
    ∷ number (stores (N.Divide Rem) (2 ^ 63) (2 ^ 64 - 1)) 0
    -- P10: 1 shifted left by a register holding 39, 40, 64
    ∷ number (stores (N.Op Sll) 1 39) 549755813888
    ∷ number (stores (N.Op Sll) 1 40) 0
    ∷ number (stores (N.Op Sll) 1 64) 1
    -- P11: Sra of 2^39 by 63
    ∷ number (stores (N.Op Sra) (2 ^ 39) 63) (2 ^ 40 - 1)
    -- P12: 2^64-1 and 2^40-1: Seq 0, Sltu 0 either way
    ∷ number (stores (N.Op Seq) (2 ^ 64 - 1) (2 ^ 40 - 1)) 0
    ∷ number (stores (N.Op Sltu) (2 ^ 64 - 1) (2 ^ 40 - 1)) 0
    ∷ number (stores (N.Op Sltu) (2 ^ 40 - 1) (2 ^ 64 - 1)) 0
    ∷ []
