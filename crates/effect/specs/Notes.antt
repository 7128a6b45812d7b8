-- The notes of bounds, as a record that the definitions of instructions take: document 01's rules are one.
use Rattle.std.specs.Prelude.{ℕ, ◌%◌}
use Rattle.bound.specs.Bits.{bits_of, after_add, after_larger, after_mul, after_div, after_and, after_shl, after_srl, after_sra, after_cmp, after_load}
use Rattle.memory.specs.Memory.{size_of}
use Rattle.effect.specs.Operations.{load_size}
use Rattle.instruction.specs.declared.Division.{Division}
use Rattle.instruction.specs.declared.LoadKind.{LoadKind}
use Rattle.instruction.specs.declared.Operation.{Operation}
use Rattle.instruction.specs.declared.Operation.TheVariants.{Mulh, And, Or, Xor, Sll, Srl, Sra, Slt, Sltu, Sge, Sgeu, Seq, Sne}

-- from the operands' bounds, and for a result also from the second operand, which may be a shift amount
pub record Notes : Type 0 where
  pub sum : ℕ → ℕ → ℕ
  pub difference : ℕ → ℕ → ℕ
  pub product : ℕ → ℕ → ℕ
  pub quotient : Division → ℕ → ℕ → ℕ
  pub result : Operation → ℕ → ℕ → ℕ → ℕ
  pub moved : ℕ → ℕ → ℕ
  pub loaded : LoadKind → ℕ
  pub immediate : ℕ → ℕ
  pub link : ℕ → ℕ

-- "Sub, Or, Xor: larger. Mul, Mulh: sum. .. And: smaller. Left shift .. Srl .. Sra .. Comparison 1."
unfoldable pub result_bits : Operation → ℕ → ℕ → ℕ → ℕ
result_bits Mulh x y b = after_mul x y
result_bits And x y b = after_and x y
result_bits Or x y b = after_larger x y
result_bits Xor x y b = after_larger x y
result_bits Sll x y b = after_shl x (b % 64)
result_bits Srl x y b = after_srl x (b % 64)
result_bits Sra x y b = after_sra x (b % 64)
result_bits Slt x y b = after_cmp
result_bits Sltu x y b = after_cmp
result_bits Sge x y b = after_cmp
result_bits Sgeu x y b = after_cmp
result_bits Seq x y b = after_cmp
result_bits Sne x y b = after_cmp

abbrev pub document_notes : Notes
document_notes =
    record {
      sum = after_add;
      difference = after_larger;
      product = after_mul;
      quotient = λ op x y. after_div x;
      result = result_bits;
      moved = after_larger;
      loaded = λ op. after_load (size_of (load_size op));
      immediate = bits_of;
      link = bits_of;
    }
