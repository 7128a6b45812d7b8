-- What each operation gives, and what a load reads, is a number of 64 bits.
use Prim.Native.Nat.{ℕ, zero, suc, ◌-◌, ◌/◌, ◌%◌, ◌^◌, ◌<◌, ◌≤◌}
use mathlib.Core.Path.{◌≡◌, refl}
use mathlib.Core.Bool.{Bool, true, false, not}
use mathlib.Core.List.{List}
use mathlib.Core.Logic.{⊎_elim}
use native.Mathlib.Nat.{div-le_self, mod-le}
use native.Mathlib.Omega.{arith}
use lib.Dec.{ltb, eqb, lit<}
use lib.Bits.{and_le_l, or_lt, xor_lt}
use lib.IntN.{ℤ, pos, negsuc, neg_ℤ, nat_abs}
use lib.Signed.{quot_z, rem_z, shr_z}
use mir.Syntax.{w64}
use mir.Val.{to_z, of_z}
use borrow.Author.Tests.{ltb-false}
use Rattle.encoding.specs.Fields.{extended}
use Rattle.encoding.proofs.Extends.{fits-means, extended_fits}
use Rattle.value.specs.Forty.{low40, shl40, modulo40, sra40, signed40, slt40, ult40}
use Rattle.value.specs.Division.{div_of, rem_of}
use Rattle.value.proofs.Shifts.{shr-small}
use Rattle.memory.specs.Bytes.{bit, number_at}
use Rattle.memory.specs.Memory.{size_of}
use Rattle.memory.specs.declared.Size.{Size}
use Rattle.memory.specs.declared.Size.TheVariants.{Byte, Half, Word, Double}
use Rattle.memory.proofs.Numbers.{Small}
use Rattle.layout.proofs.Numbers.{number-below}
use Rattle.effect.specs.Operations.{divided, result, loaded}
use Rattle.instruction.specs.declared.Division.{Division}
use Rattle.instruction.specs.declared.Division.TheVariants.{Div, Divu, Rem, Remu}
use Rattle.instruction.specs.declared.Operation.{Operation}
use Rattle.instruction.specs.declared.Operation.TheVariants.{Mulh, And, Or, Xor, Sll, Srl, Sra, Slt, Sltu, Sge, Sgeu, Seq, Sne}
use Rattle.instruction.specs.declared.LoadKind.{LoadKind}
use Rattle.instruction.specs.declared.LoadKind.TheVariants.{Lb, Lbu, Lh, Lhu, Lw, Ld}

-- ---- divisions
minus-wide : (n : ℕ) → of_z w64 (neg_ℤ (pos n)) < 2 ^ 64
minus-wide zero = lit< tt
minus-wide (suc n) = omega arith

quot-wide : (x y : ℤ) → nat_abs x < 2 ^ 64 → of_z w64 (quot_z x y) < 2 ^ 64
quot-wide (pos a) (pos b) h = omega (arith, div-le_self a b)
quot-wide (pos a) (negsuc b) h = minus-wide (a / suc b)
quot-wide (negsuc a) (pos b) h = minus-wide (suc a / b)
quot-wide (negsuc a) (negsuc b) h = omega (arith, div-le_self (suc a) (suc b))

rem_wide : (x y : ℤ) → nat_abs x < 2 ^ 64 → of_z w64 (rem_z x y) < 2 ^ 64
rem_wide (pos a) y h = omega (arith, mod-le a (nat_abs y))
rem_wide (negsuc a) y h = minus-wide (suc a % nat_abs y)

read_wide : (n : ℕ) → n < 2 ^ 64 → nat_abs (to_z w64 n) < 2 ^ 64
read_wide n h = by (ltb n (2 ^ 63)) refl
  where
    by : (t : Bool) → ltb n (2 ^ 63) ≡ t → nat_abs (to_z w64 n) < 2 ^ 64
    by true e = rw e h
    by false e = rw e (omega (arith, ltb-false n (2 ^ 63) e))

pub divided-wide : (op : Division) (a b : ℕ) → a < 2 ^ 64 → divided op a b < 2 ^ 64
unfolding divided div_of rem_of
divided-wide Div a b h = quot-wide (to_z w64 a) (to_z w64 b) (read_wide a h)
divided-wide Divu a b h = omega (arith, div-le_self a b)
divided-wide Rem a b h = rem_wide (to_z w64 a) (to_z w64 b) (read_wide a h)
divided-wide Remu a b h = omega (arith, mod-le a b)

-- ---- the other operations
bit-wide : (t : Bool) → bit t < 2 ^ 64
bit-wide true = lit< tt
bit-wide false = lit< tt

modulo-wide : (z : ℤ) → modulo40 z < 2 ^ 40
modulo-wide (pos n) = omega arith
modulo-wide (negsuc n) = omega arith

pub result-wide : (op : Operation) (a b : ℕ) → result op a b < 2 ^ 64
unfolding result shl40 sra40
result-wide Mulh a b = omega arith
result-wide And a b = omega (arith, and_le_l (low40 a) (low40 b))
result-wide Or a b = omega (arith, or_lt 40 (low40 a) (low40 b) (omega arith) (omega arith))
result-wide Xor a b = omega (arith, xor_lt 40 (low40 a) (low40 b) (omega arith) (omega arith))
result-wide Sll a b = omega arith
result-wide Srl a b = omega (arith, shr-small a (b % 64))
result-wide Sra a b = omega (arith, modulo-wide (shr_z (signed40 a) (2 ^ (b % 64))))
result-wide Slt a b = bit-wide (slt40 a b)
result-wide Sltu a b = bit-wide (ult40 a b)
result-wide Sge a b = bit-wide (not (slt40 a b))
result-wide Sgeu a b = bit-wide (not (ult40 a b))
result-wide Seq a b = bit-wide (eqb a b)
result-wide Sne a b = bit-wide (not (eqb a b))

-- ---- loads
extended-wide : (h x : ℕ) → suc h ≤ 64 → x < 2 ^ suc h → 2 ^ h ≤ 2 ^ 63 → extended h x < 2 ^ 64
extended-wide h x fit l few =
    ⊎_elim (λ (p : extended h x < 2 ^ h). omega arith) (λ (p : (2 ^ 64 - 2 ^ h ≤ extended h x) × (extended h x < 2 ^ 64)). p.1) (fits-means h (extended h x) (extended_fits h fit x l))

pub loaded-wide : (op : LoadKind) (v : ℕ) → v < 2 ^ 64 → loaded op v < 2 ^ 64
unfolding loaded
loaded-wide Lb v h = extended-wide 7 (v % 2 ^ 8) (lit< tt) (omega arith) (lit< tt)
loaded-wide Lbu v h = h
loaded-wide Lh v h = extended-wide 15 (v % 2 ^ 16) (lit< tt) (omega arith) (lit< tt)
loaded-wide Lhu v h = h
loaded-wide Lw v h = h
loaded-wide Ld v h = h

pub read-bytes-wide : (size : Size) (m : List ℕ) (at : ℕ) → Small m → number_at (size_of size) m at < 2 ^ 64
read-bytes-wide size m at small = by (number-below (size_of size) m at small) (few size)
  where
    few : (size : Size) → 256 ^ size_of size ≤ 2 ^ 64
    few Byte = lit< tt
    few Half = lit< tt
    few Word = lit< tt
    few Double = omega arith

    by : {v p : ℕ} → v < p → p ≤ 2 ^ 64 → v < 2 ^ 64
    by h k = omega arith
