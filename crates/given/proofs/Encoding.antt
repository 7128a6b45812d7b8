-- What executing one instruction answers, from the tests that the code makes.
use Rattle.std.specs.Prelude.{Err, Ok, Result}
use Prim.Native.Nat.{ℕ}
use native.Mathlib.Omega.{arith}
use mathlib.Core.Path.{◌≡◌, refl, sym, ap, ◌∙◌}
use mathlib.Core.Bool.{Bool, true, false, cond, ◌&&◌}
use Rattle.refusal.specs.Stops.{refusal_of}
use Rattle.refusal.specs.declared.Refusal.{Refusal}
use Rattle.effect.specs.Notes.{Notes}
use Rattle.words.specs.Words.{fits_of, word_of, encoded_in, encode_in, decode_in}
use Rattle.words.proofs.OneWord.{document}
use Rattle.instruction.specs.declared.Instruction.{Instruction}
use Rattle.pending.specs.declared.Room.TheVariants.{Unlent}
use Rattle.opcode.specs.Opcodes.{opcode_number, form_of}
use Rattle.instruction.specs.Operands.{parts_of}
use Rattle.execute.specs.World.{World, Stepped, refused}
use Rattle.execute.specs.Execute.{execute, admits}
use Rattle.execute.specs.Rules.{document_rules, obey}
use Rattle.execute.specs.declared.Mode.{Mode}
use Rattle.given.specs.Given.{execute_one}

module _ (k : Mode) (N : Notes) (i : Instruction) (w : World) where
  pub not-admitted : admits k w.registers ≡ false → refused (refusal_of 9 0) w ≡ execute_one k N i w
  unfolding execute_one
  not-admitted e = rw e

  -- the encoder refuses what doesn't fit
  pub not-encoded : (r : Refusal) (x : Result ℕ Refusal) → x ≡ encode_in opcode_number i → x ≡ Err r → refused (refusal_of 9 0) w ≡ execute_one k N i w
  unfolding execute_one encoded_in
  not-encoded r x e f = told (admits k w.registers) (fits_of i) (sym e ∙ f)
    where
      told : (a t : Bool)
          → cond t (Ok (word_of (form_of (parts_of i).op) (opcode_number (parts_of i).op) (parts_of i))) (Err (refusal_of 9 0)) ≡ Err r
          → refused (refusal_of 9 0) w ≡ cond (a && t) (execute k Unlent N i w) (refused (refusal_of 9 0) w)
      told a true f = let z : ◌≡◌ {A = ℕ} 0 1 = cc in absurd (omega arith)
      told true false f = refl
      told false false f = refl

-- and the word of what fits is obeyed as the instruction
pub encoded : (k : Mode) (i : Instruction) (w : World) (word : ℕ) (x : Stepped) → Ok word ≡ encode_in opcode_number i
    → admits k w.registers ≡ true → x ≡ obey k Unlent document_rules (decode_in opcode_number word) w
    → x ≡ execute_one k document_rules.notes i w
unfolding execute_one obey encoded_in
encoded k i w word x e a q =
    q ∙ ap (λ (d : Result Instruction Refusal). obey k Unlent document_rules d w) (document.read_again i word (sym e)) ∙ rw a (told (fits_of i) e)
  where
    told : (t : Bool)
        → Ok word ≡ cond t (Ok (word_of (form_of (parts_of i).op) (opcode_number (parts_of i).op) (parts_of i))) (Err (refusal_of 9 0))
        → execute k Unlent document_rules.notes i w ≡ cond t (execute k Unlent document_rules.notes i w) (refused (refusal_of 9 0) w)
    told true f = refl
    told false f = let z : ◌≡◌ {A = ℕ} 0 1 = cc in absurd (omega arith)
