-- The registers of a word that decodes: what it decodes to has a word, so its registers fit.
use Rattle.std.specs.Prelude.{Err, Ok, Result}
use Rattle.instruction.specs.declared.Instruction.{Instruction}
use Rattle.refusal.specs.declared.Refusal.{Refusal}
use Prim.Native.Nat.{ℕ, ◌^◌, ◌<◌}
use mathlib.Core.Bool.{Bool, true, false, cond, ◌&&◌}
use mathlib.Core.Path.{◌≡◌, refl}
use native.Mathlib.Omega.{arith}
use lib.Dec.{T, ltb, ltb→lt}
use mir.Facts.{and_yes}
use Rattle.refusal.specs.Stops.{refusal_of}
use Rattle.opcode.specs.Opcodes.{opcode_number, form_of}
use Rattle.forms.specs.Forms.{imm_fits}
use Rattle.instruction.specs.Operands.{parts_of}
use Rattle.instruction.specs.declared.Parts.{Parts}
use Rattle.words.proofs.OneWord.{document}
use Rattle.words.specs.Words.{decode_in, encoded_in, parts_fit, word_of}
use Rattle.printing.specs.Passes.{taken_of, ShortRegisters}

pub taken-registers : (w : ℕ) (p : Parts) → w < 2 ^ 32 → taken_of (decode_in opcode_number w) ≡ Ok p → ShortRegisters p
unfolding encoded_in parts_fit
taken-registers w p small = by (decode_in opcode_number w) refl
  where
    fits : (t : Bool) → cond t (Ok (word_of (form_of p.op) (opcode_number p.op) p)) (Err (refusal_of 9 0)) ≡ Ok w → T t
    fits true e = tt
    fits false e = absurd (let z : ◌≡◌ {A = ℕ} 0 1 = cc in omega arith)

    by : (d : Result Instruction Refusal) → decode_in opcode_number w ≡ d → taken_of d ≡ Ok p → ShortRegisters p
    by (Err r) is e = absurd (let z : ◌≡◌ {A = ℕ} 0 1 = cc in omega arith)
    by (Ok i) is e =
        let same : parts_of i ≡ p = cc in
        let all = and_yes (ltb p.a 16 && ltb p.b 16 && ltb p.c 16) (imm_fits (form_of p.op) p.imm) (fits (parts_fit p) (rw same at (document.made_again w i small is))) in
        let three = and_yes (ltb p.a 16 && ltb p.b 16) (ltb p.c 16) all.0 in
        let two = and_yes (ltb p.a 16) (ltb p.b 16) three.0 in
        record { a = ltb→lt p.a 16 two.0; b = ltb→lt p.b 16 two.1; c = ltb→lt p.c 16 three.1 }
