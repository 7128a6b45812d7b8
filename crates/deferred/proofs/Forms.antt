-- Instructions taken apart: where the sources stand by the form of the opcode, and which opcodes have a limb form.
use mathlib.Core.Path.{◌≡◌, refl, sym, ap, ◌∙◌}
use mathlib.Core.Bool.{true, false, cond}
use lib.Dec.{eqb}
use Rattle.opcode.specs.Opcodes.{all, form_of, opcode_number}
use Rattle.opcode.specs.declared.Opcode.{Opcode}
use Rattle.opcode.specs.declared.Opcode.TheVariants as O
use Rattle.opcode.specs.declared.Form.{Form}
use Rattle.opcode.specs.declared.Form.TheVariants.{R, I, Shift, S, B, J, Alone}
use Rattle.opcode.proofs.Arms.{everywhere}
use Rattle.opcode.proofs.Variants.{place, all-at}
use Rattle.instruction.specs.Operands.{built, instruction_of}
use Rattle.instruction.specs.declared.Parts.{Parts}
use Rattle.instruction.specs.declared.Instruction.TheVariants.{Sub, Ecall}
use Rattle.state.specs.declared.registers.Registers.{Registers}
use Rattle.state.specs.Registers.{normalise}
use Rattle.effect.specs.Notes.{Notes}
use Rattle.effect.specs.Tables.{is_registers, is_immediate}
use Rattle.deferred.specs.Limbs.{added, added_imm, limbed, limbs, limbs_if}
use Rattle.deferred.specs.Sources.{sources, normalise_each}

-- what an opcode of each form normalises; Ecall stands alone
abbrev pub placed : Form → Parts → Registers → Registers
placed R p Rs = normalise p.c (normalise p.b Rs)
placed I p Rs = normalise p.b Rs
placed Shift p Rs = normalise p.b Rs
placed S p Rs = normalise p.b (normalise p.a Rs)
placed B p Rs = normalise p.b (normalise p.a Rs)
placed J p Rs = Rs
placed Alone p Rs = cond (eqb (opcode_number p.op) (opcode_number O.Ecall)) (normalise_each (sources Ecall) Rs) Rs

pub settles-placed : (p : Parts) (f : Form) (Rs : Registers) → form_of p.op ≡ f → placed f p Rs ≡ normalise_each (sources (instruction_of p)) Rs
unfolding sources normalise_each all
settles-placed p f Rs e =
    ap (λ (g : Form). placed g p Rs) (sym e)
    ∙ everywhere all O.Add place all-at
    (λ (op : Opcode). placed (form_of op) (record { op = op; a = p.a; b = p.b; c = p.c; imm = p.imm }) Rs)
    (λ (op : Opcode). normalise_each (sources (built op p.a p.b p.c p.imm)) Rs)
    refl
    refl
    p.op

-- by the opcodes that the code asks for
pub limbs-of-two : (N : Notes) (p : Parts) (Rs : Registers)
    → cond (eqb (opcode_number p.op) (opcode_number O.Add)) (limbed true (added N p.a p.b p.c Rs))
    (cond (eqb (opcode_number p.op) (opcode_number O.Sub)) (limbs N (Sub p.a p.b p.c) Rs) (limbed false Rs))
    ≡ limbs_if (is_registers (form_of p.op)) N (instruction_of p) Rs
unfolding limbs all
limbs-of-two N p Rs =
    everywhere all O.Add place all-at
    (λ (op : Opcode). cond (eqb (opcode_number op) (opcode_number O.Add)) (limbed true (added N p.a p.b p.c Rs)) (cond (eqb (opcode_number op) (opcode_number O.Sub)) (limbs N (Sub p.a p.b p.c) Rs) (limbed false Rs)))
    (λ (op : Opcode). limbs_if (is_registers (form_of op)) N (built op p.a p.b p.c p.imm) Rs)
    refl
    refl
    p.op

pub limbs-of-one : (N : Notes) (p : Parts) (Rs : Registers)
    → cond (eqb (opcode_number p.op) (opcode_number O.Addi)) (limbed true (added_imm N p.a p.b p.imm Rs)) (limbed false Rs)
    ≡ limbs_if (is_immediate (form_of p.op)) N (instruction_of p) Rs
unfolding limbs all
limbs-of-one N p Rs =
    everywhere all O.Add place all-at
    (λ (op : Opcode). cond (eqb (opcode_number op) (opcode_number O.Addi)) (limbed true (added_imm N p.a p.b p.imm Rs)) (limbed false Rs))
    (λ (op : Opcode). limbs_if (is_immediate (form_of op)) N (built op p.a p.b p.c p.imm) Rs)
    refl
    refl
    p.op

module _ (N : Notes) (p : Parts) (Rs : Registers) where
  pub two-add : eqb (opcode_number p.op) (opcode_number O.Add) ≡ true → limbed true (added N p.a p.b p.c Rs) ≡ limbs_if (is_registers (form_of p.op)) N (instruction_of p) Rs
  two-add e = rw e at (limbs-of-two N p Rs)

  pub two_none : eqb (opcode_number p.op) (opcode_number O.Add) ≡ false → eqb (opcode_number p.op) (opcode_number O.Sub) ≡ false
      → limbed false Rs ≡ limbs_if (is_registers (form_of p.op)) N (instruction_of p) Rs
  two_none e f = rw (e, f) at (limbs-of-two N p Rs)

  pub one-addi : eqb (opcode_number p.op) (opcode_number O.Addi) ≡ true → limbed true (added_imm N p.a p.b p.imm Rs) ≡ limbs_if (is_immediate (form_of p.op)) N (instruction_of p) Rs
  one-addi e = rw e at (limbs-of-one N p Rs)

  pub one_none : eqb (opcode_number p.op) (opcode_number O.Addi) ≡ false → limbed false Rs ≡ limbs_if (is_immediate (form_of p.op)) N (instruction_of p) Rs
  one_none e = rw e at (limbs-of-one N p Rs)
