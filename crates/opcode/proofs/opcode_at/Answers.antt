use Rattle.opcode.proofs.Numberings.{valid, last}
use Rattle.opcode.specs.Opcodes.{opcode_number, all}
use Rattle.opcode.specs.declared.Opcode.TheVariants as O
use mathlib.Core.Path.{◌∙◌}
use lib.ListN.{take}
use Rattle.opcode.proofs.opcode_at.Goals as goal

pub returns-in_default : goal.returns-in_default
unfolding all
returns-in_default c = last opcode_number (take 49 all) O.Ebreak c.args.n c.in_default.in_default-own.rest (valid c.args.n ∙ c.requires)
