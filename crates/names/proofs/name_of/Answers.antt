use Rattle.names.proofs.Fifty.{key-at}
use Rattle.names.specs.Names.{name_key}
use Rattle.opcode.specs.Opcodes.{all}
use Rattle.labels.specs.Bytes.{key_from}
use lib.ListN.{get_or}
use Prim.Native.Nat.{ℕ, ◌-◌}
use mathlib.Core.List.{map}
use mathlib.Core.Path.{◌∙◌, ap}
use Rattle.names.proofs.name_of.Goals as goal

pub returns : goal.returns
unfolding all key_from
returns c = ap (λ (n : ℕ). get_or (map name_key all) (n - 1) 0) (c.from.ensures ∙ c.opcode_number.ensures) ∙ key-at c.args.op
