use borrow.Enum.Refused.{opened}
use mathlib.Core.Path.{refl}
use Rattle.effect.specs.Operations.{store_size}
use Rattle.instruction.proofs.Kindred.{others}
use Rattle.instruction.specs.Kinds.{store_kind_of}
use Rattle.opcode.specs.declared.Opcode.{Opcode}
use Rattle.memory.specs.Memory.{size_of}
use Rattle.memory.specs.declared.Size.TheVariants.{Byte}
use Rattle.opcode.specs.Opcodes.{all}
use Rattle.effect.proofs.store.store_size.Goals as goal

pub returns-in-Sh : goal.returns-in-Sh
unfolding store_size
returns-in-Sh c = rw c.in-Sh.is

pub returns-in-Sw : goal.returns-in-Sw
unfolding store_size
returns-in-Sw c = rw c.in-Sw.is

pub returns-in-Sd : goal.returns-in-Sd
unfolding store_size
returns-in-Sd c = rw c.in-Sd.is

pub returns-in_default : goal.returns-in_default
unfolding store_size all
returns-in_default c = others size_of (λ (op : Opcode). store_size (store_kind_of op)) Byte refl c.args.op (opened c.in_default.in_default-own.keys4)
