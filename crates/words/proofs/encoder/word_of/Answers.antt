use Rattle.opcode.proofs.Variants.{forms, form-place, forms-at}
use Rattle.opcode.proofs.Arms.{arm}
use Rattle.opcode.specs.declared.Form.TheVariants.{R}
use Rattle.opcode.specs.declared.Form.{Form}
use Rattle.words.specs.Words.{word_of}
use Rattle.encoding.specs.Words.{i_word}
use Prim.Native.Nat.{◌^◌}
use native.Mathlib.Nat.{mod-mod}
use mathlib.Core.List.{[], ◌∷◌}
use mathlib.Core.Path.{refl}
use Rattle.words.proofs.encoder.word_of.Goals as goal

pub returns-in-R : goal.returns-in-R
unfolding word_of
returns-in-R c = rw c.in-R.is (rw (c.encode_rtype.ensures))

pub returns-in-I : goal.returns-in-I
unfolding word_of
returns-in-I c = rw (c.encode_itype.ensures, mod-mod c.args.p.imm (2 ^ 17)) (arm forms R form-place forms-at (λ (f : Form). word_of f c.args.n c.args.p) (i_word c.args.n c.args.p.a c.args.p.b c.args.p.imm) (1 ∷ 2 ∷ []) refl c.args.f c.in-I.in-I-own.keys2)

pub returns-in-S : goal.returns-in-S
unfolding word_of
returns-in-S c = rw c.in-S.is (rw (c.encode_stype.ensures, mod-mod c.args.p.imm (2 ^ 17)))

pub returns-in-B : goal.returns-in-B
unfolding word_of
returns-in-B c = rw c.in-B.is (rw (c.encode_btype.ensures, mod-mod c.args.p.imm (2 ^ 17)))

pub returns-in-J : goal.returns-in-J
unfolding word_of
returns-in-J c = rw c.in-J.is (rw (c.encode_jtype.ensures, mod-mod c.args.p.imm (2 ^ 21)))

pub returns-in-Alone : goal.returns-in-Alone
unfolding word_of
returns-in-Alone c = rw c.in-Alone.is c.encode_rtype-in-Alone.ensures
