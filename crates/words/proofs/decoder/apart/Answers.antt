use Rattle.words.proofs.Steps.{apart-refused, apart-made}
use Rattle.words.proofs.decoder.apart.Goals as goal

pub returns-then-unused-ne0 : goal.returns-then-unused-ne0
returns-then-unused-ne0 c = apart-refused c.args.op c.form_of-f.result c.unused.result c.args.word c.form_of-f.ensures c.unused.ensures c.if-unused-ne0.true

pub returns : goal.returns
returns c = apart-made c.args.op c.form_of-f.result c.unused.result c.args.word c.form_of-f.ensures c.unused.ensures c.register.result c.register-2.result c.register-3.result c.immediate.result
    c.if-unused-ne0.false c.register.ensures c.register-2.ensures c.register-3.ensures c.immediate.ensures
