use Rattle.exports.proofs.Stored.{triple-stored, triple-kept}
use Rattle.exports.proofs.triple.write_triple.Goals as goal

pub returns-then-bytes-ne-TRIPLE_BYTES : goal.returns-then-bytes-ne-TRIPLE_BYTES
returns-then-bytes-ne-TRIPLE_BYTES c = triple-kept _ _ c.if-bytes-ne-TRIPLE_BYTES.true

pub returns : goal.returns
returns c = rw (c.put_number-3.ensures, c.put_number-2.ensures, c.put_number.ensures) (triple-stored c.args.t _ c.if-bytes-ne-TRIPLE_BYTES.false)
