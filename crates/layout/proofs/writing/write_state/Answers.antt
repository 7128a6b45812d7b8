use Rattle.layout.proofs.Stored.{state-stored}
use Rattle.layout.proofs.Rows.{written_none}
use Rattle.layout.specs.Layout.{STATE_BYTES}
use Rattle.layout.proofs.writing.write_state.Goals as goal

pub returns-then-bytes-ne-STATE_BYTES : goal.returns-then-bytes-ne-STATE_BYTES
returns-then-bytes-ne-STATE_BYTES c = written_none STATE_BYTES _ _ c.if-bytes-ne-STATE_BYTES.true

pub returns : goal.returns
returns c =
    rw (c.put_records.ensures, c.put_header.ensures, c.bit.ensures)
    (state-stored c.args.s _ c.if-bytes-ne-STATE_BYTES.false)
