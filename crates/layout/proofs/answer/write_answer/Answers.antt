use Rattle.layout.proofs.Stored.{answer-stored}
use Rattle.layout.proofs.Rows.{written_none}
use Rattle.layout.specs.Answer.{ANSWER_BYTES, answer_bytes}
use Rattle.layout.proofs.answer.write_answer.Goals as goal

pub returns-then-bytes-ne-ANSWER_BYTES : goal.returns-then-bytes-ne-ANSWER_BYTES
returns-then-bytes-ne-ANSWER_BYTES c = written_none ANSWER_BYTES _ _ c.if-bytes-ne-ANSWER_BYTES.true

pub returns : goal.returns
unfolding answer_bytes
returns c =
    let a = c.args in
    rw c.put_three.ensures (answer-stored a.code a.steps a.particular _ c.if-bytes-ne-ANSWER_BYTES.false)
