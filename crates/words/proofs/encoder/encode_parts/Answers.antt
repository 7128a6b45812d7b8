use Rattle.words.specs.Words.{encoded_in}
use Rattle.words.proofs.encoder.encode_parts.Goals as goal

pub returns-then-parts_fit : goal.returns-then-parts_fit
unfolding encoded_in
returns-then-parts_fit c = rw (← c.parts_fit.ensures, c.if-parts_fit.true, c.word_of.ensures, c.opcode_number.ensures, c.form_of.ensures)

pub returns-else-parts_fit : goal.returns-else-parts_fit
unfolding encoded_in
returns-else-parts_fit c = rw (← c.parts_fit.ensures, c.if-parts_fit.false)
