use Rattle.execute.proofs.Finish.{on-limbs, not-on-limbs}
use Rattle.execute.proofs.registers.executed.Goals as goal

pub returns-then-limbs : goal.returns-then-limbs
returns-then-limbs c = λ m. rw c.onward.ensures (on-limbs _ _ _ _ _ _ (rw c.if-limbs.true at c.limbs.ensures))

pub returns : goal.returns
returns c = λ m. not-on-limbs _ _ _ _ _ _ _ (rw c.if-limbs.false at c.limbs.ensures) (c.on_whole.ensures m)
