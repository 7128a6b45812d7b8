use Rattle.pending.specs.Pending.{no_lists}
use Rattle.host.proofs.Calls.{call-refused, call-of-another-length, call-served}
use Rattle.run.specs.Run.{answer}
use Rattle.execute.specs.World.{world_of}
use Rattle.host.proofs.zkir_run.Goals as goal

pub returns-then-state-ne-STATE_BYTES : goal.returns-then-state-ne-STATE_BYTES
returns-then-state-ne-STATE_BYTES c = call-of-another-length _ _ _ _ _ _ _ c.if-state-ne-STATE_BYTES.true c.malformed.ensures

pub returns-then-not-call_taken : goal.returns-then-not-call_taken
returns-then-not-call_taken c = call-refused _ _ _ _ _ _ _ c.read-r.result _ c.read-r.ensures c.call_taken.ensures (c.if-not-call_taken.true) c.malformed-then-not-call_taken.ensures

pub returns : goal.returns
returns c = let r = c.run_taken-left in call-served _ _ _ _ _ c.read-r.result _ c.read-r.ensures c.call_taken.ensures (c.if-not-call_taken.false) (answer r.result.stop r.result.steps (world_of r.result.state r.new.m) no_lists) _ _ _ (rw (← c.mode_of.ensures) r.ensures) c.leave.ensures
