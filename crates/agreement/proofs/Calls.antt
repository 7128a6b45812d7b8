-- The host's call in its two modes.
use Prim.Native.Nat.{ℕ}
use mathlib.Core.Path.{◌≡◌, refl, sym, ap, ◌∙◌}
use mathlib.Core.Bool.{Bool, true, false, ◌&&◌}
use mathlib.Core.List.{List}
use lib.ListN.{length}
use lib.Dec.{eqb}
use native.Mathlib.Omega.{arith}
use Rattle.pending.specs.Pending.{no_lists}
use Rattle.refusal.specs.Stops.{code_of, particular_at}
use Rattle.state.specs.Formed.{well_formed, all_whole}
use Rattle.execute.specs.World.{World, world_of}
use Rattle.execute.specs.Execute.{admits}
use Rattle.execute.specs.declared.Mode.{Mode}
use Rattle.execute.specs.declared.Mode.TheVariants.{Plain, Deferred}
use Rattle.execute.specs.Rules.{document_rules}
use Rattle.run.specs.Run.{Answer, run}
use Rattle.layout.specs.Layout.{table, state_in, well_laid}
use Rattle.layout.specs.Answer.{ANSWER_BYTES, answer_bytes}
use Rattle.host.specs.Call.{mode_of, call_taken, call_served, ran_on, call_of}
use Rattle.agreement.specs.Reading.{read_answer, ReadCall, read_call, Sized}
use Rattle.agreement.specs.Statements.{CallsAgree, RefusedCallsAgree}
use Rattle.agreement.proofs.Formed.{both_true}
use Rattle.agreement.proofs.Capped.{document-capped}
use Rattle.agreement.proofs.Sound.{formed-after-run}
use Rattle.agreement.proofs.Runs.{admits-alike, runs-agree}
use Rattle.agreement.proofs.Bytes.{in_bytes, bytes_read}

-- what a served call leaves, read, is decided by the run's answer, read
abbrev told : Answer → ReadCall
told v = record { code = code_of v.stop; world = in_bytes v.world; answer = answer_bytes (code_of v.stop) v.steps (particular_at v.stop) }

served-reads : (a : Answer) → well_formed a.world.registers ≡ true → read_call (call_served a) ≡ told (read_answer a)
served-reads a e =
    ap (λ (w : World). record { code = code_of a.stop; world = w; answer = answer_bytes (code_of a.stop) a.steps (particular_at a.stop) })
    (bytes_read a.world e)

module _ (st m an : List ℕ) (fuel : ℕ) (whole : all_whole (state_in st).registers.accumulated ≡ true) where
  taken-alike : call_taken st an 1 ≡ call_taken st an 0
  unfolding call_taken mode_of
  taken-alike = ap (λ (t : Bool). eqb (length an) ANSWER_BYTES && true && well_laid st && t) (admits-alike (state_in st).registers whole)

  taken-formed : call_taken st an 0 ≡ true → well_formed (state_in st).registers ≡ true
  unfolding call_taken mode_of admits
  taken-formed t =
      let R = (state_in st).registers in
      (both_true (well_formed R) (all_whole R.accumulated) (both_true (eqb (length an) ANSWER_BYTES && true && well_laid st) (admits Plain R) t).1).0

  sized : Sized (state_in st).registers
  unfolding state_in table
  sized = omega arith

  abbrev ran_by : Mode → Answer
  ran_by k = run k document_rules fuel (world_of (state_in st) m) no_lists

  run-reads : (k : Mode) → well_formed (state_in st).registers ≡ true → read_call (call_served (ran_by k)) ≡ told (read_answer (ran_by k))
  run-reads k e = served-reads (ran_by k) (formed-after-run document_rules document-capped k fuel (world_of (state_in st) m) no_lists e)

  served-alike : well_formed (state_in st).registers ≡ true → read_call (call_served (ran_on 1 fuel (state_in st) m)) ≡ read_call (call_served (ran_on 0 fuel (state_in st) m))
  unfolding mode_of
  served-alike e = run-reads Deferred e ∙ ap told (runs-agree document_rules fuel (world_of (state_in st) m) sized whole) ∙ sym (run-reads Plain e)

  by : (t : Bool) → call_taken st an 0 ≡ t → read_call (call_of st m an fuel 1) ≡ read_call (call_of st m an fuel 0)
  unfolding call_of
  by true e = rw (taken-alike, e) (served-alike (taken-formed e))
  by false e = rw (taken-alike, e)

pub calls-agree : CallsAgree
calls-agree st m an fuel whole = by st m an fuel whole (call_taken st an 0) refl

pub refused-calls-agree : RefusedCallsAgree
unfolding call_of
refused-calls-agree st m an fuel whole e = rw (taken-alike st m an fuel whole, e)
