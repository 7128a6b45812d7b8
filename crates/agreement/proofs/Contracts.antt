-- Agreement carried to the code, through the contracts of `run_plain`, `run_deferred` and `zkir_run`.
use Prim.Native.Nat.{ℕ}
use mathlib.Core.Path.{◌≡◌, sym, ap, ap₂, ◌∙◌}
use lib.ListN.{length}
use native.Mathlib.Omega.{arith}
use contract.Lifetimes.{Lfts}
use denote.Triple.Entry.{Args}
use borrow.Fn.Kinds.{GoodsP}
use Rattle.execute.specs.World.{World}
use Rattle.execute.specs.declared.Mode.TheVariants.{Plain, Deferred}
use Rattle.pending.specs.Pending.{Lists, no_lists}
use Rattle.execute.specs.Rules.{document_rules}
use Rattle.run.specs.Run.{run}
use Rattle.run.specs.contracts.run_deferred
use Rattle.run.proofs.run_deferred as run_deferred_told
use Rattle.host.specs.Call.{Called, call_of}
use Rattle.agreement.specs.Reading.{read_answer, read_call, Sized}
use Rattle.agreement.specs.Contracts.{world_given, fuel_given, CallGiven, call_given}
use Rattle.agreement.specs.Statements.{AnswersAgree, HostCallsAgree}
use Rattle.agreement.proofs.Runs.{runs-agree}
use Rattle.agreement.proofs.Calls.{calls-agree}

-- the length of the marks, by the state's type
sized : (κs : Lfts 4) (a : Args run_deferred.signature κs) → GoodsP κs run_deferred_told.Kinds.ps a → Sized (world_given κs a).registers
sized κs a g =
    let long : length a.0.registers.accumulated ≡ 16 = g.0.1.1.1.1.0.1.1.1.0.1.0.1 in
    omega arith

pub answers_agree : AnswersAgree
answers_agree κs ρs a b g w f la lb whole d p x y =
    ap read_answer x
    ∙ ap (λ (l : Lists). read_answer (run Deferred document_rules (fuel_given κs a) (world_given κs a) l)) la
    ∙ runs-agree document_rules (fuel_given κs a) (world_given κs a) (sized κs a g) whole
    ∙ ap₂ (λ (n : ℕ) (v : World). read_answer (run Plain document_rules n v no_lists)) f w
    ∙ sym (ap read_answer y ∙ ap (λ (l : Lists). read_answer (run Plain document_rules (fuel_given ρs b) (world_given ρs b) l)) lb)

abbrev call_on : CallGiven → ℕ → Called
call_on c mode = call_of c.state c.memory c.answer c.fuel mode

pub host-calls-agree : HostCallsAgree
host-calls-agree κs ρs a b same one zero whole d p x y =
    let c = call_given κs a in
    ap read_call (x ∙ ap (call_on c) one)
    ∙ calls-agree c.state c.memory c.answer c.fuel whole
    ∙ sym (ap read_call (y ∙ ap (call_on (call_given ρs b)) zero ∙ ap (λ (v : CallGiven). call_on v 0) (sym same)))
