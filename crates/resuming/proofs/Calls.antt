-- Resuming carried to the code, through the contracts of `zkir_run`, `zkir_checkpoint_write` and `zkir_checkpoint_read`.
use Prim.Native.Nat.{ℕ}
use mathlib.Core.Path.{◌≡◌, ap, ap₂, sym, subst, ◌∙◌}
use mathlib.Core.List.{List}
use Rattle.host.specs.Call.{Called, call_of}
use Rattle.told.specs.Told.{done_told}
use Rattle.told.specs.declared.Told.{Told}
use Rattle.checkpoint.specs.Calls.{wrote, writing_of, ReadLeaves}
use Rattle.agreement.specs.Contracts.{call_given, mode_given, called_to}
use Rattle.resuming.specs.Resuming.{called_on}
use Rattle.resuming.specs.Contracts.{Machine, machine, machine_given, machine_to_write, output_given, output_left, machine_lent, machine_read}
use Rattle.resuming.specs.Statements.{HostCallsResume}
use Rattle.resuming.proofs.Resumed.{resumed-calls-continue}

abbrev ran_over : Machine → List ℕ → ℕ → ℕ → Called
ran_over v an fuel mode = call_of v.state v.memory an fuel mode

pub host-calls-resume : HostCallsResume
host-calls-resume κs ρs σs τs υs whole first writing reading rest x a w r b small low fits px pa pw pr pb start same_answer fuel same-mode rest-mode written n told image size long read answer =
    let v = machine_given κs whole in
    let an = (call_given κs whole).answer in
    let f = (call_given ρs first).fuel in
    let g = (call_given υs rest).fuel in
    let mode = mode_given κs whole in
    let again = (call_given υs rest).answer in
    let first-is : called_to ρs first a ≡ ran_over v an f mode =
    pa ∙ ap₂ (λ (u : Machine) (l : List ℕ). ran_over u l f (mode_given ρs first)) (sym start) (sym same_answer) ∙ ap (ran_over v an f) same-mode
    in
    let rest-is : called_to υs rest b ≡ ran_over (machine_read τs reading r) again g mode =
    pb ∙ ap₂ (λ (u : Machine) (k : ℕ). ran_over u again g k) read rest-mode
    in
    let left_is : machine_to_write σs writing ≡ machine (ran_over v an f mode).state (ran_over v an f mode).memory =
    written ∙ ap (λ (c : Called). machine c.state c.memory) first-is
    in
    let output = output_given σs writing in
    let lent = machine_lent τs reading in
    let found = machine_read τs reading r in
    let done : writing_of (ran_over v an f mode).state (ran_over v an f mode).memory output ≡ wrote (done_told n) (output_left σs writing w) =
    sym (ap (λ (u : Machine). writing_of u.state u.memory output) left_is) ∙ sym pw ∙ ap (λ (t : Told). wrote t (output_left σs writing w)) told
    in
    px
    ∙ ap (λ (k : ℕ). ran_over v an k mode) (sym fuel)
    ∙ resumed-calls-continue v.state v.memory an again output (output_left σs writing w) lent.state lent.memory found.state found.memory
    f g mode n r.0 small low (rw fuel fits) answer size long done
    (subst (λ (i : List ℕ). ReadLeaves i lent.state lent.memory r.0 found.state found.memory) image pr)
    ∙ ap₂ called_on (sym first-is) (sym rest-is)
