-- Under document 01's rules every limb stays below 2^30, and so by the contracts of `step`, `run_deferred` and `run_plain`.
use mathlib.Core.Path.{◌≡◌, subst⁻¹}
use mathlib.Core.Bool.{true}
use Rattle.state.specs.declared.registers.Registers.{Registers}
use Rattle.state.specs.Formed.{well_formed}
use Rattle.execute.specs.Rules.{document_rules}
use Rattle.step.specs.Step.{Left}
use Rattle.run.specs.Run.{Answer}
use Rattle.agreement.specs.Contracts.{world_given, fuel_given, lists_given, world_stepped, lists_stepped}
use Rattle.agreement.specs.Keeping.{SmallLimbs}
use Rattle.agreement.specs.Statements.{StepsKeepLimbs, RunsKeepLimbs, StepCallsKeepLimbs, RunCallsKeepLimbs}
use Rattle.agreement.proofs.Formed.{formed}
use Rattle.agreement.proofs.Capped.{document-capped}
use Rattle.agreement.proofs.Answers.{leaves_run}
use Rattle.agreement.proofs.Sound.{formed-after-step, formed-after-run}

abbrev LimbsFit : Registers → Type 0
LimbsFit R = (well_formed R ≡ true) × SmallLimbs R

fit : (R : Registers) → well_formed R ≡ true → LimbsFit R
fit R e = (e, (formed R e).small)

pub steps-keep-limbs : StepsKeepLimbs
steps-keep-limbs k w l e = fit _ (formed-after-step document_rules document-capped k w l e)

pub runs-keep-limbs : RunsKeepLimbs
runs-keep-limbs k fuel w l e = fit _ (formed-after-run document_rules document-capped k fuel w l e)

-- what a call leaves is what is defined
pub step-calls-keep-limbs : StepCallsKeepLimbs
step-calls-keep-limbs κs a x p e = subst⁻¹ (λ (s : Left). LimbsFit s.world.registers) p (steps-keep-limbs a.0.mode (world_stepped κs a) (lists_stepped κs a) e)

pub run-calls-keep-limbs : RunCallsKeepLimbs
run-calls-keep-limbs k κs a x p e =
    subst⁻¹ (λ (s : Answer). LimbsFit s.world.registers) (leaves_run k κs a x p) (runs-keep-limbs k (fuel_given κs a) (world_given κs a) (lists_given κs a) e)
