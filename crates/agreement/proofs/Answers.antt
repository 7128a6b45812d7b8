-- A run's steps and fuel carried to the code, through the contracts of `run_plain` and `run_deferred`.
use Prim.Native.Nat.{ℕ, ◌+◌, ◌≤◌}
use mathlib.Core.Path.{◌≡◌, subst⁻¹}
use contract.Lifetimes.{Lfts}
use denote.Triple.Entry.{Args}
use Rattle.execute.specs.World.{World}
use Rattle.execute.specs.Rules.{document_rules}
use Rattle.execute.specs.declared.Mode.{Mode}
use Rattle.execute.specs.declared.Mode.TheVariants.{Plain, Deferred}
use Rattle.pending.specs.Pending.{Lists}
use Rattle.run.specs.Run.{Answer, run}
use Rattle.run.specs.contracts.run_plain
use Rattle.agreement.specs.Contracts.{Leaves, Allows, told_by, world_given, fuel_given, lists_given, ran_to}
use Rattle.agreement.specs.Fuel.{continued}
use Rattle.agreement.specs.Statements.{AnswersWithinFuel, AnswersAreSteps, AnswersContinue}
use Rattle.agreement.proofs.Capped.{document-capped}
use Rattle.agreement.proofs.Fuel.{runs-within, runs-continue}
use Rattle.agreement.proofs.Iterated.{runs-are-steps}

-- what a call leaves is the answer of the run on what it was given
pub leaves_run : (k : Mode) (κs : Lfts 4) (a : Args run_plain.signature κs) (x : Leaves run_plain.ended κs a) → Allows run_plain.ended (told_by k) κs a x
    → ran_to κs a x ≡ run k document_rules (fuel_given κs a) (world_given κs a) (lists_given κs a)
unfolding told_by
leaves_run Plain κs a x e = e
leaves_run Deferred κs a x e = e

pub answers-within : AnswersWithinFuel
answers-within k κs a x e =
    subst⁻¹ (λ (v : Answer). v.steps ≤ fuel_given κs a) (leaves_run k κs a x e)
    (runs-within document_rules k (fuel_given κs a) (world_given κs a) (lists_given κs a))

pub answers-are-steps : AnswersAreSteps
answers-are-steps k κs a x e = rw (leaves_run k κs a x e) (runs-are-steps document_rules document-capped k (fuel_given κs a) (world_given κs a) (lists_given κs a))

-- three runs of which the first has the fuel of the two others, and the last begins where the second ends
two_runs : (k : Mode) (f g h : ℕ) (w v u : World) (l m n : Lists) (a b c : Answer)
    → a ≡ run k document_rules f w l → b ≡ run k document_rules g v m → c ≡ run k document_rules h u n
    → g + h ≡ f → w ≡ v → l ≡ m → u ≡ b.world → n ≡ b.lists → a ≡ continued b c
two_runs k f g h w v u l m n a b c p q r fuel same alike after listed =
    rw (p, r, after, listed, q, ← fuel, same, alike) (runs-continue document_rules document-capped k g h v m)

pub answers-continue : AnswersContinue
answers-continue k κs ρs σs a b c x y z p q r = two_runs k _ _ _ _ _ _ _ _ _ _ _ _ (leaves_run k κs a x p) (leaves_run k ρs b y q) (leaves_run k σs c z r)
