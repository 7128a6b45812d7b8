-- A run resumed from an image.
use Prim.Native.Nat.{ℕ}
use mathlib.Core.Path.{◌≡◌, ap₂, sym, ◌∙◌}
use mathlib.Core.List.{List}
use lib.ListN.{length}
use Rattle.pending.specs.Pending.{no_lists}
use Rattle.execute.specs.World.{world_of}
use Rattle.execute.specs.Rules.{document_rules}
use Rattle.run.specs.Run.{run}
use Rattle.layout.specs.Layout.{state_in}
use Rattle.host.specs.Call.{mode_of, call_taken, call_of}
use Rattle.checkpoint.proofs.Calls.{readable-memory}
use Rattle.checkpoint.proofs.Laws.{one-machine, restored-is, writing-restores}
use Rattle.agreement.specs.Reading.{read_call}
use Rattle.agreement.proofs.Cases.{test-case}
use Rattle.agreement.proofs.Calls.{calls-agree}
use Rattle.agreement.proofs.Length.{runs-keep-length}
use Rattle.resuming.specs.Resuming.{called_on}
use Rattle.resuming.specs.Statements.{StopsAreWritable, ResumedCallsContinue, ImagesAgree}
use Rattle.resuming.proofs.Continued.{call-is, left-admissible, calls-continue}

-- a call keeps the memory's length, taken or refused
module _ (st m an : List ℕ) (fuel mode : ℕ) where
  ran-long : length (run (mode_of mode) document_rules fuel (world_of (state_in st) m) no_lists).world.memory ≡ length m
  ran-long = runs-keep-length document_rules (mode_of mode) fuel (world_of (state_in st) m) no_lists

  call_long : length (call_of st m an fuel mode).memory ≡ length m
  unfolding call_of
  call_long = test-case (call_taken st an mode) (λ e. rw e ran-long) (λ e. rw e)

pub stops-are-writable : StopsAreWritable
stops-are-writable st m an fuel mode small low taken fits =
    rw (call-is st m an mode fuel small low taken, ran-long st m an fuel mode, fits) (left-admissible st m an mode fuel small low taken)

pub resumed-calls-continue : ResumedCallsContinue
resumed-calls-continue st m an again output after room spare s' m' f g mode n t small low fits long size same w r =
    let a = call_of st m an f mode in
    let three = writing-restores a.state a.memory output after room spare n w size (same ∙ sym (call_long st m an f mode)) t s' m' r in
    calls-continue st m an again f g mode small low fits long
    ∙ ap₂ (λ (s : List ℕ) (m : List ℕ). called_on a (call_of s m again g mode)) (sym three.1) (sym three.2)

pub images-agree : ImagesAgree
images-agree image room spare room' spare' s m s' m' an fuel same r r' whole =
    let is = restored-is image room spare s m r in
    let is' = restored-is image room' spare' s' m' r' in
    let two = one-machine (length spare) image s s' m m' (readable-memory room spare is.0) is.1 (rw same is'.1) in
    calls-agree s m an fuel whole
    ∙ ap₂ (λ (b : List ℕ) (n : List ℕ). read_call (call_of b n an fuel 0)) two.0 two.1
