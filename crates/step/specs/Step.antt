-- A single step: the word at the pc is fetched, decoded and executed.
use Rattle.refusal.specs.declared.Refusal.{Refusal}
use Rattle.std.specs.Prelude.{Err, Ok, Result, Bool, true, false, cond, ◌&&◌, List, ℕ}
use Rattle.refusal.specs.Stops.{refusal_of}
use Rattle.memory.specs.Memory.{fetch_of}
use Rattle.words.specs.Words.{decode_in}
use Rattle.execute.specs.World.{World, world_of, Stepped, refused}
use Rattle.execute.specs.Execute.{admits}
use Rattle.execute.specs.Rules.{Rules, obey}
use Rattle.execute.specs.declared.Mode.{Mode}
use Rattle.execute.specs.declared.Went.{Went}
use Rattle.execute.specs.declared.Went.TheVariants as W
use Rattle.pending.specs.Pending.{Lists, lists, lists_fit, room_of, listing}
use Rattle.pending.specs.declared.Room.{Room}
use Rattle.step.specs.declared.OneStep.{OneStep}

-- "A step tests 9, 6, 7, 4, 5, then 1, or 3 and 2, then 8": 6 and 7 as the word is fetched
unfoldable pub fetched : Mode → Room → Rules → Result ℕ Refusal → World → Stepped
fetched k room R (Ok x) w = obey k room R (decode_in R.number x) w
fetched k room R (Err r) w = refused r w

abbrev pub step_in : Mode → Room → Rules → World → Stepped
step_in k room R w = fetched k room R (fetch_of w.memory w.pc) w

-- what a step leaves, with the pending checks
pub record Left : Type 0 where
  pub went : Went
  pub world : World
  pub lists : Lists

abbrev pub left : Went → World → Lists → Left
left g w l = record { went = g; world = w; lists = l }

-- the checks that it asks for are listed, where a list is lent; 8 if they don't fit
unfoldable pub step_of : Mode → Rules → World → Lists → Left
step_of k R w l =
    let s = step_in k (room_of l) R w in
    left s.went s.world (listing s.checks w.pc l)

-- 9 first; the mark is ignored
unfoldable pub step : Mode → Rules → World → Lists → Left
step k R w l = cond (admits k w.registers && lists_fit l) (step_of k R w l) (left (W.Refused (refusal_of 9 0)) w l)

-- "A run stops on fuel, Ebreak, Ecall or a refusal": whether a step goes on
unfoldable pub goes_on : Went → Bool
goes_on W.On = true
goes_on W.Ebreak = false
goes_on W.Ecall = false
goes_on (W.Refused r) = false

-- "Ebreak and Ecall count, a refused one doesn't"
unfoldable pub counted : Went → ℕ
counted W.On = 1
counted W.Ebreak = 1
counted W.Ecall = 1
counted (W.Refused r) = 0

-- what the code gives back, with what was lent to it
abbrev pub one_step : OneStep → List ℕ → List ℕ → List ℕ → List ℕ → Left
one_step r m vs bs ps = left r.went (world_of r.state m) (lists r.count vs bs ps)
