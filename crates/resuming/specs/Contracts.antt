-- The machine that each call of a resumed run is given, and the one that it leaves by its contract.
use Rattle.std.specs.Prelude.{ℕ, List}
use contract.Lifetimes.{Lfts}
use denote.Triple.Entry.{Args}
use Rattle.host.specs.contracts.zkir_run
use Rattle.checkpoint.specs.contracts.zkir_checkpoint_write
use Rattle.checkpoint.specs.contracts.zkir_checkpoint_read
use Rattle.agreement.specs.Contracts.{Leaves}

-- state and memory as bytes
pub record Machine : Type 0 where
  pub state : List ℕ
  pub memory : List ℕ

abbrev pub machine : List ℕ → List ℕ → Machine
machine state memory = record { state = state; memory = memory }

-- a run: state, memory, and what is no machine
module _ (κs : Lfts 3) (a : Args zkir_run.signature κs) where
  abbrev pub machine_given : Machine
  machine_given = machine a.0.now a.1.0.now

  abbrev pub machine_left : Leaves zkir_run.ended κs a → Machine
  machine_left x = machine x.1.0 x.1.1.0

-- a writing: state, memory, output
module _ (κs : Lfts 3) (a : Args zkir_checkpoint_write.signature κs) where
  abbrev pub machine_to_write : Machine
  machine_to_write = machine a.0.now a.1.0.now

  abbrev pub output_given : List ℕ
  output_given = a.1.1.0.now

  abbrev pub output_left : Leaves zkir_checkpoint_write.ended κs a → List ℕ
  output_left x = x.1.1.1.0

-- a reading: image, state, memory
module _ (κs : Lfts 3) (a : Args zkir_checkpoint_read.signature κs) where
  abbrev pub image_to_read : List ℕ
  image_to_read = a.0.now

  abbrev pub machine_lent : Machine
  machine_lent = machine a.1.0.now a.1.1.0.now

  abbrev pub machine_read : Leaves zkir_checkpoint_read.ended κs a → Machine
  machine_read x = machine x.1.1.0 x.1.1.1.0
