-- What each mode takes, from the tests that the code makes.
use mathlib.Core.Path.{◌≡◌}
use mathlib.Core.Bool.{false}
use Rattle.state.specs.declared.registers.Registers.{Registers}
use Rattle.state.specs.Formed.{well_formed}
use Rattle.execute.specs.Execute.{admits}
use Rattle.execute.specs.declared.Mode.{Mode}
use Rattle.execute.specs.declared.Mode.TheVariants.{Plain, Deferred}

pub not-formed : (k : Mode) (R : Registers) → well_formed R ≡ false → admits k R ≡ false
unfolding admits
not-formed Plain R e = rw e
not-formed Deferred R e = e
