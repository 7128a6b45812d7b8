-- What a branch of a walk is told, as equations.
use mathlib.Core.Path.{◌≡◌, refl}
use mathlib.Core.Bool.{Bool, true, false, not}
use lib.Dec.{T as Holds}

pub holds : (b : Bool) → Holds b → b ≡ true
holds true h = refl
holds false h = absurd h

pub fails : (b : Bool) → Holds (not b) → b ≡ false
fails true h = absurd h
fails false h = refl
