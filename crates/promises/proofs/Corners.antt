-- The corners, computed.
use mathlib.Core.Path.{◌≡◌, ap}
use mathlib.Core.Bool.{Bool, true, false, ◌&&◌}
use mathlib.Core.List.{List, [], ◌∷◌}
use lib.Dec.{eqb, T, eqb→eq}
use lib.IntN.{ℤ, pos, negsuc}
use mir.Facts.{and_yes}
use Rattle.encoding.specs.Fields.{signed_of, fits_in}
use Rattle.value.specs.Forty.{shl40, signed40, sra40}
use Rattle.value.specs.Division.{div_of, rem_of}
use Rattle.forms.specs.Forms.{imm_fits}
use Rattle.words.specs.Words.{parts_fit, word_of, encoded_in}
use Rattle.state.specs.Held.{value_of, held_of, kept, waits}
use Rattle.state.specs.Registers.{place}
use Rattle.state.specs.Formed.{limbs_fit, is_zero, register_fits, zero_fits, all_below, well_formed, all_whole}
use Rattle.normalize.specs.Normalizing.{normalize_and_write}
use Rattle.pending.specs.Pending.{lacks}
use Rattle.effect.specs.Operations.{divided, result}
use Rattle.effect.specs.Effects.{seen, dividing, effect}
use Rattle.execute.specs.World.{done}
use Rattle.execute.specs.Modes.{limbs_in, settle_sources}
use Rattle.execute.specs.Execute.{finish, execute, admits}
use Rattle.given.specs.Given.{execute_one}
use Rattle.promises.specs.Corners.{Corner, number, integer, All, paper}

same_z : ℤ → ℤ → Bool
same_z (pos a) (pos b) = eqb a b
same_z (pos a) (negsuc b) = false
same_z (negsuc a) (pos b) = false
same_z (negsuc a) (negsuc b) = eqb a b

same_z→eq : (a b : ℤ) → T (same_z a b) → a ≡ b
unfolding same_z
same_z→eq (pos a) (pos b) t = ap pos (eqb→eq a b t)
same_z→eq (pos a) (negsuc b) t = absurd t
same_z→eq (negsuc a) (pos b) t = absurd t
same_z→eq (negsuc a) (negsuc b) t = ap negsuc (eqb→eq a b t)

-- a test that computes, and what it shows
unfoldable right : List Corner → Bool
unfolding same_z
right [] = true
right (number a b ∷ cs) = eqb a b && right cs
right (integer a b ∷ cs) = same_z a b && right cs

holds : (cs : List Corner) → T (right cs) → All cs
unfolding right
holds [] t = tt
holds (number a b ∷ cs) t = let p = and_yes (eqb a b) (right cs) t in (eqb→eq a b p.0, holds cs p.1)
holds (integer a b ∷ cs) t = let p = and_yes (same_z a b) (right cs) t in (same_z→eq a b p.0, holds cs p.1)

pub corners : All paper
unfolding right lacks signed_of fits_in imm_fits parts_fit word_of encoded_in normalize_and_write execute_one admits well_formed zero_fits is_zero all_below register_fits limbs_fit all_whole execute finish limbs_in settle_sources done effect seen dividing divided result div_of rem_of shl40 signed40 sra40 place kept waits held_of value_of
corners = holds paper tt
