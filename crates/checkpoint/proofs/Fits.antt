-- What fits: a memory of whole pages, at most sixteen.
use Prim.Native.Nat.{ℕ, ◌*◌, ◌/◌, ◌%◌, ◌≤◌}
use mathlib.Core.Path.{◌≡◌}
use mathlib.Core.Bool.{true}
use native.Mathlib.Omega.{arith}
use borrow.Author.Tests.{eqb-true, leb-true}
use Rattle.layout.proofs.Tests.{both}
use Rattle.checkpoint.specs.Image.{PAGE_BYTES}
use Rattle.checkpoint.specs.Calls.{memory_fits}

module _ (len : ℕ) (fits : memory_fits len ≡ true) where
  fits_both : (len % PAGE_BYTES ≡ 0) × (len ≤ 65536)
  unfolding memory_fits
  fits_both = let two = both _ _ fits in (eqb-true _ _ two.0, leb-true _ _ two.1)

  pub fits_whole : len ≡ PAGE_BYTES * (len / PAGE_BYTES)
  fits_whole = let two = fits_both in omega arith

  pub fits_few : len / PAGE_BYTES ≤ 16
  fits_few = let two = fits_both in omega arith

  pub fits_even : len % PAGE_BYTES ≡ 0
  fits_even = fits_both.0
