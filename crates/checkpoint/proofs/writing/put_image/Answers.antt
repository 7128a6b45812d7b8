use Rattle.checkpoint.proofs.Calls.{image-stored}
use Rattle.checkpoint.proofs.Fits.{fits_whole, fits_few}
use Rattle.checkpoint.proofs.Pages.{held-le, bodies-long}
use Rattle.checkpoint.proofs.Steps.{put_mid-sets}
use Rattle.checkpoint.specs.Image.{pages_of}
use Rattle.checkpoint.specs.Pages.{table_bytes}
use Rattle.layout.specs.Layout.{STATE_BYTES}
use Rattle.std.proofs.Common.{arith, ◌≡◌, ◌+◌, ◌-◌, length}
use Rattle.checkpoint.proofs.writing.put_image.Goals as goal

pub put_table-requires-clause-n_bound : goal.put_table-requires-clause-n_bound
put_table-requires-clause-n_bound c =
    let m = c.args.memory.now in
    omega (arith, held-le (pages_of m) m, fits_few (length m) c.requires.fits)

pub put_bodies-requires-clause-in_bounds : goal.put_bodies-requires-clause-in_bounds
put_bodies-requires-clause-in_bounds c =
    let m = c.args.memory.now in
    omega (arith, bodies-long (pages_of m) 0 m (fits_whole (length m) c.requires.fits))

pub returns : goal.returns
returns c =
    let a = c.args in
    let m = a.memory.now in
    let start = table_bytes a.n in
    let width : start + STATE_BYTES - start ≡ STATE_BYTES = omega arith in
    let state = put_mid-sets c.put_table.new.into a.state.now start STATE_BYTES (omega arith) c.requires.state_len in
    rw (c.put_bodies.ensures, c.copy.ensures, width, state, c.put_table.ensures, c.requires.n_value)
    (image-stored (pages_of m) a.image.now a.state.now m c.requires.state_len (fits_whole (length m) c.requires.fits))
