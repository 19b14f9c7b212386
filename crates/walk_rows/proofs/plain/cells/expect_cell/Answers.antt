-- Three to the power of 20 fits.
use Rattle.walk_rows.proofs.Computed.{width_fits}
use Rattle.walk_rows.proofs.plain.cells.expect_cell.Goals as goal

pub pow-width-requires : goal.pow-width-requires
pow-width-requires c = width_fits c.args.place.now.level c.if-place-gt20.false
