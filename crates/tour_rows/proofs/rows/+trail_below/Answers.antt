-- A child has one level less below it.
use Rattle.std.proofs.Common.{arith}
use Rattle.tour_rows.proofs.ChildLevels.{child_level}
use Rattle.tour_rows.proofs.rows.+trail_below.Goals as goal

pub trail_below-now-requires : goal.trail_below-now-requires
trail_below-now-requires t c =
    let deeper = child_level c.args.dim c.args.way c.args.over.now c.child-cell.result c.loop-n.n c.child-cell.ensures.child in
    (omega arith, (c.child-cell.ensures.place, omega (arith, deeper)))
