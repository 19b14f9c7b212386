-- The root has levels enough below it.
use Rattle.std.proofs.Common.{arith}
use Rattle.pe_tour.specs.Sights.{between_of}
use Rattle.tour_rows.proofs.Fitting.{children-fit}
use Rattle.tour_rows.proofs.rows.walk_below.Goals as goal

pub walk_children-requires-clause-levels : goal.walk_children-requires-clause-levels
walk_children-requires-clause-levels c = let level = c.root-root.ensures.place in rw level (omega arith)

pub walk_children-requires-clause-over : goal.walk_children-requires-clause-over
walk_children-requires-clause-over c = c.root-root.ensures.over c.args.tour.now.settings.traversal

pub walk_children-requires-clause-fits : goal.walk_children-requires-clause-fits
walk_children-requires-clause-fits c =
    children-fit c.args.tour.now.settings c.args.levels c.root-root.result.place (between_of c.args.tour.now tt c.args.levels) c.requires.some (omega arith)
