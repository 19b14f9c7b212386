use Rattle.std.proofs.Common.{◌+◌, ◌*◌}
use Rattle.pe_tour.specs.Sights.{between_of}
use Rattle.pe_tour.proofs.Rows.{IsAmong}
use Rattle.pe_tour.proofs.recursion.+cells.Given as goal

abbrev pub decreases-walk_cell : goal.decreases-walk_cell
decreases-walk_cell g l = 5 * l.levels + 4

abbrev pub decreases-visit : goal.decreases-visit
decreases-visit g l = 5 * l.levels + 3

abbrev pub decreases-visit_open : goal.decreases-visit_open
decreases-visit_open g l = 5 * l.levels + 2

abbrev pub decreases-walk_below : goal.decreases-walk_below
decreases-walk_below g l = 5 * l.levels + 1

abbrev pub decreases-walk_children : goal.decreases-walk_children
decreases-walk_children g l = 5 * l.levels

-- some children are walked, and the others are to come
abbrev pub invariant-walk_children-loop-n : goal.invariant-walk_children-loop-n
invariant-walk_children-loop-n g l =
    let w = g.T.Tour.walk in
    IsAmong w l.over l.ages l.levels (between_of l.initial.tour l.initial.above l.initial.parent) l.n l.child l.own (between_of l.tour l.above l.parent)
