use Rattle.std.proofs.Common.{◌≡◌, ◌+◌, ◌*◌, ◌^◌, ◌<◌, map, drop, Ok}
use Rattle.pe_base.specs.Tree.Places.{child_at}
use Rattle.pe_base.specs.Tree.Curve.{flips, child_digits}
use Rattle.pe_base.specs.Walk.Course.{each}
use Rattle.pe_stacks.specs.Corners.{no_vertices}
use Rattle.pe_base.specs.Calls.Follows.{Leads}
use Rattle.pe_adapt.specs.WalkedCells.{stream_stacks_of}
use Rattle.pe_walk.specs.Machine.{walk_cell}
use Rattle.pe_walk.specs.Children.{IsChild}
use Rattle.pe_walk.specs.Visits.{walk_children, hands_of, machine_of, found_in, WalkLeft}
use Rattle.pe_walk.proofs.Walking.{set_in}
use Rattle.pe_walk.proofs.cell.+cells.Given as goal

abbrev pub decreases-walk_cell : goal.decreases-walk_cell
decreases-walk_cell g l = 4 * l.levels + 3

abbrev pub decreases-visit_cell : goal.decreases-visit_cell
decreases-visit_cell g l = 4 * l.levels + 2

abbrev pub decreases-walk_below : goal.decreases-walk_below
decreases-walk_below g l = 4 * l.levels + 1

abbrev pub decreases-walk_children : goal.decreases-walk_children
decreases-walk_children g l = 4 * l.levels

-- some children are walked, and the others are to come
abbrev pub invariant-walk_children-loop-n : goal.invariant-walk_children-loop-n
invariant-walk_children-loop-n g l =
    let numbers = g.M.Mapping.numbers in
    let s = l.settings in
    let axes = s.setup.dim in
    let before = hands_of (g.M.Mapping.held l.initial.m) (g.DV.Depot.holds l.initial.dv) (g.DV.Depot.room l.initial.dv) (g.DC.Depot.holds l.initial.dc) (g.DC.Depot.room l.initial.dc) l.initial.parents l.initial.parent l.initial.progress in
    let now = hands_of (g.M.Mapping.held l.m) (g.DV.Depot.holds l.dv) (g.DV.Depot.room l.dv) (g.DC.Depot.holds l.dc) (g.DC.Depot.room l.dc) l.parents l.parent l.progress in
    let rules = g.M.Effects.rules in
    let set = set_in rules s before in
    let coming = map (child_at l.above.place) (drop l.n (child_digits axes s.way (flips axes l.above.place.pos))) in
    record {
      leads : Leads (walk_children set (stream_stacks_of s) l.levels l.above.place (machine_of numbers before))
          (found_in before) (found_in now) (each (walk_cell set (stream_stacks_of s) l.levels) coming (machine_of numbers now));
      child : l.n < 3 ^ axes → IsChild axes s l.above l.n l.child;
      left : WalkLeft numbers s 0 (Ok tt) before now;
      empty : l.corners ≡ no_vertices axes;
    }
