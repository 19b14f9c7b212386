-- What a traversal on stacks counts, and what it moves.
use Rattle.std.specs.Prelude.{◌≡◌, ◌+◌, ◌*◌, ◌≤◌, Bool}
use Rattle.pe_base.specs.declared.tally.Tally.{Tally}
use Rattle.pe_base.specs.Walk.Course.{done}
use Rattle.pe_base.specs.Walk.Core.{Setting}
use Rattle.pe_base.specs.Walk.Grids.{Grid}
use Rattle.pe_base.specs.Walk.Walk as model
use Rattle.pe_stacks.specs.Holdings.{RaisesCounts}
use Rattle.pe_adapt.specs.CountedTouches.{Machine}
use Rattle.pe_walk.specs.Machine as machine
use Rattle.pe_order.specs.Outlooks.{outlook}
use Rattle.pe_order.specs.FewCells.{most_cells}
use Rattle.pe_order.specs.Tallies.{foreseen_tally, ExactTraffic}
use Rattle.pe_walk.specs.Gridded.{MachineMayTraverse, stream_stacks_of}

-- The walk by address counts what is foreseen.
abbrev pub TallyIsForeseen : Type 0 → Type 0
TallyIsForeseen Plan = (set : Setting Plan) (grid : Grid) (swapped : Bool) (m : Machine) (after : Grid × Tally) → MachineMayTraverse set grid swapped m → (model.traverse set grid).ending ≡ done after
    → after.1 ≡ foreseen_tally set.start_level grid swapped

-- And so a traversal on stacks, which moves just what it counts, and walks no more cells than its vertices allow. No count
-- of a depot rises by more than 64 for each cell, and once more.
pub record TurnsExactly {Plan : Type 0} (set : Setting Plan) (grid : Grid) (swapped : Bool) (m after : Machine) : Type 0 where
  pub tally : after.tally ≡ foreseen_tally set.start_level grid swapped
  pub traffic : ExactTraffic (outlook set.start_level grid swapped) grid.greatest m.vertices after.vertices m.cells after.cells after.tally
  pub few : after.tally.cells ≤ most_cells grid.axes (after.tally.read + after.tally.created)
  pub rises : RaisesCounts m.vertices after.vertices (64 * (after.tally.cells + 1))
  pub cells_rise : RaisesCounts m.cells after.cells (64 * (after.tally.cells + 1))

abbrev pub TraversalsAreExact : Type 0 → Type 0
TraversalsAreExact Plan = (set : Setting Plan) (grid : Grid) (swapped : Bool) (m after : Machine) → MachineMayTraverse set grid swapped m → (machine.traverse set (stream_stacks_of swapped) grid.greatest m).ending ≡ done after
    → TurnsExactly set grid swapped m after
