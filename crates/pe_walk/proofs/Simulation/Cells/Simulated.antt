-- The steps are proved: so are the walk of a cell and a traversal, at every number of levels.
use Rattle.std.proofs.Common.{ℕ, Bool}
use Rattle.pe_base.specs.declared.place.Place.{Place}
use Rattle.pe_base.specs.Walk.Course.{Push}
use Rattle.pe_base.specs.Walk.Core.{Setting}
use Rattle.pe_walk.specs.Standing.{ForeseenStart, IsForeseenStart, HasRoom}
use Rattle.pe_walk.proofs.Simulation.Leaves.{WalkSim, RootSim}
use Rattle.pe_walk.proofs.Simulation.CellsCounted.{count_leaf, plain_leaf}
use Rattle.pe_walk.proofs.Simulation.Loads.Leaf.{load_leaf}
use Rattle.pe_walk.proofs.Simulation.Stores.Leaf.{store_leaf}
use Rattle.pe_walk.proofs.Simulation.Visits.Entering.{enter_leaf}
use Rattle.pe_walk.proofs.Simulation.Visits.Leaving.{leave_leaf}
use Rattle.pe_walk.proofs.Simulation.Cells.Walks.{walk_sim}
use Rattle.pe_walk.proofs.Simulation.Cells.Roots.{root_sim}

module _ {Plan : Type 0} (set : Setting Plan) (e : ForeseenStart) (walked : Place → Bool) (room : Push → Type 0) (is : IsForeseenStart set e walked) (has : HasRoom set e room) where
  -- The walk of a cell with so many levels below it: at each step the machine is the image of the working state and of the
  -- places on stacks.
  pub cell_simulated : (levels : ℕ) → WalkSim set e room levels
  cell_simulated levels =
      walk_sim set e walked room is (count_leaf set e walked is room) (load_leaf set e walked room is) (enter_leaf set e walked room is) (leave_leaf set e walked room is has) (store_leaf set e walked room is has) levels

  -- And so a traversal, from its first event to its last.
  pub traversal_simulated : (levels : ℕ) → RootSim set e room levels
  traversal_simulated levels =
      root_sim set e walked room is (count_leaf set e walked is room) (load_leaf set e walked room is) (enter_leaf set e walked room is) (leave_leaf set e walked room is has) (store_leaf set e walked room is has)
      (plain_leaf set e walked is room) levels
