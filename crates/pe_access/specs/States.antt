-- What a cell state is of a cell.
use Rattle.std.specs.Prelude.{◌≡◌, ℕ, ◌+◌, ◌%◌, ◌<◌, ◌≤◌, Bool, false, ◌==◌, List, take, sum, sum_by, Option, Some, None, IfSome, slice_get}
use Rattle.pe_base.specs.declared.place.Place.{Place}
use Rattle.pe_base.specs.declared.place.Digits.{Digits}
use Rattle.pe_base.specs.declared.way.Way.{Way}
use Rattle.pe_base.specs.Tree.Dim.{IsDim}
use Rattle.pe_base.specs.Tree.Curve.{flip}
use Rattle.pe_base.specs.Steps.Routes.{way_turns}
use Rattle.pe_access.specs.declared.numbers.Axis.{Axis}
use Rattle.pe_access.specs.declared.state.CellState.{CellState}
use Rattle.pe_access.specs.declared.route.Route.{Route}
use Rattle.pe_access.specs.declared.route.Route.TheVariants.{Stream, Temp}
use Rattle.pe_access.specs.Extents.{Extent, bit_of, root_face}
use Rattle.pe_access.specs.Faces.{extent_of}
use Rattle.pe_access.specs.Numbers.{axes_from}

-- the number of axes of the grid of a state
abbrev pub axes_of : CellState → ℕ
axes_of state = state.axes

-- the level of a state
abbrev pub level_of : CellState → ℕ
level_of state = state.level

-- an axis that the grid does not have: the position is 0, and the near face is on the root's boundary
pub record IsIdle (extent : Extent) : Type 0 where
  pub even : extent.odd ≡ false
  pub closed : extent.near ≡ root_face

-- four extents hold of a cell what the order of the walk says of it
pub record HoldsCell (axes : ℕ) (way : Way) (cell : Place) (extents : List Extent) : Type 0 where
  pub grid_axes : (axis : ℕ) → axis < axes → slice_get extents axis ≡ Some (extent_of axes way cell axis)
  pub others : (axis : ℕ) → axes ≤ axis → IfSome (slice_get extents axis) IsIdle

-- the state stands for a cell of a grid in a way: its numbers are those of extents that hold the cell
pub record StandsFor (axes : ℕ) (way : Way) (cell : Place) (state : CellState) : Type 0 where
  pub grid : IsDim axes
  pub same_axes : state.axes ≡ axes
  pub same_way : state.way ≡ way
  pub same_level : state.level ≡ cell.level
  pub extents : List Extent
  pub held : HoldsCell axes way cell extents
  pub numbers : state.along ≡ axes_from 0 extents

-- along how many axes the position is odd
abbrev pub odd_count : List Axis → ℕ
odd_count along = sum_by (λ axis. bit_of axis.odd) along

-- whether an axis is walked upwards at the child of a cell at these digits: where the turns of the way, the cell's flip and the
-- digits before the axis are even together
abbrev pub is_upwards : Way → Place → Digits → ℕ → Bool
is_upwards way cell digits axis = (way_turns way + flip cell.pos axis + sum (take axis digits.k)) % 2 == 0

-- the route of a stack, if there is one
abbrev pub route_of : Option ℕ → Route
route_of None = Stream
route_of (Some stack) = Temp stack
