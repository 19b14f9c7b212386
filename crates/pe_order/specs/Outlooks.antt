-- What the walk over places asks of a grid before a traversal of it.
use Rattle.std.specs.Prelude.{◌≡◌, ◌⊎◌, ℕ, ◌≤◌, Bool, true, false, not, ◌&&◌, ◌||◌, ◌==◌, None, is_some}
use Rattle.pe_base.specs.declared.place.Place.{Place}
use Rattle.pe_base.specs.declared.kind.Kind.{Kind}
use Rattle.pe_base.specs.declared.kind.Kind.TheVariants.{Kept, Born, Dying, Hanging}
use Rattle.pe_base.specs.Tree.Dim.{IsDim}
use Rattle.pe_base.specs.Tree.Places.{parent_of}
use Rattle.pe_base.specs.Tree.Ways.{way_of}
use Rattle.pe_base.specs.Life.States.{is_stored}
use Rattle.pe_base.specs.Walk.Maps.{at}
use Rattle.pe_base.specs.Walk.Grids.{Grid, IsWellFormed}
use Rattle.pe_base.specs.Walk.Streams.{goes_below}
use Rattle.pe_base.specs.Walk.Foreseen.{next_traversal, was, will, counts, below, walks, walked}
use Rattle.pe_order.specs.Tokens.{Outlook}
use Rattle.pe_order.specs.Takings.{Grown}

-- cells of these kinds are stored before the traversal
abbrev pub was_stored : Kind → Bool
was_stored Kept = true
was_stored Born = false
was_stored Dying = true
was_stored Hanging = false

-- A traversal of a grid: a vertex is read where it is stored before, and written where it is stored after; and so is a
-- cell, by its kind.
abbrev pub outlook : ℕ → Grid → Bool → Outlook
outlook start_level grid swapped = record {
  axes = grid.axes;
  way = way_of (next_traversal grid);
  swapped = swapped;
  counts = counts start_level grid;
  reads = was start_level grid;
  writes = will start_level grid;
  walks = walks start_level grid;
  reads_cell = λ cell. not (cell.level == 0) && was_stored (below start_level grid (parent_of cell));
  writes_cell = λ cell. not (cell.level == 0) && is_stored (below start_level grid (parent_of cell));
}

-- A walk with no events over what a grid has stored: all is read, and written as it was.
abbrev pub stored_outlook : Grid → Bool → Outlook
stored_outlook grid swapped = record {
  axes = grid.axes;
  way = way_of (next_traversal grid);
  swapped = swapped;
  counts = λ vertex. is_some (at grid.vertices vertex);
  reads = λ vertex. is_some (at grid.vertices vertex);
  writes = λ vertex. is_some (at grid.vertices vertex);
  walks = goes_below grid;
  reads_cell = λ cell. is_some (at grid.cells cell);
  writes_cell = λ cell. is_some (at grid.cells cell);
}

abbrev pub stored_walked : Grid → Place → Bool
stored_walked grid cell = cell.level == 0 || goes_below grid (parent_of cell)

-- a grid that no traversal has walked yet
pub record IsNew (grid : Grid) : Type 0 where
  pub axes : IsDim grid.axes
  pub some_level : 1 ≤ grid.greatest
  pub few_levels : grid.greatest ≤ 20
  pub unfinished : grid.finished ≡ 0
  pub no_vertices : (vertex : Place) → at grid.vertices vertex ≡ None
  pub no_cells : (cell : Place) → at grid.cells cell ≡ None

-- What is foreseen of a traversal fits a walk down to the grid's greatest level.
abbrev pub ForecastFits : Type 0
ForecastFits = (start_level : ℕ) (grid : Grid) (swapped : Bool) → start_level ≤ grid.greatest → IsNew grid ⊎ IsWellFormed grid → Grown (outlook start_level grid swapped) (walked start_level grid) grid.greatest

-- So does what is stored between two traversals.
abbrev pub StoredFits : Type 0
StoredFits = (grid : Grid) (swapped : Bool) → IsWellFormed grid → Grown (stored_outlook grid swapped) (stored_walked grid) grid.greatest
