-- How many cells a traversal walks: no more than its vertices allow.
use Rattle.std.specs.Prelude.{◌≡◌, ◌⊎◌, ℕ, ◌+◌, ◌*◌, ◌^◌, ◌≤◌, Bool, true, length}
use Rattle.std.specs.List.{list_any}
use Rattle.pe_base.specs.declared.place.Place.{Place}
use Rattle.pe_base.specs.Tree.Dim.{IsDim}
use Rattle.pe_base.specs.Tree.Places.{corners}
use Rattle.pe_base.specs.Walk.Grids.{Grid, IsWellFormed}
use Rattle.pe_base.specs.Walk.Streams.{stream_vertices, stream_cells}
use Rattle.pe_order.specs.Tokens.{Outlook}
use Rattle.pe_order.specs.Takings.{Grown}
use Rattle.pe_order.specs.Outlooks.{outlook, IsNew}
use Rattle.pe_order.specs.Traffic.{entered_cells, first_vertices}

-- a cell below the root whose children are walked has a corner that counts
abbrev pub WalksAtCounting : Outlook → Type 0
WalksAtCounting o = (cell : Place) → 1 ≤ cell.level → o.walks cell ≡ true → list_any o.counts (corners o.axes cell) ≡ true

-- So many cells at most has a grid of n vertices: the root's children, and the children of all cells around the vertices.
abbrev pub most_cells : ℕ → ℕ → ℕ
most_cells axes n = 3 ^ axes + 6 ^ axes * n

-- Where children are walked only at vertices that count, no more cells are entered than these vertices allow.
abbrev pub FewCells : Type 0
FewCells = (o : Outlook) (walked : Place → Bool) (greatest : ℕ) → IsDim o.axes → Grown o walked greatest → WalksAtCounting o
    → length (entered_cells o greatest) ≤ most_cells o.axes (length (first_vertices o greatest))

-- A traversal of a grid enters no more, and a grid has no more cells than its vertices allow.
abbrev pub FewCellsOfTraversals : Type 0
FewCellsOfTraversals = (start_level : ℕ) (grid : Grid) (swapped : Bool) → start_level ≤ grid.greatest → IsNew grid ⊎ IsWellFormed grid
    → length (entered_cells (outlook start_level grid swapped) grid.greatest) ≤ most_cells grid.axes (length (first_vertices (outlook start_level grid swapped) grid.greatest))

abbrev pub FewCellsOfGrids : Type 0
FewCellsOfGrids = (grid : Grid) → IsWellFormed grid → length (stream_cells grid) ≤ most_cells grid.axes (length (stream_vertices grid))
