-- The order of a grid between two traversals: the vertices as the next traversal touches them first, and the cells as it
-- enters them.
use Rattle.std.specs.Prelude.{ℕ, ℤ, zero, suc, ◌+◌, Bool, true, false, ◌&&◌, ◌||◌, ◌==◌, List, [], ◌∷◌, ◌++◌, map, filter, reverse, is_some, is_none}
use Rattle.std.specs.Option.{unwrap_or}
use Rattle.std.specs.List.{flat_map}
use Rattle.pe_base.specs.declared.place.Place.{Place}
use Rattle.pe_base.specs.declared.way.Way.{Way}
use Rattle.pe_base.specs.declared.state.State.TheVariants.{Unrefined}
use Rattle.pe_base.specs.Tree.Places.{root}
use Rattle.pe_base.specs.Tree.Ways.{way_of}
use Rattle.pe_base.specs.Tree.Curve.{children}
use Rattle.pe_base.specs.Steps.Routes.{stack_in}
use Rattle.pe_base.specs.Steps.Faces.{Touch, corner_touches}
use Rattle.pe_base.specs.Walk.Maps.{at}
use Rattle.pe_base.specs.Walk.Grids.{Grid, StoredVertex, state_in, is_refined_cell}

-- The loads, the stores and the cells of a walk of a cell with some levels below it, where a test says below which cells
-- it goes on.
module _ (axes : ℕ) (way : Way) (walks : Place → Bool) where
  abbrev pub if_walks : {X : Type 0} → Bool → List X → List X
  if_walks true xs = xs
  if_walks false xs = []

  abbrev pub walked_children : Place → List Place
  walked_children cell = if_walks (walks cell) (children axes way cell)

  abbrev pub walked_loads : ℕ → Place → List Touch
  walked_loads zero cell = reverse (corner_touches axes cell)
  walked_loads (suc levels) cell = reverse (corner_touches axes cell) ++ flat_map (walked_loads levels) (walked_children cell)

  abbrev pub walked_stores : ℕ → Place → List Touch
  walked_stores zero cell = corner_touches axes cell
  walked_stores (suc levels) cell = flat_map (walked_stores levels) (walked_children cell) ++ corner_touches axes cell

  -- as they are entered
  abbrev pub walked_cells : ℕ → Place → List Place
  walked_cells zero cell = cell ∷ []
  walked_cells (suc levels) cell = cell ∷ flat_map (walked_cells levels) (walked_children cell)

-- a touch for the first of the cells around its vertex
abbrev pub is_first : ℕ → Way → Touch → Bool
is_first axes way touch = is_none (stack_in axes way touch.vertex touch.cell)

module _ (grid : Grid) where
  -- the way of the traversal that comes next
  abbrev pub next_way : Way
  next_way = way_of (grid.finished + 1)

  -- a walk without events goes on below the root, and below a cell with a refined corner
  abbrev pub goes_below : Place → Bool
  goes_below cell = cell.level == 0 || is_refined_cell grid.axes (state_in grid) cell

  abbrev pub stream_vertices : List Place
  stream_vertices =
      map (λ touch. touch.vertex)
      (filter (λ touch. is_some (at grid.vertices touch.vertex) && is_first grid.axes next_way touch)
      (walked_loads grid.axes next_way goes_below grid.greatest root))

  abbrev pub stream_cells : List Place
  stream_cells = filter (λ cell. is_some (at grid.cells cell)) (walked_cells grid.axes next_way goes_below grid.greatest root)

  -- what the grid has at these places, in this order
  abbrev pub vertex_stream : List StoredVertex
  vertex_stream = map (λ vertex. unwrap_or (at grid.vertices vertex) (record { state = Unrefined; numbers = [] })) stream_vertices

  abbrev pub cell_stream : List (List ℤ)
  cell_stream = map (λ cell. unwrap_or (at grid.cells cell) []) stream_cells
