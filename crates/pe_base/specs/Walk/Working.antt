-- The working state of a traversal by address.
--
--     vertices    by place: what is stored, as read before the first touch and as it is from then on
--     cells       by place: the numbers, the root's under the root's place
--     hanging     by cell and corner number: the hanging vertices of the cells that are being walked
--     loads       by place: how often a vertex was loaded in this traversal
use Rattle.std.specs.Prelude.{ℕ, ℤ, ◌+◌, ◌^◌, List, [], ◌∷◌, map, Option, Some, None}
use Rattle.std.specs.Option.{option_map, unwrap_or}
use Rattle.std.specs.List.{range_with_len}
use Rattle.pe_base.specs.declared.place.Place.{Place}
use Rattle.pe_base.specs.declared.state.State.{State}
use Rattle.pe_base.specs.declared.state.State.TheVariants.{Unrefined}
use Rattle.pe_base.specs.declared.kind.Kind.TheVariants.{Kept, Hanging}
use Rattle.pe_base.specs.declared.tally.Tally.{Tally}
use Rattle.pe_base.specs.Tree.Places.{root, corner}
use Rattle.pe_base.specs.Tree.Ways.{way_of}
use Rattle.pe_base.specs.Acts.Effects.{VertexRecord}
use Rattle.pe_base.specs.Walk.Maps.{Map, nothing, turned_by, at, put, removed, at_corner, put_corner}
use Rattle.pe_base.specs.Walk.Core.{Family, Own}
use Rattle.pe_base.specs.Walk.Grids.{Grid}

pub record Working : Type 0 where
  pub vertices : Map VertexRecord
  pub cells : Map (List ℤ)
  pub hanging : Map VertexRecord
  pub loads : Map ℕ
  pub list : List ℤ
  pub tally : Tally

-- where no vertex is found
abbrev pub no_vertex : VertexRecord
no_vertex = record { state = Unrefined; kind = Hanging; numbers = [] }

-- what a working state holds, and what is put there
abbrev pub vertex_at : Working → Place → VertexRecord
vertex_at w vertex = unwrap_or (at w.vertices vertex) no_vertex

abbrev pub put_vertex : Place → VertexRecord → Working → Working
put_vertex vertex it w = record w { vertices = put w.vertices vertex it }

abbrev pub cell_at : Working → Place → List ℤ
cell_at w cell = unwrap_or (at w.cells cell) []

abbrev pub put_cell : Place → List ℤ → Working → Working
put_cell cell numbers w = record w { cells = put w.cells cell numbers }

abbrev pub put_hanging : Place → ℕ → VertexRecord → Working → Working
put_hanging cell k it w = record w { hanging = put_corner w.hanging cell k it }

abbrev pub loads_of : Working → Place → ℕ
loads_of w vertex = unwrap_or (at w.loads vertex) 0

abbrev pub loaded_again : Place → Working → Working
loaded_again vertex w = record w { loads = put w.loads vertex (loads_of w vertex + 1) }

abbrev pub state_of : Working → Place → Option State
state_of w vertex = option_map (λ it. it.state) (at w.vertices vertex)

module _ (axes : ℕ) where
  -- a corner of a cell: the cell's own hanging vertex, if it has one, and else that of the place
  abbrev pub record_at : Working → Place → ℕ → VertexRecord
  record_at w cell k = unwrap_or (at_corner w.hanging cell k) (vertex_at w (corner axes cell k))

  abbrev pub put_at : Option VertexRecord → Place → ℕ → VertexRecord → Working → Working
  put_at (Some hanging) cell k it w = put_hanging cell k it w
  put_at None cell k it w = put_vertex (corner axes cell k) it w

  abbrev pub put_record : Place → ℕ → VertexRecord → Working → Working
  put_record cell k it w = put_at (at_corner w.hanging cell k) cell k it w

  -- all corners of a cell, by their numbers
  abbrev pub records_of : Working → Place → List VertexRecord
  records_of w cell = map (record_at w cell) (range_with_len 0 (2 ^ axes))

  abbrev pub put_records_from : Place → ℕ → List VertexRecord → Working → Working
  put_records_from cell k [] w = w
  put_records_from cell k (it ∷ its) w = put_records_from cell (k + 1) its (put_record cell k it w)

  abbrev pub put_records : Place → List VertexRecord → Working → Working
  put_records cell its w = put_records_from cell 0 its w

  -- what the events of a cell's corners see beside them, by the cell's parent
  abbrev pub family_of : Working → Place → Family
  family_of w parent = record { parents = records_of w parent; parent = cell_at w parent; list = w.list }

  abbrev pub put_family : Place → Family → Working → Working
  put_family parent family w = put_records parent family.parents (put_cell parent family.parent (record w { list = family.list }))

  -- a cell with its corners
  abbrev pub own_of : Working → Place → Own
  own_of w cell = record { cell = cell_at w cell; corners = records_of w cell }

  abbrev pub put_own : Place → Own → Working → Working
  put_own cell own w = put_records cell own.corners (put_cell cell own.cell w)

-- nothing is counted yet
abbrev pub no_tally : ℕ → Tally
no_tally traversal = record {
  traversal = traversal;
  way = way_of traversal;
  cells = 0;
  read = 0;
  written = 0;
  created = 0;
  destroyed = 0;
  hanging = 0;
  deepest = 0;
}

-- The working state as a traversal begins. Which kind the vertices have before their first touch means nothing.
abbrev pub begun : ℕ → Grid → Working
begun traversal grid = record {
  vertices = turned_by (λ stored. record { state = stored.state; kind = Kept; numbers = stored.numbers }) grid.vertices;
  cells = put grid.cells root grid.root;
  hanging = nothing;
  loads = nothing;
  list = grid.list;
  tally = no_tally traversal;
}

-- and the grid that a finished traversal leaves
abbrev pub ended : Working → Grid → Grid
ended w grid = record grid {
  finished = grid.finished + 1;
  vertices = turned_by (λ it. record { state = it.state; numbers = it.numbers }) w.vertices;
  cells = removed w.cells root;
  root = cell_at w root;
  list = w.list;
}
