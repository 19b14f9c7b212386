-- What depots hold between two traversals.
use Rattle.std.specs.Prelude.{◌≡◌, ℕ, ℤ, Bool, List, [], map, ◌==◌, if◌then◌else◌}
use Rattle.pe_base.specs.Acts.Effects.{VertexRecord}
use Rattle.pe_base.specs.Walk.Grids.{StoredVertex}
use Rattle.pe_stacks.specs.Holdings.{Holdings, stack_count, items_at}
use Rattle.pe_stacks.specs.Grid.{input_stack, cell_input_stack}

-- of a record on a stream what is stored: its kind means nothing between two traversals
abbrev pub stored_of : VertexRecord → StoredVertex
stored_of it = record { state = it.state; numbers = it.numbers }

-- a stream of vertices and one of cells, the numbers of the root, and those of the whole grid
pub record Streams : Type 0 where
  pub vertices : List StoredVertex
  pub cells : List (List ℤ)
  pub root : List ℤ
  pub list : List ℤ

-- The input stacks hold the streams, and nothing else lies anywhere or is out; the numbers of the root and of the whole grid
-- are in hand.
pub record DepotsHold (streams : Streams) (swapped : Bool) (vertex_depot : Holdings VertexRecord) (cell_depot : Holdings (List ℤ)) (root_numbers list_numbers : List ℤ) : Type 0 where
  pub stacks : stack_count vertex_depot ≡ 10
  pub cell_stacks : stack_count cell_depot ≡ 2
  pub vertices : (s : ℕ) → map stored_of (items_at vertex_depot s) ≡ (if s == input_stack swapped then streams.vertices else [])
  pub cells : (s : ℕ) → items_at cell_depot s ≡ (if s == cell_input_stack swapped then streams.cells else [])
  pub none_out : vertex_depot.out ≡ 0
  pub no_cell_out : cell_depot.out ≡ 0
  pub root : root_numbers ≡ streams.root
  pub list : list_numbers ≡ streams.list
