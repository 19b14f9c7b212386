-- The corners of a cell.
use Rattle.std.specs.Prelude.{◌≡◌, ℕ, ◌^◌, ◌<◌, List, Option, None, IsSome, length, filter_map, replicate, slice_index_or, slice_set}

-- the dimension, and for each corner by its number the vertex there, if there is one
pub record CornerList (X : Type 0) : Type 0 where
  pub dim : ℕ
  pub slots : List (Option X)

module _ {X : Type 0} where
  -- corners without a vertex
  abbrev pub no_vertices : ℕ → CornerList X
  no_vertices dim = record { dim = dim; slots = replicate (2 ^ dim) None }

  abbrev pub vertex_at : CornerList X → ℕ → Option X
  vertex_at corners k = slice_index_or corners.slots k None

  abbrev pub with_vertex : CornerList X → ℕ → Option X → CornerList X
  with_vertex corners k vertex = record corners { slots = slice_set corners.slots k vertex }

  -- the vertices that are there, by their corners' numbers
  abbrev pub vertices_of : CornerList X → List X
  vertices_of corners = filter_map (λ slot. slot) corners.slots

  -- the corners of a cell of this dimension, with a vertex in every slot
  pub record IsFull (axes : ℕ) (corners : CornerList X) : Type 0 where
    pub dim : corners.dim ≡ axes
    pub count : length corners.slots ≡ 2 ^ axes
    pub full : (k : ℕ) → k < 2 ^ axes → IsSome (vertex_at corners k)
