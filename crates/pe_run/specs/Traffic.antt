-- What a run moves on stacks, by the traversals that were done.
--
--     stack 2 i + b    pushed and popped once for each time that a vertex which counts crosses axis i at a coordinate of
--                      parity b
--     input, output    popped once for each vertex that is read, pushed once for each that is written
--     fresh            the vertices that are created, the hanging ones, and the root's corners
--     cells            likewise: read, written and made
use Rattle.std.specs.Prelude.{◌≡◌, ℕ, ◌+◌, ◌-◌, ◌*◌, ◌/◌, ◌%◌, ◌^◌, ◌≤◌, max, Bool, ◌==◌, nat_lt, List, [], ◌∷◌, count_by, sum_by, if◌then◌else◌}
use Rattle.pe_base.specs.Walk.Traversals.{Traversal}
use Rattle.pe_stacks.specs.Grid.{input_stack, output_stack, cell_input_stack, cell_output_stack}
use Rattle.pe_stacks.specs.Holdings.{Holdings, stack_at, items_at}
use Rattle.pe_order.specs.Outlooks.{outlook}
use Rattle.pe_order.specs.Tokens.{Outlook}
use Rattle.pe_order.specs.Traffic.{entered_cells, first_vertices, crosses_on}

-- the streams are exchanged after an odd number of traversals
abbrev pub is_swapped : ℕ → Bool
is_swapped finished = finished % 2 == 1

module _ (start_level : ℕ) where
  -- what is foreseen of a traversal
  abbrev pub outlook_of : Traversal → Outlook
  outlook_of it = outlook start_level it.grid (is_swapped it.grid.finished)

  abbrev pub crossed : ℕ → ℕ → Traversal → ℕ
  crossed axis parity it = sum_by (crosses_on it.grid.axes axis parity) (first_vertices (outlook_of it) it.grid.greatest)

  -- how often a traversal pushes a stack of vertices, and pops it
  abbrev pub vertex_pushes : ℕ → Traversal → ℕ
  vertex_pushes s it =
      if nat_lt s (2 * it.grid.axes) then crossed (s / 2) (s % 2) it
      else (if s == output_stack (is_swapped it.grid.finished) then it.tally.written else 0)

  abbrev pub vertex_pops : ℕ → Traversal → ℕ
  vertex_pops s it =
      if nat_lt s (2 * it.grid.axes) then crossed (s / 2) (s % 2) it
      else (if s == input_stack (is_swapped it.grid.finished) then it.tally.read else 0)

  -- which of the cells that it enters it reads, and which it writes
  abbrev pub cells_read : Traversal → ℕ
  cells_read it = count_by (outlook_of it).reads_cell (entered_cells (outlook_of it) it.grid.greatest)

  abbrev pub cells_written : Traversal → ℕ
  cells_written it = count_by (outlook_of it).writes_cell (entered_cells (outlook_of it) it.grid.greatest)

  abbrev pub cell_pushes : ℕ → Traversal → ℕ
  cell_pushes s it = if s == cell_output_stack (is_swapped it.grid.finished) then cells_written it else 0

  abbrev pub cell_pops : ℕ → Traversal → ℕ
  cell_pops s it = if s == cell_input_stack (is_swapped it.grid.finished) then cells_read it else 0

  -- how many records it lends
  abbrev pub vertex_lends : Traversal → ℕ
  vertex_lends it = it.tally.created + it.tally.hanging + 2 ^ it.grid.axes

  abbrev pub cell_lends : Traversal → ℕ
  cell_lends it = it.tally.cells - cells_read it

-- the greatest level of a cell that was walked
abbrev pub deepest : List Traversal → ℕ
deepest [] = 0
deepest (it ∷ made) = max it.tally.deepest (deepest made)

-- What the depots have counted after the traversals of a run: each push, pop and new record is one of these. No more was
-- out at once than the corners of the root and of one cell on each level, and one cell on each level.
pub record HasTraffic {V C : Type 0} (axes start_level : ℕ) (made : List Traversal) (vertices : Holdings V) (cells : Holdings C) : Type 0 where
  pub vertex_pushes_are : (s : ℕ) → (stack_at vertices s).pushes ≡ sum_by (vertex_pushes start_level s) made
  pub vertex_pops_are : (s : ℕ) → (stack_at vertices s).pops ≡ sum_by (vertex_pops start_level s) made
  pub cell_pushes_are : (s : ℕ) → (stack_at cells s).pushes ≡ sum_by (cell_pushes start_level s) made
  pub cell_pops_are : (s : ℕ) → (stack_at cells s).pops ≡ sum_by (cell_pops start_level s) made
  pub vertices_lent : vertices.fresh ≡ sum_by (vertex_lends start_level) made
  pub cells_lent : cells.fresh ≡ sum_by (cell_lends start_level) made
  pub vertices_out : vertices.most ≤ 2 ^ axes * (deepest made + 1)
  pub cells_out : cells.most ≤ deepest made

-- nothing lies on a stack, nothing is out, and all that was lent was given up
pub record IsSettled {X : Type 0} (held : Holdings X) : Type 0 where
  pub empty : (s : ℕ) → items_at held s ≡ []
  pub none_out : held.out ≡ 0
  pub balanced : held.fresh ≡ held.spent
