-- Streams: what a traversal reads and writes is the order of the grid before it and of the grid after it.
use Rattle.std.specs.Prelude.{◌≡◌, ◌⊎◌, ℕ, ◌+◌, ◌≤◌, Bool, true, ◌&&◌, ◌==◌, [], Some, is_some, if◌then◌else◌}
use Rattle.pe_base.specs.declared.place.Place.{Place}
use Rattle.pe_base.specs.declared.state.State.{State}
use Rattle.pe_base.specs.declared.state.State.TheVariants.{Unrefined}
use Rattle.pe_base.specs.Tree.Dim.{IsDim}
use Rattle.pe_base.specs.Tree.Places.{root, parent_of}
use Rattle.pe_base.specs.Life.States.{is_old, is_stored}
use Rattle.pe_base.specs.Life.Table.{is_settled}
use Rattle.pe_base.specs.Walk.Maps.{at}
use Rattle.pe_base.specs.Walk.Grids.{Grid, state_in, is_cell, IsWellFormed}
use Rattle.pe_base.specs.Walk.Foreseen.{will, new_foreseen, below}
use Rattle.pe_base.specs.Walk.Streams.{stream_vertices, stream_cells}
use Rattle.pe_order.specs.Laws.{IsCell}
use Rattle.pe_stacks.specs.Holdings.{stack_count, items_at}
use Rattle.pe_stacks.specs.Grid.{input_stack, output_stack, cell_input_stack, cell_output_stack}
use Rattle.pe_order.specs.Tokens.{Outlook, Tokens, turned, traverse}
use Rattle.pe_order.specs.Takings.{reads_of, writes_of, cell_reads_of, cell_writes_of, Grown}
use Rattle.pe_order.specs.Outlooks.{outlook, IsNew}

-- What fits a walk fits it the other way round.
abbrev pub FitsTurned : Type 0
FitsTurned = (o : Outlook) (walked : Place → Bool) (greatest : ℕ) → IsDim o.axes → Grown o walked greatest → Grown (turned o) walked greatest

-- Two outlooks read the same: of the vertices that count, the same, and of the cells of the tree, the same, which are walked.
pub record ReadAlike (o p : Outlook) (walked also_walked : Place → Bool) : Type 0 where
  pub axes : o.axes ≡ p.axes
  pub way : o.way ≡ p.way
  pub vertices : (vertex : Place) → (o.counts vertex && o.reads vertex) ≡ (p.counts vertex && p.reads vertex)
  pub cells : (cell : Place) → IsCell o.axes o.way cell → o.reads_cell cell ≡ p.reads_cell cell
  pub cells_walked : (cell : Place) → IsCell o.axes o.way cell → o.reads_cell cell ≡ true → walked cell ≡ true
  pub also_cells_walked : (cell : Place) → IsCell o.axes o.way cell → p.reads_cell cell ≡ true → also_walked cell ≡ true

-- Then they read in one order, whatever else their walks do.
abbrev pub StreamsAreOne : Type 0
StreamsAreOne = (o p : Outlook) (walked also_walked : Place → Bool) (greatest : ℕ) → IsDim o.axes → Grown o walked greatest → Grown p also_walked greatest → ReadAlike o p walked also_walked
    → (reads_of o greatest root ≡ reads_of p greatest root) × (cell_reads_of o greatest root ≡ cell_reads_of p greatest root)

-- A traversal reads the streams of the grid before it; those of a new grid are empty.
abbrev pub ReadsAreStreams : Type 0
ReadsAreStreams = (start_level : ℕ) (grid : Grid) (swapped : Bool) → start_level ≤ grid.greatest → IsNew grid ⊎ IsWellFormed grid
    → (reads_of (outlook start_level grid swapped) grid.greatest root ≡ stream_vertices grid) × (cell_reads_of (outlook start_level grid swapped) grid.greatest root ≡ stream_cells grid)

-- A grid as the traversal of another leaves it: it has the vertices and the cells that are foreseen; new has become old, no
-- vertex refines or erases, and none past the greatest level is refined or to be.
pub record IsNext (start_level : ℕ) (grid next : Grid) : Type 0 where
  pub axes : next.axes ≡ grid.axes
  pub greatest : next.greatest ≡ grid.greatest
  pub finished : next.finished ≡ grid.finished + 1
  pub vertices : (vertex : Place) → is_some (at next.vertices vertex) ≡ will start_level grid vertex
  pub cells : (cell : Place) → is_some (at next.cells cell) ≡ (is_cell grid.axes cell && is_stored (below start_level grid (parent_of cell)))
  pub turned_old : (vertex : Place) (state : State) → state_in next vertex ≡ Some state → is_old state ≡ new_foreseen start_level grid vertex
  pub settled : (vertex : Place) (state : State) → state_in next vertex ≡ Some state → is_settled state ≡ true
  pub finest : (vertex : Place) (state : State) → state_in next vertex ≡ Some state → next.greatest ≤ vertex.level → state ≡ Unrefined

-- It is well-formed.
abbrev pub NextIsFormed : Type 0
NextIsFormed = (start_level : ℕ) (grid next : Grid) → start_level ≤ grid.greatest → IsNew grid ⊎ IsWellFormed grid → IsNext start_level grid next → IsWellFormed next

-- And what the traversal writes, the last one first, is its streams: what the next traversal reads.
abbrev pub WritesAreStreams : Type 0
WritesAreStreams = (start_level : ℕ) (grid next : Grid) (swapped : Bool) → start_level ≤ grid.greatest → IsNew grid ⊎ IsWellFormed grid → IsNext start_level grid next
    → (writes_of (outlook start_level grid swapped) grid.greatest root ≡ stream_vertices next) × (cell_writes_of (outlook start_level grid swapped) grid.greatest root ≡ stream_cells next)

-- The streams of a grid lie on the inputs, and all other stacks are empty.
pub record HoldsStreams (grid : Grid) (vertex_stack cell_stack : ℕ) (t : Tokens) : Type 0 where
  pub stacks : stack_count t.vertices ≡ 10
  pub cell_stacks : stack_count t.cells ≡ 2
  pub vertices : (s : ℕ) → items_at t.vertices s ≡ (if s == vertex_stack then stream_vertices grid else [])
  pub cells : (s : ℕ) → items_at t.cells s ≡ (if s == cell_stack then stream_cells grid else [])

-- So a traversal of a grid turns its streams on the inputs into the streams of the next grid on the outputs.
abbrev pub TraversalOfAGrid : Type 0
TraversalOfAGrid = (start_level : ℕ) (grid next : Grid) (swapped : Bool) (t : Tokens) → start_level ≤ grid.greatest → IsNew grid ⊎ IsWellFormed grid → IsNext start_level grid next
    → HoldsStreams grid (input_stack swapped) (cell_input_stack swapped) t → ((place : Place) → t.met place ≡ 0)
    → (after : Tokens) × (traverse (outlook start_level grid swapped) grid.greatest t ≡ Some after) × HoldsStreams next (output_stack swapped) (cell_output_stack swapped) after
