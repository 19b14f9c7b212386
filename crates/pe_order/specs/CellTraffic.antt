-- What the walk of a cell moves and counts, with all below it.
use Rattle.std.specs.Prelude.{◌≡◌, ℕ, ◌+◌, ◌-◌, ◌*◌, ◌^◌, ◌<◌, ◌≤◌, max, count_by}
use Rattle.pe_base.specs.declared.place.Place.{Place}
use Rattle.pe_base.specs.declared.tally.Tally.{Tally}
use Rattle.pe_base.specs.Walk.Streams.{walked_cells}
use Rattle.pe_stacks.specs.Holdings.{Holdings, stack_at, CountsWithin, RaisesCounts}
use Rattle.pe_stacks.specs.Grid.{input_stack, output_stack, cell_input_stack, cell_output_stack}
use Rattle.pe_order.specs.Tokens.{Outlook}
use Rattle.pe_order.specs.Takings.{loads_of, stores_of}
use Rattle.pe_order.specs.Traffic.{takes_from, gives_to, height}
use Rattle.pe_order.specs.Tallies.{TallyRises}

-- So much is counted of the loads and stores of a cell and of all cells below it, and so much they move.
--
--     counted                 cells, and vertices by their kinds
--     popped, pushed          each stack of vertices: as often as loads take from it, and stores give to it
--     read, written           vertices popped from the input, and pushed on the output
--     fresh, spent            vertices made, and given up: those created and destroyed, and the hanging ones
--     idle                    the stacks of axes that there are not
--     out, most               as much is out as before, and in between the corners of one cell of each level that is walked
--     cells_read .. gone      each cell once: it is popped from the input or made, and pushed on the output or given up
--     cells_out, cells_most   as for vertices, with one cell of each level
--     rises, cells_rise       no count rises by more than 64 for each cell
pub record CellTraffic {X Y : Type 0} (o : Outlook) (levels : ℕ) (cell : Place) (vertices vertices' : Holdings X) (cells cells' : Holdings Y) (tally tally' : Tally) : Type 0 where
  pub counted : TallyRises o (walked_cells o.axes o.way o.walks levels cell) (loads_of o levels cell) (stores_of o levels cell) tally tally'
  pub popped : (s : ℕ) → (stack_at vertices' s).pops ≡ (stack_at vertices s).pops + count_by (takes_from o s) (loads_of o levels cell)
  pub pushed : (s : ℕ) → (stack_at vertices' s).pushes ≡ (stack_at vertices s).pushes + count_by (gives_to o s) (stores_of o levels cell)
  pub read : (stack_at vertices' (input_stack o.swapped)).pops + tally.read ≡ (stack_at vertices (input_stack o.swapped)).pops + tally'.read
  pub written : (stack_at vertices' (output_stack o.swapped)).pushes + tally.written ≡ (stack_at vertices (output_stack o.swapped)).pushes + tally'.written
  pub input_kept : (stack_at vertices' (input_stack o.swapped)).pushes ≡ (stack_at vertices (input_stack o.swapped)).pushes
  pub output_kept : (stack_at vertices' (output_stack o.swapped)).pops ≡ (stack_at vertices (output_stack o.swapped)).pops
  pub fresh : vertices'.fresh + (tally.created + tally.hanging) ≡ vertices.fresh + (tally'.created + tally'.hanging)
  pub spent : vertices'.spent + (tally.destroyed + tally.hanging) ≡ vertices.spent + (tally'.destroyed + tally'.hanging)
  pub idle : (s : ℕ) → 2 * o.axes ≤ s → s < 8 → ((stack_at vertices' s).pops ≡ (stack_at vertices s).pops) × ((stack_at vertices' s).pushes ≡ (stack_at vertices s).pushes)
  pub out : vertices'.out ≡ vertices.out
  pub most : vertices'.most ≡ max vertices.most (vertices.out + 2 ^ o.axes * height o levels cell)
  pub cells_read : (stack_at cells' (cell_input_stack o.swapped)).pops ≡ (stack_at cells (cell_input_stack o.swapped)).pops + count_by o.reads_cell (walked_cells o.axes o.way o.walks levels cell)
  pub cells_written : (stack_at cells' (cell_output_stack o.swapped)).pushes ≡ (stack_at cells (cell_output_stack o.swapped)).pushes + count_by o.writes_cell (walked_cells o.axes o.way o.walks levels cell)
  pub cell_input_kept : (stack_at cells' (cell_input_stack o.swapped)).pushes ≡ (stack_at cells (cell_input_stack o.swapped)).pushes
  pub cell_output_kept : (stack_at cells' (cell_output_stack o.swapped)).pops ≡ (stack_at cells (cell_output_stack o.swapped)).pops
  pub cells_made : cells'.fresh + count_by o.reads_cell (walked_cells o.axes o.way o.walks levels cell) + tally.cells ≡ cells.fresh + tally'.cells
  pub cells_gone : cells'.spent + count_by o.writes_cell (walked_cells o.axes o.way o.walks levels cell) + tally.cells ≡ cells.spent + tally'.cells
  pub cells_out : cells'.out ≡ cells.out
  pub cells_most : cells'.most ≡ max cells.most (cells.out + height o levels cell)
  pub rises : RaisesCounts vertices vertices' (64 * (tally'.cells - tally.cells))
  pub cells_rise : RaisesCounts cells cells' (64 * (tally'.cells - tally.cells))

-- No more cells are counted than may be walked, of vertices no more than sixteen for each cell, and no count of a depot is
-- far past 2^61.
pub record CountsAreFew {X Y : Type 0} (max_cells : ℕ) (tally : Tally) (held : Holdings X) (cells_held : Holdings Y) : Type 0 where
  pub few : tally.cells ≤ max_cells
  pub read : tally.read ≤ 16 * tally.cells
  pub written : tally.written ≤ 16 * tally.cells
  pub created : tally.created ≤ 16 * tally.cells
  pub destroyed : tally.destroyed ≤ 16 * tally.cells
  pub hanging : tally.hanging ≤ 16 * tally.cells
  pub vertices : CountsWithin held (2 ^ 61 + 64 * tally.cells)
  pub cells : CountsWithin cells_held (2 ^ 61 + 64 * tally.cells)
