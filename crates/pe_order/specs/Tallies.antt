-- What a traversal counts, by the kinds of its vertices; and what it moves, in these counts.
use Rattle.std.specs.Prelude.{◌≡◌, ◌⊎◌, ℕ, zero, suc, ◌+◌, ◌-◌, ◌*◌, ◌^◌, ◌<◌, ◌≤◌, max, Bool, not, ◌&&◌, List, [], ◌∷◌, reverse, sum_by, count_by, length, Some, is_none}
use Rattle.pe_base.specs.declared.place.Place.{Place}
use Rattle.pe_base.specs.declared.kind.Kind.{Kind}
use Rattle.pe_base.specs.declared.tally.Tally.{Tally}
use Rattle.pe_base.specs.Tree.Dim.{IsDim}
use Rattle.pe_base.specs.Tree.Places.{root}
use Rattle.pe_base.specs.Tree.Curve.{children}
use Rattle.pe_base.specs.Steps.Routes.{stack_in, stack_out}
use Rattle.pe_base.specs.Steps.Faces.{Touch, corner_touches}
use Rattle.pe_base.specs.Life.States.{is_stored}
use Rattle.pe_base.specs.Life.Kinds.{is_hanging}
use Rattle.pe_base.specs.Walk.Working.{no_tally}
use Rattle.pe_base.specs.Walk.Touches.{tally_load, tally_store, tally_cell}
use Rattle.pe_base.specs.Walk.Grids.{Grid, IsWellFormed}
use Rattle.pe_base.specs.Walk.Foreseen.{next_traversal, kind_foreseen}
use Rattle.pe_base.specs.Walk.Streams.{walked_children, walked_cells}
use Rattle.pe_stacks.specs.Holdings.{Holdings, stack_at}
use Rattle.pe_stacks.specs.Grid.{input_stack, output_stack, cell_input_stack, cell_output_stack}
use Rattle.pe_order.specs.Outlooks.{was_stored, outlook, IsNew}
use Rattle.pe_order.specs.Tokens.{Outlook, Tokens, traverse}
use Rattle.pe_order.specs.Takings.{loads_of, stores_of, is_read, is_written, Grown}
use Rattle.pe_order.specs.Traffic.{entered_cells, first_vertices, crosses_on}
use Rattle.pe_order.specs.Frames.{HasStacks}
use Rattle.pe_order.specs.FewCells.{most_cells}

-- one move after another
abbrev pub each_counted : {A : Type 0} → (A → Tally → Tally) → List A → Tally → Tally
each_counted step [] tally = tally
each_counted step (x ∷ xs) tally = each_counted step xs (step x tally)

module _ (o : Outlook) (kind : Place → Kind) where
  -- The outlook is that of the kinds.
  pub record IsOfKinds : Type 0 where
    pub counts : (vertex : Place) → o.counts vertex ≡ not (is_hanging (kind vertex))
    pub reads : (vertex : Place) → o.reads vertex ≡ was_stored (kind vertex)
    pub writes : (vertex : Place) → o.writes vertex ≡ is_stored (kind vertex)

  -- a load and a store as they are counted
  abbrev pub counted_load : Touch → Tally → Tally
  counted_load touch tally = tally_load (kind touch.vertex) (is_none (stack_in o.axes o.way touch.vertex touch.cell)) tally

  abbrev pub counted_store : Touch → Tally → Tally
  counted_store touch tally = tally_store (kind touch.vertex) (is_none (stack_out o.axes o.way touch.vertex touch.cell)) tally

  -- the walk of a cell with some levels below it: the cell, its loads, what is walked below it, its stores
  abbrev pub counted_around : (Tally → Tally) → Place → Tally → Tally
  counted_around below cell tally =
      each_counted counted_store (corner_touches o.axes cell) (below (each_counted counted_load (reverse (corner_touches o.axes cell)) (tally_cell cell tally)))

  abbrev pub counted_walk : ℕ → Place → Tally → Tally
  counted_walk zero cell = counted_around (λ tally. tally) cell
  counted_walk (suc levels) cell = counted_around (each_counted (counted_walk levels) (walked_children o.axes o.way o.walks cell)) cell

  -- a traversal: nothing is counted of the root
  abbrev pub counted_traversal : ℕ → Tally → Tally
  counted_traversal greatest = each_counted (counted_walk (greatest - 1)) (children o.axes o.way root)

-- a vertex that is new, as it is loaded first, and one that is gone, as it is stored last
abbrev pub is_created : Outlook → Touch → Bool
is_created o touch = o.counts touch.vertex && (not (o.reads touch.vertex) && is_none (stack_in o.axes o.way touch.vertex touch.cell))

abbrev pub is_destroyed : Outlook → Touch → Bool
is_destroyed o touch = o.counts touch.vertex && (not (o.writes touch.vertex) && is_none (stack_out o.axes o.way touch.vertex touch.cell))

-- one that hangs
abbrev pub is_hung : Outlook → Touch → Bool
is_hung o touch = not (o.counts touch.vertex)

-- the greatest level of some cells, or one from before
abbrev pub deepest_of : List Place → ℕ → ℕ
deepest_of [] level = level
deepest_of (cell ∷ cells) level = deepest_of cells (max level cell.level)

-- So much is counted of some cells, loads and stores.
pub record TallyRises (o : Outlook) (walked : List Place) (loads stores : List Touch) (tally after : Tally) : Type 0 where
  pub traversal : after.traversal ≡ tally.traversal
  pub way : after.way ≡ tally.way
  pub cells : after.cells ≡ tally.cells + length walked
  pub read : after.read ≡ tally.read + count_by (is_read o) loads
  pub written : after.written ≡ tally.written + count_by (is_written o) stores
  pub created : after.created ≡ tally.created + count_by (is_created o) loads
  pub destroyed : after.destroyed ≡ tally.destroyed + count_by (is_destroyed o) stores
  pub hanging : after.hanging ≡ tally.hanging + count_by (is_hung o) loads
  pub deepest : after.deepest ≡ deepest_of walked tally.deepest

abbrev pub TallyOfACell : Type 0
TallyOfACell = (o : Outlook) (kind : Place → Kind) (levels : ℕ) (cell : Place) (tally : Tally) → IsOfKinds o kind
    → TallyRises o (walked_cells o.axes o.way o.walks levels cell) (loads_of o levels cell) (stores_of o levels cell) tally (counted_walk o kind levels cell tally)

-- What a traversal moves, in what it counts.
--
--     read, written           vertices popped from the input, and pushed on the output
--     fresh, spent            vertices made, and given up: those created and destroyed, the hanging ones, and the root's corners
--     popped, pushed          by the stack of an axis and a parity: so often as the vertices that count cross it
--     idle                    the stacks of axes that there are not
--     most, cells_most        how much was out at most: the corners of one cell of each level, the root's too; and one cell
--     counting, hanging       how many vertices count; and the corners of all cells that do not
pub record ExactTraffic {X Y : Type 0} (o : Outlook) (greatest : ℕ) (vertices vertices' : Holdings X) (cells cells' : Holdings Y) (tally : Tally) : Type 0 where
  pub read : (stack_at vertices' (input_stack o.swapped)).pops ≡ (stack_at vertices (input_stack o.swapped)).pops + tally.read
  pub written : (stack_at vertices' (output_stack o.swapped)).pushes ≡ (stack_at vertices (output_stack o.swapped)).pushes + tally.written
  pub input_kept : (stack_at vertices' (input_stack o.swapped)).pushes ≡ (stack_at vertices (input_stack o.swapped)).pushes
  pub output_kept : (stack_at vertices' (output_stack o.swapped)).pops ≡ (stack_at vertices (output_stack o.swapped)).pops
  pub fresh : vertices'.fresh ≡ vertices.fresh + (tally.created + tally.hanging + 2 ^ o.axes)
  pub spent : vertices'.spent ≡ vertices.spent + (tally.destroyed + tally.hanging + 2 ^ o.axes)
  pub popped : (axis parity : ℕ) → axis < o.axes → parity < 2
      → (stack_at vertices' (2 * axis + parity)).pops ≡ (stack_at vertices (2 * axis + parity)).pops + sum_by (crosses_on o.axes axis parity) (first_vertices o greatest)
  pub pushed : (axis parity : ℕ) → axis < o.axes → parity < 2
      → (stack_at vertices' (2 * axis + parity)).pushes ≡ (stack_at vertices (2 * axis + parity)).pushes + sum_by (crosses_on o.axes axis parity) (first_vertices o greatest)
  pub idle : (s : ℕ) → 2 * o.axes ≤ s → s < 8 → ((stack_at vertices' s).pops ≡ (stack_at vertices s).pops) × ((stack_at vertices' s).pushes ≡ (stack_at vertices s).pushes)
  pub out : vertices'.out ≡ vertices.out
  pub most : vertices'.most ≡ max vertices.most (vertices.out + 2 ^ o.axes * (tally.deepest + 1))
  pub counting : length (first_vertices o greatest) ≡ tally.read + tally.created
  pub counting_after : length (first_vertices o greatest) ≡ tally.written + tally.destroyed
  pub hanging : tally.hanging + 2 ^ o.axes * length (first_vertices o greatest) ≡ 2 ^ o.axes * tally.cells
  pub cell_count : tally.cells ≡ length (entered_cells o greatest)
  pub cells_read : (stack_at cells' (cell_input_stack o.swapped)).pops ≡ (stack_at cells (cell_input_stack o.swapped)).pops + count_by o.reads_cell (entered_cells o greatest)
  pub cell_input_kept : (stack_at cells' (cell_input_stack o.swapped)).pushes ≡ (stack_at cells (cell_input_stack o.swapped)).pushes
  pub cell_output_kept : (stack_at cells' (cell_output_stack o.swapped)).pops ≡ (stack_at cells (cell_output_stack o.swapped)).pops
  pub cells_made : cells'.fresh + count_by o.reads_cell (entered_cells o greatest) ≡ cells.fresh + tally.cells
  pub cells_written : (stack_at cells' (cell_output_stack o.swapped)).pushes ≡ (stack_at cells (cell_output_stack o.swapped)).pushes + count_by o.writes_cell (entered_cells o greatest)
  pub cells_gone : cells'.spent + count_by o.writes_cell (entered_cells o greatest) ≡ cells.spent + tally.cells
  pub cells_out : cells.out ≤ cells.most → cells'.out ≡ cells.out
  pub cells_most : cells.out ≤ cells.most → cells'.most ≡ max cells.most (cells.out + tally.deepest)

abbrev pub TrafficByTally : Type 0
TrafficByTally = (o : Outlook) (kind : Place → Kind) (walked : Place → Bool) (greatest traversal : ℕ) (t after : Tokens) → IsDim o.axes → Grown o walked greatest → IsOfKinds o kind → HasStacks t → traverse o greatest t ≡ Some after
    → ExactTraffic o greatest t.vertices after.vertices t.cells after.cells (counted_traversal o kind greatest (no_tally traversal))

-- The kinds foreseen of a traversal of a grid are those of its outlook. So its traffic is exact, and it walks no more cells
-- than its vertices allow.
abbrev pub KindsForeseen : Type 0
KindsForeseen = (start_level : ℕ) (grid : Grid) (swapped : Bool) → IsOfKinds (outlook start_level grid swapped) (kind_foreseen start_level grid)

abbrev pub foreseen_tally : ℕ → Grid → Bool → Tally
foreseen_tally start_level grid swapped = counted_traversal (outlook start_level grid swapped) (kind_foreseen start_level grid) grid.greatest (no_tally (next_traversal grid))

pub record TrafficOfGrid (start_level : ℕ) (grid : Grid) (swapped : Bool) (t after : Tokens) : Type 0 where
  pub exact : ExactTraffic (outlook start_level grid swapped) grid.greatest t.vertices after.vertices t.cells after.cells (foreseen_tally start_level grid swapped)
  pub few : (foreseen_tally start_level grid swapped).cells ≤ most_cells grid.axes ((foreseen_tally start_level grid swapped).read + (foreseen_tally start_level grid swapped).created)

abbrev pub TrafficOfGrids : Type 0
TrafficOfGrids = (start_level : ℕ) (grid : Grid) (swapped : Bool) (t after : Tokens) → start_level ≤ grid.greatest → IsNew grid ⊎ IsWellFormed grid → HasStacks t
    → traverse (outlook start_level grid swapped) grid.greatest t ≡ Some after → TrafficOfGrid start_level grid swapped t after
