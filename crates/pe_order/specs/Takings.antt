-- What the walk of a cell takes off each stack of places, and what it gives to each.
use Rattle.std.specs.Prelude.{◌≡◌, ℕ, zero, suc, ◌≤◌, ◌<◌, Bool, true, false, ◌&&◌, ◌==◌, List, [], ◌∷◌, ◌++◌, map, filter, reverse, if◌then◌else◌, is_none, length}
use Rattle.std.specs.List.{flat_map, Contains}
use Rattle.pe_base.specs.declared.place.Place.{Place}
use Rattle.pe_base.specs.Tree.Places.{root}
use Rattle.pe_base.specs.Tree.Curve.{children}
use Rattle.pe_base.specs.Steps.Around.{around}
use Rattle.pe_base.specs.Steps.Routes.{stack_in, stack_out}
use Rattle.pe_base.specs.Steps.Faces.{Touch, arriving, leaving}
use Rattle.pe_base.specs.Steps.Stacks.{on_stack}
use Rattle.pe_base.specs.Walk.Streams.{walked_children, walked_loads, walked_stores, walked_cells}
use Rattle.pe_stacks.specs.Holdings.{items_at, stack_count}
use Rattle.pe_stacks.specs.Grid.{input_stack, output_stack, cell_input_stack, cell_output_stack}
use Rattle.pe_order.specs.Tokens.{Outlook, Tokens, one_more, cells_before}
use Rattle.pe_order.specs.Laws.{IsCell, IsWalk}

-- The cells of a walk as they are left.
abbrev pub left_cells : Outlook → ℕ → Place → List Place
left_cells o zero cell = cell ∷ []
left_cells o (suc levels) cell = flat_map (left_cells o levels) (walked_children o.axes o.way o.walks cell) ++ cell ∷ []

module _ (o : Outlook) where
  abbrev pub loads_of : ℕ → Place → List Touch
  loads_of levels cell = walked_loads o.axes o.way o.walks levels cell

  abbrev pub stores_of : ℕ → Place → List Touch
  stores_of levels cell = walked_stores o.axes o.way o.walks levels cell

  -- the vertices that are read, in the order of their first loads, and those that are written, the last one first
  abbrev pub is_read : Touch → Bool
  is_read touch = o.counts touch.vertex && (o.reads touch.vertex && is_none (stack_in o.axes o.way touch.vertex touch.cell))

  abbrev pub is_written : Touch → Bool
  is_written touch = o.counts touch.vertex && (o.writes touch.vertex && is_none (stack_out o.axes o.way touch.vertex touch.cell))

  abbrev pub reads_of : ℕ → Place → List Place
  reads_of levels cell = map (λ touch. touch.vertex) (filter is_read (loads_of levels cell))

  abbrev pub writes_of : ℕ → Place → List Place
  writes_of levels cell = map (λ touch. touch.vertex) (filter is_written (reverse (stores_of levels cell)))

  -- the cells that are read, and those that are written, the last one first
  abbrev pub cell_reads_of : ℕ → Place → List Place
  cell_reads_of levels cell = filter o.reads_cell (walked_cells o.axes o.way o.walks levels cell)

  abbrev pub cell_writes_of : ℕ → Place → List Place
  cell_writes_of levels cell = filter o.writes_cell (reverse (left_cells o levels cell))

  -- what the walk of a cell takes off a stack, and what it leaves there
  abbrev pub takes : ℕ → ℕ → Place → List Place
  takes levels s cell = if s == input_stack o.swapped then reads_of levels cell else on_stack o.axes (arriving o.axes o.way o.counts levels) s cell

  abbrev pub gives : ℕ → ℕ → Place → List Place
  gives levels s cell = if s == output_stack o.swapped then writes_of levels cell else on_stack o.axes (leaving o.axes o.way o.counts levels) s cell

  abbrev pub cell_takes : ℕ → ℕ → Place → List Place
  cell_takes levels s cell = if s == cell_input_stack o.swapped then cell_reads_of levels cell else []

  abbrev pub cell_gives : ℕ → ℕ → Place → List Place
  cell_gives levels s cell = if s == cell_output_stack o.swapped then cell_writes_of levels cell else []

  -- how often vertices that count were met, after some more touches
  abbrev pub met_more : Touch → (Place → ℕ) → Place → ℕ
  met_more touch met = if o.counts touch.vertex then one_more touch.vertex met else met

  abbrev pub met_after : List Touch → (Place → ℕ) → Place → ℕ
  met_after [] met = met
  met_after (touch ∷ touches) met = met_after touches (met_more touch met)

  -- each touch of a vertex that counts is due: the cells around it that come before were met, and no others
  abbrev pub Due : List Touch → (Place → ℕ) → Type 0
  Due [] met = Unit {0}
  Due (touch ∷ touches) met = (o.counts touch.vertex ≡ true → met touch.vertex ≡ cells_before o.axes o.way touch) × Due touches (met_more touch met)

-- The outlook fits a walk down to a greatest level.
pub record Grown (o : Outlook) (walked : Place → Bool) (greatest : ℕ) : Type 0 where
  pub is_walk : IsWalk o.axes o.way walked o.counts
  pub below : (cell child : Place) → IsCell o.axes o.way cell → Contains (children o.axes o.way cell) child → walked child ≡ o.walks cell
  pub walks_within : (cell : Place) → o.walks cell ≡ true → cell.level < greatest
  pub counts_within : (vertex : Place) → o.counts vertex ≡ true → vertex.level ≤ greatest
  pub root_unread : o.reads_cell root ≡ false
  pub root_unwritten : o.writes_cell root ≡ false

-- The walk of a cell may begin: what it takes is on top of each stack, and its loads are due.
pub record MayBegin (o : Outlook) (levels : ℕ) (cell : Place) (beneath cells_beneath : ℕ → List Place) (t : Tokens) : Type 0 where
  pub stacks : stack_count t.vertices ≡ 10
  pub cell_stacks : stack_count t.cells ≡ 2
  pub takes_vertices : (s : ℕ) → items_at t.vertices s ≡ takes o levels s cell ++ beneath s
  pub takes_cells : (s : ℕ) → items_at t.cells s ≡ cell_takes o levels s cell ++ cells_beneath s
  pub due : Due o (loads_of o levels cell) t.met

-- It has ended: what it gives is on top of each stack, all beneath is as it was, and so is what is held.
pub record HasEnded (o : Outlook) (levels : ℕ) (cell : Place) (beneath cells_beneath : ℕ → List Place) (t after : Tokens) : Type 0 where
  pub stacks : stack_count after.vertices ≡ 10
  pub cell_stacks : stack_count after.cells ≡ 2
  pub gives_vertices : (s : ℕ) → items_at after.vertices s ≡ gives o levels s cell ++ beneath s
  pub gives_cells : (s : ℕ) → items_at after.cells s ≡ cell_gives o levels s cell ++ cells_beneath s
  pub met : after.met ≡ met_after o (loads_of o levels cell) t.met
  pub held : (place : Place) → after.held place ≡ t.held place

-- A traversal may begin: its input streams hold what it reads, and all other stacks are empty.
pub record MayTraverse (o : Outlook) (greatest : ℕ) (t : Tokens) : Type 0 where
  pub stacks : stack_count t.vertices ≡ 10
  pub cell_stacks : stack_count t.cells ≡ 2
  pub reads_vertices : (s : ℕ) → items_at t.vertices s ≡ (if s == input_stack o.swapped then reads_of o greatest root else [])
  pub reads_cells : (s : ℕ) → items_at t.cells s ≡ (if s == cell_input_stack o.swapped then cell_reads_of o greatest root else [])
  pub nothing_met : (place : Place) → t.met place ≡ 0

-- It has ended: its output streams hold what it writes, and all other stacks are empty; each vertex that counts was met by
-- all cells around it, and what is held is as it was.
pub record HasTraversed (o : Outlook) (greatest : ℕ) (t after : Tokens) : Type 0 where
  pub stacks : stack_count after.vertices ≡ 10
  pub cell_stacks : stack_count after.cells ≡ 2
  pub writes_vertices : (s : ℕ) → items_at after.vertices s ≡ (if s == output_stack o.swapped then writes_of o greatest root else [])
  pub writes_cells : (s : ℕ) → items_at after.cells s ≡ (if s == cell_output_stack o.swapped then cell_writes_of o greatest root else [])
  pub all_met : (vertex : Place) → o.counts vertex ≡ true → after.met vertex ≡ length (around o.axes o.way vertex)
  pub held : (place : Place) → after.held place ≡ t.held place
