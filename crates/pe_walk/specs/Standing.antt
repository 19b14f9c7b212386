-- What holds between the moves of a traversal, of the working state by address and of the places on stacks.
--
-- A stage is a cell that is being walked, with its parent, and which of its corners are in hand: those from a number on.
-- Loads go down from all to none left to load, stores up.
use Rattle.std.specs.Prelude.{◌≡◌, ◌⊎◌, ◌≢◌, ℕ, ◌+◌, ◌*◌, ◌^◌, ◌<◌, ◌≤◌, Bool, true, false, not, ◌&&◌, ◌||◌, ◌==◌, nat_le, nat_lt, is_some, if◌then◌else◌, List, Option, Some, None, length}
use Rattle.std.specs.List.{list_any}
use Rattle.pe_base.specs.declared.place.Place.{Place}
use Rattle.pe_base.specs.declared.kind.Kind.{Kind}
use Rattle.pe_base.specs.declared.kind.Kind.TheVariants.{Kept, Born, Dying, Hanging}
use Rattle.pe_base.specs.declared.tally.Tally.{Tally}
use Rattle.pe_base.specs.Tree.Dim.{IsDim}
use Rattle.pe_base.specs.Tree.Places.{corner, corners, parent_of, is_same}
use Rattle.pe_base.specs.Life.States.{is_old, is_new, is_stored}
use Rattle.pe_base.specs.Life.Table.{first_touch, start_state, is_settled}
use Rattle.pe_base.specs.Life.Kinds.{kind_from, is_hanging, is_inside, level_one_kind}
use Rattle.pe_base.specs.Life.Carriers.{carriers}
use Rattle.pe_base.specs.Acts.Effects.{VertexRecord, AreLawful}
use Rattle.pe_base.specs.Walk.Maps.{at, at_corner}
use Rattle.pe_base.specs.Walk.Course.{Push}
use Rattle.pe_base.specs.Walk.Core.{Setting, way}
use Rattle.pe_base.specs.Walk.Working.{Working, loads_of, record_at, family_of}
use Rattle.pe_base.specs.Walk.Touches.{kind_of_vertex}
use Rattle.pe_stacks.specs.Holdings.{stack_at, items_at, len_at, stack_count}
use Rattle.pe_stacks.specs.Grid.{input_stack, output_stack, cell_input_stack}
use Rattle.pe_adapt.specs.Touches.{kind_in_hand}
use Rattle.pe_order.specs.Laws.{IsCell}
use Rattle.pe_order.specs.Tokens.{Outlook, Tokens, cells_before}
use Rattle.pe_order.specs.Takings.{Grown}
use Rattle.pe_walk.specs.CoreKeeps.{IsFinest}
use Rattle.pe_order.specs.CellsAhead.{CellsAhead}
use Rattle.pe_order.specs.Apart.{IsApart, lies, occurs}
use Rattle.pe_order.specs.Traffic.{OnlyCounting}
use Rattle.pe_order.specs.Outlooks.{was_stored}
pub use Rattle.pe_order.specs.CellsAhead.{times, CellsAhead}

-- What is foreseen of each place: kinds, and old and new from the first touch to the last, of vertices; the kind of the
-- children of cells; and what the working state holds of a vertex before the first touch.
pub record Foresight : Type 0 where
  pub kind : Place → Kind
  pub old : Place → Bool
  pub new : Place → Bool
  pub below : Place → Kind
  pub start : Place → Option VertexRecord

-- a vertex of a kind is as foreseen after its first touch, by what it was before
abbrev pub IsForeseen : {Plan : Type 0} → Setting Plan → Foresight → Place → Kind → Option VertexRecord → Type 0
IsForeseen set f vertex Kept (Some it) = (is_old (first_touch it.state Kept) ≡ f.old vertex) × (is_new (first_touch it.state Kept) ≡ f.new vertex)
IsForeseen set f vertex Dying (Some it) = (is_old (first_touch it.state Dying) ≡ f.old vertex) × (is_new (first_touch it.state Dying) ≡ f.new vertex)
IsForeseen set f vertex Kept None = ⊥
IsForeseen set f vertex Dying None = ⊥
IsForeseen set f vertex Born it =
    (it ≡ None) × (is_old (start_state set.traversal vertex.level set.start_level) ≡ f.old vertex) × (is_new (start_state set.traversal vertex.level set.start_level) ≡ f.new vertex)
IsForeseen set f vertex Hanging it = (it ≡ None) × (f.old vertex ≡ false) × (f.new vertex ≡ false)

-- what is there before the traversal is unrefined past the greatest level
abbrev pub StartsFinest : ℕ → Place → Option VertexRecord → Type 0
StartsFinest greatest vertex None = Unit {0}
StartsFinest greatest vertex (Some it) = IsFinest greatest vertex.level it.state

-- The foresight is that of the walk over places.
pub record Foresees {Plan : Type 0} (set : Setting Plan) (o : Outlook) (f : Foresight) : Type 0 where
  pub dim : IsDim set.axes
  pub axes : o.axes ≡ set.axes
  pub ways : o.way ≡ way set
  pub lawful : AreLawful set.rules
  pub counts : (vertex : Place) → o.counts vertex ≡ not (is_hanging (f.kind vertex))
  pub reads : (vertex : Place) → o.reads vertex ≡ was_stored (f.kind vertex)
  pub writes : (vertex : Place) → o.writes vertex ≡ is_stored (f.kind vertex)
  pub walks : (cell : Place) → o.walks cell ≡ not (is_hanging (f.below cell))
  pub reads_cell : (cell : Place) → 1 ≤ cell.level → o.reads_cell cell ≡ was_stored (f.below (parent_of cell))
  pub writes_cell : (cell : Place) → 1 ≤ cell.level → o.writes_cell cell ≡ is_stored (f.below (parent_of cell))
  pub level_one : (vertex : Place) → vertex.level ≡ 1 → level_one_kind set.axes set.traversal vertex ≡ f.kind vertex
  pub deeper : (cell : Place) (k : ℕ) → IsCell set.axes (way set) cell → 2 ≤ cell.level → k < 2 ^ set.axes
      → kind_from (list_any f.old (carriers (corner set.axes cell k))) (list_any f.new (carriers (corner set.axes cell k))) ≡ f.kind (corner set.axes cell k)
  pub foreseen : (vertex : Place) → IsForeseen set f vertex (f.kind vertex) (f.start vertex)
  pub root_below : (cell : Place) → cell.level ≡ 0 → f.below cell ≡ (if set.traversal == 1 then Born else Kept)
  pub cell_below : (cell : Place) → 1 ≤ cell.level → f.below cell ≡ kind_from (list_any f.old (corners set.axes cell)) (list_any f.new (corners set.axes cell))
  pub inside : (vertex : Place) → o.counts vertex ≡ true → (1 ≤ vertex.level) × (is_inside set.axes vertex ≡ true)
  pub finest : (vertex : Place) → StartsFinest (set.rules.greatest set.plan) vertex (f.start vertex)
  pub start_level : set.start_level ≤ set.rules.greatest set.plan

-- What is fixed for a traversal: what is foreseen, the kinds that records have before they are touched, which mean
-- nothing, how many cells it walks, what no count was greater than when it began, and how long the stacks were then.
pub record ForeseenStart : Type 0 where
  pub outlook : Outlook
  pub foresight : Foresight
  pub stale : Place → Kind
  pub total : ℕ
  pub base : ℕ
  pub lens : ℕ → ℕ
  pub cell_lens : ℕ → ℕ

-- so much each cell may add to each count: its loads, its stores, and its own record that comes and goes
abbrev pub per_cell : ℕ
per_cell = 34

-- A stage of a traversal.
--
--     out         how many vertices are out besides the corners of the cell that is walked
--     parent, cell, from     its parent, the cell, and from which of its corners on they are in hand
--     owed        how much the cells that were counted may still add to each count
--     unstored    how many corners of these cells are still to be stored
--     counted     how many of them are still to be entered
--     entered     the cells that were entered and not left, the root among them
--     ahead       the cells that are still to be entered
pub record Stage : Type 0 where
  pub out : ℕ
  pub parent : Place
  pub cell : Place
  pub from : ℕ
  pub owed : ℕ
  pub unstored : ℕ
  pub counted : ℕ
  pub entered : List Place
  pub ahead : List Place

-- A place is on its way: in hand, or on a stack other than the output after its first load.
abbrev pub IsLive : Outlook → Tokens → Place → Type 0
IsLive o t vertex =
    (1 ≤ t.held vertex) ⊎ ((s : ℕ) × (s ≢ output_stack o.swapped) × (1 ≤ times (items_at t.vertices s) vertex) × (1 ≤ t.met vertex))

-- the places stand well, at a stage
pub record Stands (axes : ℕ) (o : Outlook) (st : Stage) (t : Tokens) : Type 0 where
  pub apart : IsApart o t
  pub counting : OnlyCounting o t
  pub unmet : (vertex : Place) → o.counts vertex ≡ false → t.met vertex ≡ 0
  pub held_met : (vertex : Place) → 1 ≤ t.held vertex → 1 ≤ t.met vertex
  pub stacks : stack_count t.vertices ≡ 10
  pub cell_stacks : stack_count t.cells ≡ 2
  pub parents : (k : ℕ) → k < 2 ^ axes → o.counts (corner axes st.parent k) ≡ true → 1 ≤ t.held (corner axes st.parent k)
  pub mine : (k : ℕ) → st.from ≤ k → k < 2 ^ axes → o.counts (corner axes st.cell k) ≡ true
      → (1 ≤ t.held (corner axes st.cell k)) × (t.met (corner axes st.cell k) ≡ cells_before o.axes o.way (record { vertex = corner axes st.cell k; cell = st.cell }) + 1)
  pub out : t.vertices.out + st.from ≡ st.out + 2 ^ axes
  pub cells_out : t.cells.out + 1 ≡ length st.entered
  pub parent_entered : 1 ≤ times st.entered st.parent
  pub entered_off : (cell : Place) → 1 ≤ times st.entered cell → lies t.cells cell ≡ 0
  pub entered_once : (cell : Place) → 1 ≤ times st.entered cell → times st.ahead cell ≡ 0
  pub entered_distinct : (cell : Place) → times st.entered cell ≤ 1
  pub ahead : CellsAhead o st.ahead t

-- what is found of a vertex is as foreseen from its first touch to its last
pub record IsFair (f : Foresight) (greatest : ℕ) (vertex : Place) (found : Option VertexRecord) : Type 0 where
  pub it : VertexRecord
  pub there : found ≡ Some it
  pub kind : it.kind ≡ f.kind vertex
  pub old : is_old it.state ≡ f.old vertex
  pub new : is_new it.state ≡ f.new vertex
  pub finest : IsFinest greatest vertex.level it.state

-- what is found of a vertex that was written: new has become old, and it is settled
pub record IsWritten (f : Foresight) (greatest : ℕ) (vertex : Place) (found : Option VertexRecord) : Type 0 where
  pub it : VertexRecord
  pub there : found ≡ Some it
  pub old : is_old it.state ≡ f.new vertex
  pub settled : is_settled it.state ≡ true
  pub finest : IsFinest greatest vertex.level it.state

-- a record of a vertex that hangs
pub record IsIdle (it : VertexRecord) : Type 0 where
  pub kind : it.kind ≡ Hanging
  pub old : is_old it.state ≡ false
  pub new : is_new it.state ≡ false

-- The working state is fair: it agrees with what is foreseen and with the places.
--
--     unread      a vertex that was not met is as before the traversal
--     live        one that was met, and is not on the output, is as foreseen
--     written     one on the output is as foreseen for the next traversal
--     gone        one that was met and is nowhere is no more
--     flags       of cells below the parent only the stage's has hanging vertices: the corners in hand that do not count
pub record Fair (axes greatest : ℕ) (o : Outlook) (f : Foresight) (st : Stage) (w : Working) (t : Tokens) : Type 0 where
  pub loads : (vertex : Place) → loads_of w vertex ≡ t.met vertex
  pub unread : (vertex : Place) → t.met vertex ≡ 0 → at w.vertices vertex ≡ f.start vertex
  pub live : (vertex : Place) → o.counts vertex ≡ true → IsLive o t vertex → IsFair f greatest vertex (at w.vertices vertex)
  pub written : (vertex : Place) → 1 ≤ times (items_at t.vertices (output_stack o.swapped)) vertex → 1 ≤ t.met vertex → IsWritten f greatest vertex (at w.vertices vertex)
  pub gone : (vertex : Place) → o.counts vertex ≡ true → 1 ≤ t.met vertex → occurs t vertex ≡ 0 → at w.vertices vertex ≡ None
  pub cells_there : (cell : Place) → is_some (at w.cells cell) ≡ (nat_lt 0 (lies t.cells cell) || nat_lt 0 (times st.entered cell))
  pub parent_flags : (k : ℕ) → k < 2 ^ axes → is_some (at_corner w.hanging st.parent k) ≡ not (o.counts (corner axes st.parent k))
  pub parents : (k : ℕ) → k < 2 ^ axes → o.counts (corner axes st.parent k) ≡ false → IsIdle (record_at axes w st.parent k)
  pub flags : (x : Place) (k : ℕ) → st.parent.level < x.level
      → is_some (at_corner w.hanging x k) ≡ (is_same st.cell x && nat_le st.from k && nat_lt k (2 ^ axes) && not (o.counts (corner axes st.cell k)))
  pub mine : (k : ℕ) → st.from ≤ k → k < 2 ^ axes → o.counts (corner axes st.cell k) ≡ false → IsIdle (record_at axes w st.cell k)

-- Counts stay small: what the counted cells may still add is left below a bound; no more cells are counted than may be,
-- and with those ahead they are as many as the traversal walks. So stacks stay short.
pub record Owes (axes max_cells : ℕ) (e : ForeseenStart) (st : Stage) (tally : Tally) (t : Tokens) : Type 0 where
  pub cells : tally.cells ≤ max_cells
  pub total : tally.cells + length st.ahead ≡ e.total + st.counted
  pub fresh : t.vertices.fresh + st.owed ≤ e.base + per_cell * tally.cells
  pub pushes : (s : ℕ) → (stack_at t.vertices s).pushes + st.owed ≤ e.base + per_cell * tally.cells
  pub pops : (s : ℕ) → (stack_at t.vertices s).pops + st.owed ≤ e.base + per_cell * tally.cells
  pub cell_fresh : t.cells.fresh + st.owed ≤ e.base + per_cell * tally.cells
  pub cell_pushes : (s : ℕ) → (stack_at t.cells s).pushes + st.owed ≤ e.base + per_cell * tally.cells
  pub cell_pops : (s : ℕ) → (stack_at t.cells s).pops + st.owed ≤ e.base + per_cell * tally.cells
  pub read : tally.read + st.owed ≤ e.base + per_cell * tally.cells
  pub written : tally.written + st.owed ≤ e.base + per_cell * tally.cells
  pub created : tally.created + st.owed ≤ e.base + per_cell * tally.cells
  pub destroyed : tally.destroyed + st.owed ≤ e.base + per_cell * tally.cells
  pub hanging : tally.hanging + st.owed ≤ e.base + per_cell * tally.cells
  pub lens : (s : ℕ) → len_at t.vertices s + st.unstored ≤ e.lens s + 2 ^ axes * tally.cells
  pub cell_lens : (s : ℕ) → len_at t.cells s + length st.entered + st.counted ≤ e.cell_lens s + tally.cells + 1

-- what holds at a stage
pub record Holds {Plan : Type 0} (set : Setting Plan) (e : ForeseenStart) (st : Stage) (w : Working) (t : Tokens) : Type 0 where
  pub stands : Stands set.axes e.outlook st t
  pub fair : Fair set.axes (set.rules.greatest set.plan) e.outlook e.foresight st w t
  pub owes : Owes set.axes set.max_cells e st w.tally t

-- What a traversal may rest on: its foresight, the shape of its walk, and counts that do not run out.
pub record IsForeseenStart {Plan : Type 0} (set : Setting Plan) (e : ForeseenStart) (walked : Place → Bool) : Type 0 where
  pub foresees : Foresees set e.outlook e.foresight
  pub grown : Grown e.outlook walked (set.rules.greatest set.plan)
  pub bound : e.base + per_cell * set.max_cells < 2 ^ 63

-- a push on a stack that is no input has room wherever its stack, as long as it is then, may stand at a stage
pub record HasRoom {Plan : Type 0} (set : Setting Plan) (e : ForeseenStart) (room : Push → Type 0) : Type 0 where
  pub vertices : (st : Stage) (w : Working) (t : Tokens) → Holds set e st w t → (s : ℕ) → s < 10 → s ≢ input_stack e.outlook.swapped → room (record { of_cell = false; stack = s; length = len_at t.vertices s })
  pub cells : (st : Stage) (w : Working) (t : Tokens) → Holds set e st w t → (s : ℕ) → s < 2 → s ≢ cell_input_stack e.outlook.swapped → room (record { of_cell = true; stack = s; length = len_at t.cells s })

-- At a load, the kind of a corner as the map has its carriers, and as the parent's corners in hand have them, is the one
-- foreseen.
pub record FindsKind {Plan : Type 0} (set : Setting Plan) (f : Foresight) (parent cell : Place) (w : Working) (k : ℕ) : Type 0 where
  pub by_map : kind_of_vertex set w (corner set.axes cell k) ≡ f.kind (corner set.axes cell k)
  pub in_hand : kind_in_hand set cell (family_of set.axes w parent).parents (corner set.axes cell k) ≡ f.kind (corner set.axes cell k)

-- the cell of a stage is a cell of the tree below the root, a child of its parent, whose children are walked
pub record IsStage (axes : ℕ) (o : Outlook) (st : Stage) : Type 0 where
  pub cell : IsCell axes o.way st.cell
  pub above : parent_of st.cell ≡ st.parent
  pub deep : 1 ≤ st.cell.level
  pub walked : o.walks st.parent ≡ true

abbrev pub KindsAreFound : Type 0 → Type 0
KindsAreFound Plan = (set : Setting Plan) (e : ForeseenStart) (walked : Place → Bool) (st : Stage) (w : Working) (t : Tokens)
    → IsForeseenStart set e walked → IsStage set.axes e.outlook st → Holds set e st w t
    → (k : ℕ) → k < 2 ^ set.axes → FindsKind set e.foresight st.parent st.cell w k
