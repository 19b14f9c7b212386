-- What the walk over places moves, makes and gives up, and how much is out at most.
use Rattle.std.specs.Prelude.{◌≡◌, ℕ, zero, suc, ◌+◌, ◌-◌, ◌*◌, ◌%◌, ◌^◌, ◌<◌, ◌≤◌, max, Bool, true, not, ◌&&◌, ◌==◌, List, [], ◌∷◌, map, filter, sum_by, count_by, length, slice_index, if◌then◌else◌, Some, is_none}
use Rattle.std.specs.List.{flat_map, AllByRecursion}
use Rattle.pe_base.specs.declared.place.Place.{Place}
use Rattle.pe_base.specs.Tree.Dim.{IsDim}
use Rattle.pe_base.specs.Tree.Places.{root, is_same}
use Rattle.pe_base.specs.Tree.Curve.{children}
use Rattle.pe_base.specs.Steps.Around.{crossings}
use Rattle.pe_base.specs.Steps.Routes.{stack_in}
use Rattle.pe_base.specs.Steps.Faces.{Touch}
use Rattle.pe_base.specs.Steps.Stacks.{is_stack}
use Rattle.pe_base.specs.Walk.Streams.{walked_children, walked_cells}
use Rattle.pe_stacks.specs.Holdings.{Holdings, stack_at, stack_count, items_at, len_at, RaisesCounts}
use Rattle.pe_order.specs.Laws.{IsCell}
use Rattle.pe_order.specs.Tokens.{Outlook, Tokens, source, target, cell_source, cell_target, load, store, walk, begun, traverse}
use Rattle.pe_order.specs.Takings.{loads_of, stores_of, left_cells, Grown, MayTraverse}
use Rattle.pe_order.specs.Apart.{IsApart}

module _ (o : Outlook) where
  -- a load takes from a stack, or makes; a store gives to a stack, or gives up
  abbrev pub takes_from : ℕ → Touch → Bool
  takes_from s touch = o.counts touch.vertex && is_stack s (source o touch)

  abbrev pub makes : Touch → Bool
  makes touch = not (o.counts touch.vertex && not (is_none (source o touch)))

  abbrev pub gives_to : ℕ → Touch → Bool
  gives_to s touch = o.counts touch.vertex && is_stack s (target o touch)

  abbrev pub ends : Touch → Bool
  ends touch = not (o.counts touch.vertex && not (is_none (target o touch)))

  -- Some loads and stores of vertices, and some cells entered and left, have moved so much.
  pub record Moved (loads stores : List Touch) (entered left : List Place) (t after : Tokens) : Type 0 where
    pub stacks : stack_count after.vertices ≡ stack_count t.vertices
    pub pops : (s : ℕ) → (stack_at after.vertices s).pops ≡ (stack_at t.vertices s).pops + count_by (takes_from s) loads
    pub pushes : (s : ℕ) → (stack_at after.vertices s).pushes ≡ (stack_at t.vertices s).pushes + count_by (gives_to s) stores
    pub fresh : after.vertices.fresh ≡ t.vertices.fresh + count_by makes loads
    pub spent : after.vertices.spent ≡ t.vertices.spent + count_by ends stores
    pub cell_stacks : stack_count after.cells ≡ stack_count t.cells
    pub cell_pops : (s : ℕ) → (stack_at after.cells s).pops ≡ (stack_at t.cells s).pops + count_by (λ cell. is_stack s (cell_source o cell)) entered
    pub cell_pushes : (s : ℕ) → (stack_at after.cells s).pushes ≡ (stack_at t.cells s).pushes + count_by (λ cell. is_stack s (cell_target o cell)) left
    pub cell_fresh : after.cells.fresh ≡ t.cells.fresh + count_by (λ cell. is_none (cell_source o cell)) entered
    pub cell_spent : after.cells.spent ≡ t.cells.spent + count_by (λ cell. is_none (cell_target o cell)) left

-- how many levels of cells are walked from a cell down
abbrev pub tallest : (Place → ℕ) → List Place → ℕ
tallest height [] = 0
tallest height (cell ∷ cells) = max (height cell) (tallest height cells)

abbrev pub height : Outlook → ℕ → Place → ℕ
height o zero cell = 1
height o (suc levels) cell = suc (tallest (height o levels) (walked_children o.axes o.way o.walks cell))

-- As much is out afterwards as before, and in between at most so much for each level.
pub record Returns (unit levels : ℕ) (held after : Holdings Place) : Type 0 where
  pub out : after.out ≡ held.out
  pub most : after.most ≡ max held.most (held.out + unit * levels)

-- The walk of a cell: its traffic by its loads and stores, and how much is out.
pub record HasMoved (o : Outlook) (levels : ℕ) (cell : Place) (t after : Tokens) : Type 0 where
  pub moved : Moved o (loads_of o levels cell) (stores_of o levels cell) (walked_cells o.axes o.way o.walks levels cell) (left_cells o levels cell) t after
  pub vertices : Returns (2 ^ o.axes) (height o levels cell) t.vertices after.vertices
  pub cells : Returns 1 (height o levels cell) t.cells after.cells

abbrev pub TrafficOfACell : Type 0
TrafficOfACell = (o : Outlook) (levels : ℕ) (cell : Place) (t after : Tokens) → IsDim o.axes → IsCell o.axes o.way cell → stack_count t.vertices ≡ 10 → stack_count t.cells ≡ 2 → walk o levels cell t ≡ Some after
    → HasMoved o levels cell t after

-- Each cell has 2^d loads and 2^d stores: so no count of the vertices rises by more than 2^d for each walked cell.
pub record LoadsOfCells (o : Outlook) (levels : ℕ) (cell : Place) : Type 0 where
  pub loads : length (loads_of o levels cell) ≡ 2 ^ o.axes * length (walked_cells o.axes o.way o.walks levels cell)
  pub stores : length (stores_of o levels cell) ≡ 2 ^ o.axes * length (walked_cells o.axes o.way o.walks levels cell)
  pub left : length (left_cells o levels cell) ≡ length (walked_cells o.axes o.way o.walks levels cell)

abbrev pub LoadsPerCell : Type 0
LoadsPerCell = (o : Outlook) (levels : ℕ) (cell : Place) → LoadsOfCells o levels cell

-- no count of a depot rises by more than so much
pub record RisesBy (n : ℕ) (held after : Holdings Place) : Type 0 where
  pub fresh : after.fresh ≤ held.fresh + n
  pub spent : after.spent ≤ held.spent + n
  pub pops : (s : ℕ) → (stack_at after s).pops ≤ (stack_at held s).pops + n
  pub pushes : (s : ℕ) → (stack_at after s).pushes ≤ (stack_at held s).pushes + n

pub record RisesPerCell (o : Outlook) (levels : ℕ) (cell : Place) (t after : Tokens) : Type 0 where
  pub vertices : RisesBy (2 ^ o.axes * length (walked_cells o.axes o.way o.walks levels cell)) t.vertices after.vertices
  pub cells : RisesBy (length (walked_cells o.axes o.way o.walks levels cell)) t.cells after.cells

abbrev pub CountsPerCell : Type 0
CountsPerCell = (o : Outlook) (levels : ℕ) (cell : Place) (t after : Tokens) → IsDim o.axes → IsCell o.axes o.way cell → stack_count t.vertices ≡ 10 → stack_count t.cells ≡ 2 → walk o levels cell t ≡ Some after
    → RisesPerCell o levels cell t after

-- the cells of a traversal, as they are entered and as they are left
abbrev pub entered_cells : Outlook → ℕ → List Place
entered_cells o greatest = flat_map (walked_cells o.axes o.way o.walks (greatest - 1)) (children o.axes o.way root)

abbrev pub departed_cells : Outlook → ℕ → List Place
departed_cells o greatest = flat_map (left_cells o (greatest - 1)) (children o.axes o.way root)

-- A traversal: the root's corners are made and given up, as loads and stores of the root.
pub record HasMovedAll (o : Outlook) (greatest : ℕ) (t after : Tokens) : Type 0 where
  pub moved : Moved o (loads_of o greatest root) (stores_of o greatest root) (entered_cells o greatest) (departed_cells o greatest) t after
  pub vertices : Returns (2 ^ o.axes) (height o greatest root) t.vertices after.vertices
  pub cells : t.cells.out ≤ t.cells.most → Returns 1 (height o greatest root - 1) t.cells after.cells

abbrev pub TrafficOfATraversal : Type 0
TrafficOfATraversal = (o : Outlook) (walked : Place → Bool) (greatest : ℕ) (t after : Tokens) → IsDim o.axes → Grown o walked greatest → stack_count t.vertices ≡ 10 → stack_count t.cells ≡ 2 → traverse o greatest t ≡ Some after
    → HasMovedAll o greatest t after

-- Over a traversal no count of the vertices rises by more than 2^d for each cell and for the root, and none of the cells by
-- more than one for each cell.
pub record RisesInAll (o : Outlook) (greatest : ℕ) (t after : Tokens) : Type 0 where
  pub vertices : RaisesCounts t.vertices after.vertices (2 ^ o.axes * (length (entered_cells o greatest) + 1))
  pub cells : t.cells.out ≤ t.cells.most → RaisesCounts t.cells after.cells (length (entered_cells o greatest))

abbrev pub CountsOfATraversal : Type 0
CountsOfATraversal = (o : Outlook) (walked : Place → Bool) (greatest : ℕ) (t after : Tokens) → IsDim o.axes → Grown o walked greatest → stack_count t.vertices ≡ 10 → stack_count t.cells ≡ 2 → traverse o greatest t ≡ Some after
    → RisesInAll o greatest t after

-- Places that count and differ are at most as many as the walked cells below the root, each of which loads 2^d places.
abbrev pub FewVertices : Type 0
FewVertices = (o : Outlook) (walked : Place → Bool) (greatest : ℕ) (places : List Place) → IsDim o.axes → Grown o walked greatest
    → ((place : Place) → count_by (λ other. is_same other place) places ≤ 1) → AllByRecursion (λ place. o.counts place ≡ true) places
    → length places ≤ length (entered_cells o greatest)

-- all places on the stacks count
abbrev pub OnlyCounting : Outlook → Tokens → Type 0
OnlyCounting o t = (s : ℕ) → AllByRecursion (λ place. o.counts place ≡ true) (items_at t.vertices s)

-- It is kept, and so no stack is ever longer than there are walked cells below the root.
pub record KeepsCounting (o : Outlook) : Type 0 where
  pub loads : (cell : Place) (k : ℕ) (t after : Tokens) → load o cell k t ≡ Some after → OnlyCounting o t → OnlyCounting o after
  pub stores : (cell : Place) (k : ℕ) (t after : Tokens) → store o cell k t ≡ Some after → OnlyCounting o t → OnlyCounting o after
  pub walks : (levels : ℕ) (cell : Place) (t after : Tokens) → IsCell o.axes o.way cell → walk o levels cell t ≡ Some after → OnlyCounting o t → OnlyCounting o after

abbrev pub StepsKeepCounting : Type 0
StepsKeepCounting = (o : Outlook) → IsDim o.axes → KeepsCounting o

abbrev pub BeginsCounting : Type 0
BeginsCounting = (o : Outlook) (greatest : ℕ) (t : Tokens) → MayTraverse o greatest t → OnlyCounting o (begun o t)

abbrev pub StacksAreShort : Type 0
StacksAreShort = (o : Outlook) (walked : Place → Bool) (greatest : ℕ) (t : Tokens) → IsDim o.axes → Grown o walked greatest → IsApart o t → OnlyCounting o t
    → (s : ℕ) → len_at t.vertices s ≤ length (entered_cells o greatest)

-- the vertices that count, in the order of their first loads
abbrev pub first_vertices : Outlook → ℕ → List Place
first_vertices o greatest = map (λ touch. touch.vertex) (filter (λ touch. o.counts touch.vertex && is_none (stack_in o.axes o.way touch.vertex touch.cell)) (loads_of o greatest root))

-- Each vertex that counts is among them once, and no other is.
abbrev pub FirstVerticesCount : Type 0
FirstVerticesCount = (o : Outlook) (walked : Place → Bool) (greatest : ℕ) (vertex : Place) → IsDim o.axes → Grown o walked greatest
    → count_by (λ other. is_same other vertex) (first_vertices o greatest) ≡ (if o.counts vertex then 1 else 0)

-- how often a vertex crosses an axis on the stack of a parity
abbrev pub crosses_on : ℕ → ℕ → ℕ → Place → ℕ
crosses_on axes axis parity vertex = if slice_index vertex.pos axis % 2 == parity then crossings axes vertex axis else 0

-- So a stack of an axis and a parity is popped, and pushed, as often as the vertices that count cross the axis there.
pub record CrossedOn (o : Outlook) (greatest axis parity : ℕ) : Type 0 where
  pub pops : count_by (takes_from o (2 * axis + parity)) (loads_of o greatest root) ≡ sum_by (crosses_on o.axes axis parity) (first_vertices o greatest)
  pub pushes : count_by (gives_to o (2 * axis + parity)) (stores_of o greatest root) ≡ sum_by (crosses_on o.axes axis parity) (first_vertices o greatest)

abbrev pub TrafficIsCrossings : Type 0
TrafficIsCrossings = (o : Outlook) (walked : Place → Bool) (greatest axis parity : ℕ) → IsDim o.axes → Grown o walked greatest → axis < o.axes → parity < 2 → CrossedOn o greatest axis parity

-- Hanging vertices are loaded for all corners of the walked cells but those of the vertices that count.
abbrev pub HangingLoads : Type 0
HangingLoads = (o : Outlook) (walked : Place → Bool) (greatest : ℕ) → IsDim o.axes → Grown o walked greatest
    → count_by (λ touch. not (o.counts touch.vertex)) (loads_of o greatest root) + 2 ^ o.axes * length (first_vertices o greatest) ≡ 2 ^ o.axes * length (walked_cells o.axes o.way o.walks greatest root)
