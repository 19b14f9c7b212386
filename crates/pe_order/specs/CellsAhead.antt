-- The cells of a walk differ: so those that are still to be entered lie where they lay as the traversal began.
use Rattle.std.specs.Prelude.{◌≡◌, ℕ, Bool, ◌-◌, ◌<◌, ◌≤◌, count_by, List, ◌∷◌, ◌++◌, if◌then◌else◌, Some}
use Rattle.std.specs.List.{flat_map}
use Rattle.pe_base.specs.declared.place.Place.{Place}
use Rattle.pe_base.specs.Tree.Dim.{IsDim}
use Rattle.pe_base.specs.Tree.Places.{root, is_same}
use Rattle.pe_base.specs.Tree.Curve.{children}
use Rattle.pe_base.specs.Walk.Streams.{walked_cells}
use Rattle.pe_order.specs.Laws.{IsCell}
use Rattle.pe_order.specs.Tokens.{Outlook, Tokens, load, store, enter, leave, walk, begun}
use Rattle.pe_order.specs.Takings.{Grown, MayTraverse}
use Rattle.pe_order.specs.Apart.{lies}

-- how often a place stands in a list
abbrev pub times : List Place → Place → ℕ
times places place = count_by (λ other. is_same other place) places

-- the cells of the walks of a cell's children
abbrev pub cells_below : Outlook → ℕ → Place → List Place
cells_below o levels cell = flat_map (walked_cells o.axes o.way o.walks levels) (children o.axes o.way cell)

-- The cells of the walk of a cell differ, and none lies above the cell. So do those of the walks of its children.
pub record CellsDiffer (o : Outlook) (levels : ℕ) (cell : Place) : Type 0 where
  pub once : (x : Place) → times (walked_cells o.axes o.way o.walks levels cell) x ≤ 1
  pub none_above : (x : Place) → x.level < cell.level → times (walked_cells o.axes o.way o.walks levels cell) x ≡ 0
  pub once_below : (x : Place) → times (cells_below o levels cell) x ≤ 1
  pub deeper : (x : Place) → x.level ≤ cell.level → times (cells_below o levels cell) x ≡ 0

abbrev pub WalkedCellsDiffer : Type 0
WalkedCellsDiffer = (o : Outlook) (levels : ℕ) (cell : Place) → IsDim o.axes → IsCell o.axes o.way cell → CellsDiffer o levels cell

-- The cells that are still to be entered differ, and lie on the stacks once if they are read, and else nowhere.
pub record CellsAhead (o : Outlook) (ahead : List Place) (t : Tokens) : Type 0 where
  pub once : (x : Place) → times ahead x ≤ 1
  pub lie : (x : Place) → 1 ≤ times ahead x → lies t.cells x ≡ (if o.reads_cell x then 1 else 0)

-- Each move keeps it. A cell that is entered is on no stack, and may be left when no cell that is the same is ahead.
pub record KeepsAhead (o : Outlook) : Type 0 where
  pub loads : (cell : Place) (k : ℕ) (ahead : List Place) (t after : Tokens) → load o cell k t ≡ Some after → CellsAhead o ahead t → CellsAhead o ahead after
  pub stores : (cell : Place) (k : ℕ) (ahead : List Place) (t after : Tokens) → store o cell k t ≡ Some after → CellsAhead o ahead t → CellsAhead o ahead after
  pub enters : (cell : Place) (ahead : List Place) (t after : Tokens) → enter o cell t ≡ Some after → CellsAhead o (cell ∷ ahead) t
      → CellsAhead o ahead after × (lies after.cells cell ≡ 0) × (times ahead cell ≡ 0)
  pub leaves : (cell : Place) (ahead : List Place) (t after : Tokens) → leave o cell t ≡ Some after → times ahead cell ≡ 0 → CellsAhead o ahead t → CellsAhead o ahead after
  pub walks : (levels : ℕ) (cell : Place) (ahead : List Place) (t after : Tokens) → walk o levels cell t ≡ Some after
      → CellsAhead o (walked_cells o.axes o.way o.walks levels cell ++ ahead) t → CellsAhead o ahead after

abbrev pub StepsKeepAhead : Type 0
StepsKeepAhead = (o : Outlook) → KeepsAhead o

-- As a traversal begins, all cells but the root are ahead.
abbrev pub BeginsAhead : Type 0
BeginsAhead = (o : Outlook) (walked : Place → Bool) (greatest : ℕ) (t : Tokens) → IsDim o.axes → Grown o walked greatest → MayTraverse o greatest t
    → CellsAhead o (cells_below o (greatest - 1) root) (begun o t)

-- The walk of a cell moves no cells but its own.
abbrev pub MovesItsCells : Type 0
MovesItsCells = (o : Outlook) (levels : ℕ) (cell x : Place) (t after : Tokens) → walk o levels cell t ≡ Some after → times (walked_cells o.axes o.way o.walks levels cell) x ≡ 0 → lies after.cells x ≡ lies t.cells x
