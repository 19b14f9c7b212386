-- The laws of the walk over places on stacks.
--
-- They hold for each outlook that fits a walk, in two to four axes, both ways, at every depth. Which vertices count, which
-- of them are read and which are written are tests: no kinds occur.
use Rattle.std.specs.Prelude.{◌≡◌, ℕ, ◌+◌, ◌≤◌, Bool, true, List, reverse, Some}
use Rattle.pe_base.specs.declared.place.Place.{Place}
use Rattle.pe_base.specs.declared.way.Way.{Way}
use Rattle.pe_base.specs.Tree.Dim.{IsDim}
use Rattle.pe_base.specs.Tree.Places.{root}
use Rattle.pe_base.specs.Tree.Ways.{opposite}
use Rattle.pe_base.specs.Steps.Around.{around}
use Rattle.pe_base.specs.Steps.Routes.{stack_in, stack_out}
use Rattle.pe_base.specs.Steps.Faces.{touched_for}
use Rattle.pe_base.specs.Walk.Streams.{walked_cells}
use Rattle.pe_order.specs.Laws.{IsCell}
use Rattle.pe_order.specs.Tokens.{Outlook, Tokens, turned, walk, traverse}
use Rattle.pe_order.specs.Takings.{loads_of, stores_of, left_cells, reads_of, writes_of, cell_reads_of, cell_writes_of, Due, Grown, MayBegin, HasEnded, MayTraverse, HasTraversed}

-- The walk of a cell takes each place from the top of its stack, each load when it is due, and leaves its lists.
abbrev pub WalkOfACell : Type 0
WalkOfACell = (o : Outlook) (walked : Place → Bool) (greatest levels : ℕ) (cell : Place) → IsDim o.axes → Grown o walked greatest → IsCell o.axes o.way cell → greatest ≤ cell.level + levels
    → (beneath cells_beneath : ℕ → List Place) (t : Tokens) → MayBegin o levels cell beneath cells_beneath t
    → (after : Tokens) × (walk o levels cell t ≡ Some after) × HasEnded o levels cell beneath cells_beneath t after

-- Each load of a traversal is due when it comes: before it, just the cells around the vertex that come before were met.
abbrev pub LoadsAreDue : Type 0
LoadsAreDue = (o : Outlook) (walked : Place → Bool) (greatest : ℕ) → IsDim o.axes → Grown o walked greatest → Due o (loads_of o greatest root) (λ place. 0)

-- So the loads of a vertex that counts are for all cells around it, in their order.
abbrev pub LoadedAround : Type 0
LoadedAround = (o : Outlook) (walked : Place → Bool) (greatest : ℕ) (vertex : Place) → IsDim o.axes → Grown o walked greatest → o.counts vertex ≡ true
    → touched_for vertex (loads_of o greatest root) ≡ around o.axes o.way vertex

-- A traversal runs, and what it reads goes to what it writes.
abbrev pub WholeTraversal : Type 0
WholeTraversal = (o : Outlook) (walked : Place → Bool) (greatest : ℕ) (t : Tokens) → IsDim o.axes → Grown o walked greatest → MayTraverse o greatest t
    → (after : Tokens) × (traverse o greatest t ≡ Some after) × HasTraversed o greatest t after

-- Turning round: what is stored in one way, backwards, is what is loaded in the other, and so for cells; the cells around
-- a vertex are those of the other way backwards, and it goes by the stack by which it comes there. So what a walk writes,
-- the last one first, is what the other way reads.
pub record TurnsRound (o : Outlook) (levels : ℕ) (cell : Place) : Type 0 where
  pub stores : reverse (stores_of o levels cell) ≡ loads_of (turned o) levels cell
  pub cells : reverse (left_cells o levels cell) ≡ walked_cells o.axes (opposite o.way) o.walks levels cell
  pub writes : writes_of o levels cell ≡ reads_of (turned o) levels cell
  pub cell_writes : cell_writes_of o levels cell ≡ cell_reads_of (turned o) levels cell

abbrev pub TurningRound : Type 0
TurningRound = (o : Outlook) (levels : ℕ) (cell : Place) → IsDim o.axes → TurnsRound o levels cell

pub record AroundTurned (axes : ℕ) (way : Way) (vertex cell : Place) : Type 0 where
  pub cells : around axes (opposite way) vertex ≡ reverse (around axes way vertex)
  pub stack : stack_in axes (opposite way) vertex cell ≡ stack_out axes way vertex cell

abbrev pub TurningAround : Type 0
TurningAround = (axes : ℕ) (way : Way) (vertex cell : Place) → IsDim axes → AroundTurned axes way vertex cell
