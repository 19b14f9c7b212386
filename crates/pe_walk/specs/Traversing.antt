-- A traversal of a grid that depots hold, and how its answer follows the walk by address.
--
--     Ok           the walk is done: the depots hold the grid that comes next, and its tally is answered, which tells the traffic
--     halted       the walk halts by this very cause
--     unwritten    a part of its text was added, and the sink failed
--     wanting      a part of its text was added; of a mapping that is sure, some stack lacked room
use Rattle.std.specs.Prelude.{◌≡◌, ◌≢◌, ◌⊎◌, ℕ, ◌+◌, ◌*◌, ◌^◌, ◌<◌, ◌≤◌, Bool, true, not, [], if◌then◌else◌, Result, Ok, Err}
use Rattle.pe_base.specs.Limits.{most_cells, most_traversals}
use Rattle.pe_base.specs.declared.tally.Tally.{Tally}
use Rattle.pe_base.specs.Walk.Course.{done, halts, Course}
use Rattle.pe_base.specs.Walk.Core.{Setting}
use Rattle.pe_base.specs.Walk.Working.{no_tally}
use Rattle.pe_base.specs.Walk.Grids.{Grid, IsWellFormed}
use Rattle.pe_stacks.specs.declared.record.Vertex.{Vertex}
use Rattle.pe_stacks.specs.declared.record.CellRec.{CellRec}
use Rattle.pe_stacks.specs.declared.grid.Grid.{Grid as Handle}
use Rattle.pe_stacks.specs.Holdings.{Holdings, stack_count, items_at, RaisesCounts}
use Rattle.pe_stacks.specs.Grid.{input_stack, cell_input_stack}
use Rattle.pe_mapping.specs.Held.{Held}
use Rattle.pe_base.specs.Calls.Told.{Told, AddsPart, FailsToTell}
use Rattle.pe_stacks.specs.Sights.{Numbers}
use Rattle.pe_base.specs.Calls.Follows.{BeforeCall, Failure, halted, unwritten, wanting, unheard_of, Does}
use Rattle.pe_walk.specs.Gridded.{HoldsGrid, size}
use Rattle.pe_order.specs.Outlooks.{IsNew, outlook}
use Rattle.pe_order.specs.FewCells.{most_cells as most_by_vertices}
use Rattle.pe_order.specs.Tallies.{ExactTraffic}
use Rattle.pe_walk.specs.InHand.{machine_between}

-- what depots hold
pub record Stores (V C : Type 0) : Type 0 where
  pub vertices : Holdings (Vertex V)
  pub cells : Holdings (CellRec C)

-- depots and a handle hold a grid
pub record HoldIt {Plan V C : Type 0} (numbers : Numbers V C) (mapping : Held Plan) (depots : Stores V C) (handle : Handle C) (grid : Grid) : Type 0 where
  pub axes : handle.dim ≡ grid.axes
  pub finished : handle.finished ≡ grid.finished
  pub holds : HoldsGrid grid handle.swapped (machine_between numbers depots.vertices depots.cells handle.root mapping.list (no_tally 0))

-- a handle after one more traversal: its output is now the input
pub record IsAdvanced {C : Type 0} (old new : Handle C) : Type 0 where
  pub dim : new.dim ≡ old.dim
  pub finished : new.finished ≡ old.finished + 1
  pub swapped : new.swapped ≡ not old.swapped

-- a grid that may be traversed, as it is held
pub record MayTraverse {Plan V C : Type 0} (numbers : Numbers V C) (mapping : Held Plan) (levels : ℕ) (depots : Stores V C) (handle : Handle C) (grid : Grid) : Type 0 where
  pub greatest : grid.greatest ≡ levels
  pub formed : IsNew grid ⊎ IsWellFormed grid
  pub holds : HoldIt numbers mapping depots handle grid

-- a depot of some stacks holds nothing
pub record HoldsNothing {X : Type 0} (stacks : ℕ) (held : Holdings X) : Type 0 where
  pub count : stack_count held ≡ stacks
  pub none_out : held.out ≡ 0
  pub items : (s : ℕ) → items_at held s ≡ []

-- depots and a handle hold some grid that may be traversed
abbrev pub HoldAGrid : {Plan V C : Type 0} → Numbers V C → Held Plan → ℕ → Stores V C → Handle C → Type 0
HoldAGrid numbers mapping levels depots handle = (grid : Grid) × MayTraverse numbers mapping levels depots handle grid

-- Some stack, which is no input, holds fewer records without asking for memory than the traversal walks cells, and than it
-- may have corners.
pub record LacksRoom {Plan : Type 0} (set : Setting Plan) (grid : Grid) (swapped : Bool) (found : BeforeCall) : Type 0 where
  pub of_cell : Bool
  pub stack : ℕ
  pub there : stack < (if of_cell then 2 else 10)
  pub apart : stack ≢ (if of_cell then cell_input_stack swapped else input_stack swapped)
  pub within : (if of_cell then found.cells stack else found.vertices stack) < size set.start_level grid
  pub few : (if of_cell then found.cells stack else found.vertices stack) < 2 ^ set.axes * set.max_cells

-- The walk is done with this grid, and the depots hold it. They have moved just what the tally counts, and the cells are no
-- more than the vertices allow. No count rises by more than 64 for each cell, and once more.
pub record Traverses {Plan V C : Type 0} (numbers : Numbers V C) (set : Setting Plan) (grid : Grid) (swapped : Bool) (course : Course (Grid × Tally)) (told : Told) (before : Stores V C) (mapping : Held Plan) (after : Stores V C) (answer : Handle C × Tally) : Type 0 where
  pub next : Grid
  pub does : Does course (done (next, answer.1)) told mapping.told
  pub formed : IsWellFormed next
  pub greatest : next.greatest ≡ grid.greatest
  pub holds : HoldIt numbers mapping after answer.0 next
  pub traffic : ExactTraffic (outlook set.start_level grid swapped) grid.greatest before.vertices after.vertices before.cells after.cells answer.1
  pub few : answer.1.cells ≤ most_by_vertices grid.axes (answer.1.read + answer.1.created)
  pub rises : RaisesCounts before.vertices after.vertices (64 * (answer.1.cells + 1))
  pub cells_rise : RaisesCounts before.cells after.cells (64 * (answer.1.cells + 1))

-- a part of the text was added, and there was no memory
pub record WantsRoom {Plan : Type 0} (set : Setting Plan) (grid : Grid) (swapped : Bool) (course : Course (Grid × Tally)) (old : BeforeCall) (new : Told) : Type 0 where
  pub told : AddsPart old.told course.text new
  pub room : old.sure ≡ true → LacksRoom set grid swapped old

-- how far a traversal raises the counts of a depot at most: by 64 for each cell that may be walked, and once more
abbrev pub most_rise : ℕ
most_rise = 64 * (most_cells + 1)

-- So the counts of depots that were new are within what a traversal asks for, for a billion traversals.
abbrev pub CountsStay : Type 0
CountsStay = (finished cells : ℕ) → finished ≤ most_traversals → cells ≤ most_cells
    → (most_rise * finished ≤ 2 ^ 60) × (most_rise * finished + 64 * (cells + 1) ≤ most_rise * (finished + 1))

abbrev pub Answers : {Plan V C : Type 0} → Numbers V C → Setting Plan → Grid → Bool → Course (Grid × Tally) → Result (Handle C × Tally) Failure → BeforeCall → Stores V C → Held Plan → Stores V C → Type 0
Answers numbers set grid swapped course (Ok answer) old before mapping after = Traverses numbers set grid swapped course old.told before mapping after answer
Answers numbers set grid swapped course (Err (halted cause)) old before mapping after = Does course (halts cause) old.told mapping.told
Answers numbers set grid swapped course (Err unwritten) old before mapping after = FailsToTell course.text old.told mapping.told
Answers numbers set grid swapped course (Err wanting) old before mapping after = WantsRoom set grid swapped course old mapping.told
Answers numbers set grid swapped course (Err unheard_of) old before mapping after = ⊥
