-- A grid on the stacks of the machine of lists, and what a traversal makes of it.
use Rattle.std.specs.Prelude.{◌≡◌, ◌≢◌, ◌⊎◌, ℕ, ◌+◌, ◌-◌, ◌*◌, ◌^◌, ◌≤◌, ◌<◌, Bool, not, length, if◌then◌else◌}
use Rattle.std.specs.List.{flat_map, AllByRecursion}
use Rattle.pe_base.specs.declared.tally.Tally.{Tally}
use Rattle.pe_base.specs.Acts.Effects.{AreLawful}
use Rattle.pe_base.specs.Limits.{most_cells}
use Rattle.pe_base.specs.Tree.Places.{root}
use Rattle.pe_base.specs.Tree.Ways.{way_of}
use Rattle.pe_base.specs.Tree.Curve.{children}
use Rattle.pe_base.specs.Walk.Course.{Ending, done, halts, stuck, Push, Course}
use Rattle.pe_base.specs.Walk.Core.{Setting}
use Rattle.pe_base.specs.Walk.Working.{no_tally}
use Rattle.pe_base.specs.Walk.Grids.{Grid, IsWellFormed}
use Rattle.pe_base.specs.Walk.Foreseen.{next_traversal, walks}
use Rattle.pe_base.specs.Walk.Streams.{walked_cells, vertex_stream, cell_stream}
use Rattle.pe_base.specs.Walk.Walk as model
use Rattle.pe_stacks.specs.Holdings.{CountsWithin}
use Rattle.pe_stacks.specs.Grid.{input_stack, cell_input_stack}
use Rattle.pe_stacks.specs.StreamsHeld.{Streams, DepotsHold}
use Rattle.pe_adapt.specs.CountedTouches.{Machine, StreamStacks}
use Rattle.pe_walk.specs.Machine as machine
use Rattle.pe_order.specs.Outlooks.{IsNew}

-- a grid as its streams
abbrev pub streams_of : Grid → Streams
streams_of grid = record { vertices = vertex_stream grid; cells = cell_stream grid; root = grid.root; list = grid.list }

-- the machine's stacks hold a grid
abbrev pub HoldsGrid : Grid → Bool → Machine → Type 0
HoldsGrid grid swapped m = DepotsHold (streams_of grid) swapped m.vertices m.cells m.family.parent m.family.list

-- what is set fits the grid
pub record IsTraversalOf {Plan : Type 0} (set : Setting Plan) (grid : Grid) : Type 0 where
  pub lawful : AreLawful set.rules
  pub axes : set.axes ≡ grid.axes
  pub greatest : set.rules.greatest set.plan ≡ grid.greatest
  pub start_level : set.start_level ≤ grid.greatest
  pub traversal : set.traversal ≡ grid.finished + 1
  pub max_cells : set.max_cells ≤ most_cells

-- a traversal may begin
pub record MachineMayTraverse {Plan : Type 0} (set : Setting Plan) (grid : Grid) (swapped : Bool) (m : Machine) : Type 0 where
  pub fits : IsTraversalOf set grid
  pub formed : IsNew grid ⊎ IsWellFormed grid
  pub holds : HoldsGrid grid swapped m
  pub counts : CountsWithin m.vertices (2 ^ 60)
  pub cell_counts : CountsWithin m.cells (2 ^ 60)
  pub tally : m.tally ≡ no_tally set.traversal

-- what a traversal leaves: the next grid on the stacks, with input and output exchanged, and the same tally
pub record MachineHasTraversed (swapped : Bool) (after : Grid × Tally) (m : Machine) : Type 0 where
  pub formed : IsWellFormed after.0
  pub holds : HoldsGrid after.0 (not swapped) m
  pub tally : m.tally ≡ after.1

-- model and machine end alike
abbrev pub EndAlike : Bool → Ending (Grid × Tally) → Ending Machine → Type 0
EndAlike swapped (done after) (done m) = MachineHasTraversed swapped after m
EndAlike swapped (done after) (halts cause) = ⊥
EndAlike swapped (done after) stuck = ⊥
EndAlike swapped (halts cause) (done m) = ⊥
EndAlike swapped (halts cause) (halts other) = cause ≡ other
EndAlike swapped (halts cause) stuck = ⊥
EndAlike swapped stuck other = ⊥

-- how many cells a traversal of a grid walks, if nothing halts it
abbrev pub size : ℕ → Grid → ℕ
size start_level grid = length (flat_map (walked_cells grid.axes (way_of (next_traversal grid)) (walks start_level grid) (grid.greatest - 1)) (children grid.axes (way_of (next_traversal grid)) root))

-- A push of a traversal is on a stack that is no input, and its stack is no longer afterwards than the traversal has cells, nor than it may
-- have corners.
pub record IsShort {Plan : Type 0} (set : Setting Plan) (grid : Grid) (swapped : Bool) (push : Push) : Type 0 where
  pub there : push.stack < (if push.of_cell then 2 else 10)
  pub apart : push.stack ≢ (if push.of_cell then cell_input_stack swapped else input_stack swapped)
  pub within : push.length ≤ size set.start_level grid
  pub few : push.length ≤ 2 ^ set.axes * set.max_cells

-- A traversal on stacks is the walk by address: it adds the same text, and ends alike.
pub record IsWalked {Plan : Type 0} (set : Setting Plan) (grid : Grid) (swapped : Bool) (course : Course Machine) : Type 0 where
  pub text : course.text ≡ (model.traverse set grid).text
  pub ending : EndAlike swapped (model.traverse set grid).ending course.ending
  pub log : AllByRecursion (IsShort set grid swapped) course.log

abbrev pub stream_stacks_of : Bool → StreamStacks
stream_stacks_of swapped = record { input = input_stack swapped; cell_input = cell_input_stack swapped }

abbrev pub StacksAreAddresses : Type 0 → Type 0
StacksAreAddresses Plan = (set : Setting Plan) (grid : Grid) (swapped : Bool) (m : Machine) → MachineMayTraverse set grid swapped m
    → IsWalked set grid swapped (machine.traverse set (stream_stacks_of swapped) grid.greatest m)
