-- The law of a face: the walk of a cell with all below it, on stacks, is the walk by address. What arrives at the cell's faces
-- comes off their stacks, and what leaves at its faces goes on them; so with the streams; all beneath is as it was.
use Rattle.std.specs.Prelude.{◌≡◌, ◌≢◌, ℕ, suc, ◌+◌, ◌*◌, ◌^◌, ◌<◌, ◌≤◌, Bool, true, false, List, [], ◌∷◌, ◌++◌, if◌then◌else◌, Result, Ok, Err}
use Rattle.std.specs.List.{AllByRecursion, flat_map}
use Rattle.pe_base.specs.declared.place.Place.{Place}
use Rattle.pe_base.specs.declared.place.Digits.{Digits}
use Rattle.pe_base.specs.declared.event.Event.TheVariants.{BeginIteration}
use Rattle.pe_base.specs.declared.tally.Tally.{Tally}
use Rattle.pe_base.specs.Tree.Places.{IsCellPlace, IsDigits, root, child_at, parent_of}
use Rattle.pe_base.specs.Tree.Ways.{way_of}
use Rattle.pe_base.specs.Tree.Curve.{children}
use Rattle.pe_base.specs.Life.Kinds.{is_hanging}
use Rattle.pe_base.specs.Walk.Course.{Ending, done, halts, stuck, Push, Course, and_then, each}
use Rattle.pe_base.specs.Walk.Core.{Setting, Own, way}
use Rattle.pe_base.specs.Walk.Grids.{Grid}
use Rattle.pe_base.specs.Walk.Working.{Working}
use Rattle.pe_base.specs.Walk.Streams.{walked_cells}
use Rattle.pe_base.specs.Walk.Touches.{kind_below}
use Rattle.pe_base.specs.Walk.Walk as model
use Rattle.pe_access.specs.declared.state.CellState.{CellState}
use Rattle.pe_access.specs.States.{StandsFor}
use Rattle.pe_stacks.specs.Grid.{input_stack, cell_input_stack}
use Rattle.pe_base.specs.Calls.Told.{Told, AddsPart, FailsToTell}
use Rattle.pe_base.specs.Acts.Moments.{IsTraversal}
use Rattle.pe_base.specs.Calls.Follows.{BeforeCall, Failure, halted, unwritten, wanting, unheard_of, IsOverfull, Does}
use Rattle.pe_adapt.specs.CountedTouches.{Machine, StreamStacks}
use Rattle.pe_walk.specs.Machine.{with_parents}
use Rattle.pe_walk.specs.Machine as machine
use Rattle.pe_order.specs.Tokens.{Tokens}
use Rattle.pe_order.specs.Takings.{loads_of, takes, gives, cell_takes, cell_gives, met_after, Due, MayBegin, HasEnded}
use Rattle.pe_walk.specs.Standing.{ForeseenStart, Stage, Holds, IsForeseenStart, IsStage}
use Rattle.pe_walk.specs.Images.{image_of}
use Rattle.pe_walk.specs.Gridded.{MachineMayTraverse, stream_stacks_of}
use Rattle.pe_order.specs.CellTraffic.{CellTraffic, CountsAreFew}
use Rattle.pe_walk.specs.Traversing.{Stores}

-- Where a traversal stands as a cell is to be walked: what is fixed for it, which cells are walked, the stage, how many
-- levels may be below the cell, which cells are ahead afterwards, what lies beneath on each stack, the working state by
-- address, and the places on stacks.
pub record Moment : Type 0 where
  pub foreseen_start : ForeseenStart
  pub walked : Place → Bool
  pub stage : Stage
  pub levels : ℕ
  pub rest : List Place
  pub beneath : ℕ → List Place
  pub cells_beneath : ℕ → List Place
  pub working : Working
  pub places : Tokens

-- The cell may be walked: the machine is the image of the working state and of the places, which have what the cell takes on
-- top of each stack.
pub record MayWalk {Plan : Type 0} (set : Setting Plan) (at : Moment) (m : Machine) : Type 0 where
  pub foreseen_start : IsForeseenStart set at.foreseen_start at.walked
  pub stage : IsStage set.axes at.foreseen_start.outlook at.stage
  pub unloaded : at.stage.from ≡ 2 ^ set.axes
  pub deep : set.rules.greatest set.plan ≤ at.stage.cell.level + at.levels
  pub ahead : at.stage.ahead ≡ walked_cells at.foreseen_start.outlook.axes at.foreseen_start.outlook.way at.foreseen_start.outlook.walks at.levels at.stage.cell ++ at.rest
  pub holds : Holds set at.foreseen_start at.stage at.working at.places
  pub takes : MayBegin at.foreseen_start.outlook at.levels at.stage.cell at.beneath at.cells_beneath at.places
  pub image : image_of set at.foreseen_start at.stage.parent at.working at.places ≡ m

-- It was walked, and left this working state: the machine is its image again, with what the cell gives on top of each stack.
pub record HasWalked {Plan : Type 0} (set : Setting Plan) (at : Moment) (working : Working) (m : Machine) : Type 0 where
  pub places : Tokens
  pub holds : Holds set at.foreseen_start (record at.stage { ahead = at.rest }) working places
  pub gives : HasEnded at.foreseen_start.outlook at.levels at.stage.cell at.beneath at.cells_beneath at.places places
  pub image : image_of set at.foreseen_start at.stage.parent working places ≡ m

abbrev pub CellEndsAlike : {Plan : Type 0} → Setting Plan → Moment → Ending Working → Ending Machine → Type 0
CellEndsAlike set at (done working) (done m) = HasWalked set at working m
CellEndsAlike set at (done working) (halts cause) = ⊥
CellEndsAlike set at (done working) stuck = ⊥
CellEndsAlike set at (halts cause) (done m) = ⊥
CellEndsAlike set at (halts cause) (halts other) = cause ≡ other
CellEndsAlike set at (halts cause) stuck = ⊥
CellEndsAlike set at stuck other = ⊥

-- A push of the walk of a cell is on a stack that is no input, and leaves it no longer than it was as the traversal began,
-- with the corners of as many cells as may be walked.
pub record IsBrief {Plan : Type 0} (set : Setting Plan) (at : Moment) (push : Push) : Type 0 where
  pub there : push.stack < (if push.of_cell then 2 else 10)
  pub apart : push.stack ≢ (if push.of_cell then cell_input_stack at.foreseen_start.outlook.swapped else input_stack at.foreseen_start.outlook.swapped)
  pub few : push.length ≤ (if push.of_cell then at.foreseen_start.cell_lens push.stack else at.foreseen_start.lens push.stack) + 2 ^ set.axes * set.max_cells + 1

-- the walk of a cell on stacks is the walk by address: it adds the same text, and ends alike
pub record IsCellWalked {Plan : Type 0} (set : Setting Plan) (at : Moment) (course : Course Machine) : Type 0 where
  pub text : course.text ≡ (model.walk_cell set at.levels at.stage.parent at.stage.cell at.working).text
  pub ending : CellEndsAlike set at (model.walk_cell set at.levels at.stage.parent at.stage.cell at.working).ending course.ending
  pub log : AllByRecursion (IsBrief set at) course.log

abbrev pub LawOfAFace : Type 0 → Type 0
LawOfAFace Plan = (set : Setting Plan) (at : Moment) (m : Machine) → MayWalk set at m
    → IsCellWalked set at (machine.walk_cell set (stream_stacks_of at.foreseen_start.outlook.swapped) (suc at.levels) at.stage.cell m)

-- And so it counts and moves just what its loads and stores do.
abbrev pub CellsAreExact : Type 0 → Type 0
CellsAreExact Plan = (set : Setting Plan) (at : Moment) (m after : Machine) → MayWalk set at m
    → (machine.walk_cell set (stream_stacks_of at.foreseen_start.outlook.swapped) (suc at.levels) at.stage.cell m).ending ≡ done after
    → CellTraffic at.foreseen_start.outlook at.levels at.stage.cell m.vertices after.vertices m.cells after.cells m.tally after.tally

-- # As a call does it
-- The cell is one below the root, in a traversal, with its digits in its parent.
pub record IsCalledAt (axes traversal : ℕ) (cell : Place) (digits : Digits) (state : CellState) : Type 0 where
  pub number : IsTraversal traversal
  pub place : IsCellPlace axes cell
  pub deep : 1 ≤ cell.level
  pub its_digits : IsDigits axes digits
  pub child : cell ≡ child_at (parent_of cell) digits
  pub stands : StandsFor axes (way_of traversal) cell state

-- the moment is that of these settings, at this cell, with the input stacks named
pub record IsAt (greatest : ℕ) (place : Place) (stream cell_stream : ℕ) (at : Moment) : Type 0 where
  pub cell : at.stage.cell ≡ place
  pub levels : place.level + at.levels ≡ greatest
  pub input : stream ≡ input_stack at.foreseen_start.outlook.swapped
  pub cell_input : cell_stream ≡ cell_input_stack at.foreseen_start.outlook.swapped

-- a cell may be walked at a moment, of what a call has in hand and on stacks
pub record MayCall {Plan : Type 0} (set : Setting Plan) (greatest : ℕ) (place : Place) (stream cell_stream : ℕ) (m : Machine) (at : Moment) : Type 0 where
  pub here : IsAt greatest place stream cell_stream at
  pub may : MayWalk set at m

-- The walk is done, and left this machine; the depots have moved just what is counted.
pub record WalksCell {Plan V C : Type 0} (set : Setting Plan) (at : Moment) (course : Course Working) (old new : Told) (before : Stores V C) (tally : Tally) (after : Stores V C) (m : Machine) : Type 0 where
  pub working : Working
  pub does : Does course (done working) old new
  pub walked : HasWalked set at working m
  pub traffic : CellTraffic at.foreseen_start.outlook at.levels at.stage.cell before.vertices after.vertices before.cells after.cells tally m.tally
  pub few : CountsAreFew set.max_cells m.tally after.vertices after.cells

-- a part of the text was added, and there was no memory: of a mapping that is sure, some push had no room
pub record WantsBriefRoom {Plan : Type 0} (set : Setting Plan) (at : Moment) (course : Course Working) (old : BeforeCall) (new : Told) : Type 0 where
  pub told : AddsPart old.told course.text new
  pub room : old.sure ≡ true → (push : Push) × IsBrief set at push × IsOverfull old push

abbrev pub CellAnswers : {Plan A V C : Type 0} → Setting Plan → Moment → Course Working → Result A Failure → BeforeCall → Stores V C → Tally → Told → Stores V C → Machine → Type 0
CellAnswers set at course (Ok it) old before tally new after m = WalksCell set at course old.told new before tally after m
CellAnswers set at course (Err (halted cause)) old before tally new after m = Does course (halts cause) old.told new
CellAnswers set at course (Err unwritten) old before tally new after m = FailsToTell course.text old.told new
CellAnswers set at course (Err wanting) old before tally new after m = WantsBriefRoom set at course old new
CellAnswers set at course (Err unheard_of) old before tally new after m = ⊥

-- the walk of the cell by address, at a moment
abbrev pub by_address : {Plan : Type 0} → Setting Plan → Moment → Course Working
by_address set at = model.walk_cell set at.levels at.stage.parent at.stage.cell at.working

-- # The children of a cell, one after another
-- a traversal of the machine up to its first event: the root's corners are lent, and are in hand
abbrev pub begins : {Plan : Type 0} → Setting Plan → StreamStacks → Machine → Course Machine
begins set streams m = and_then (machine.root_corners set streams (2 ^ set.axes) [] m) (λ it. machine.plain set streams BeginIteration (with_parents it.0 it.1))

-- Each of these cells finds what it takes on top of a stack, where those before it have put there what they give.
abbrev pub InTurn : (Place → List Place) → (Place → List Place) → List Place → List Place → Type 0
InTurn takes gives [] items = Unit {0}
InTurn takes gives (cell ∷ cells) items = (beneath : List Place) × (items ≡ takes cell ++ beneath) × InTurn takes gives cells (gives cell ++ beneath)

-- These cells come after that of the moment: children of its parent like it, they are ahead after it with all below them, and
-- then those beyond; each finds on the stacks what it takes, and their loads are due.
pub record ComeAfter {Plan : Type 0} (set : Setting Plan) (others beyond : List Place) (at : Moment) : Type 0 where
  pub stages : AllByRecursion (λ other. IsStage set.axes at.foreseen_start.outlook (record at.stage { cell = other })) others
  pub ahead : at.rest ≡ flat_map (walked_cells at.foreseen_start.outlook.axes at.foreseen_start.outlook.way at.foreseen_start.outlook.walks at.levels) others ++ beyond
  pub vertices : (s : ℕ) → InTurn (takes at.foreseen_start.outlook at.levels s) (gives at.foreseen_start.outlook at.levels s) others (gives at.foreseen_start.outlook at.levels s at.stage.cell ++ at.beneath s)
  pub cells : (s : ℕ) → InTurn (cell_takes at.foreseen_start.outlook at.levels s) (cell_gives at.foreseen_start.outlook at.levels s) others (cell_gives at.foreseen_start.outlook at.levels s at.stage.cell ++ at.cells_beneath s)
  pub due : Due at.foreseen_start.outlook (flat_map (loads_of at.foreseen_start.outlook at.levels) others) (met_after at.foreseen_start.outlook (loads_of at.foreseen_start.outlook at.levels at.stage.cell) at.places.met)

-- Where a traversal may begin, and its first event is done, the first child of the root may be walked, and the others come
-- after it.
abbrev pub FirstCellMayBeWalked : Type 0 → Type 0
FirstCellMayBeWalked Plan = (set : Setting Plan) (grid : Grid) (swapped : Bool) (m after : Machine) (first : Place) (others : List Place)
    → MachineMayTraverse set grid swapped m → (begins set (stream_stacks_of swapped) m).ending ≡ done after → children set.axes (way set) root ≡ first ∷ others
    → (moment : Moment) × MayCall set grid.greatest first (input_stack swapped) (cell_input_stack swapped) after moment × ComeAfter set others [] moment

-- a cell up to its children: it is counted, its corners are loaded, and it is entered
abbrev pub enters : {Plan : Type 0} → Setting Plan → StreamStacks → Place → Machine → Course (Own × Machine)
enters set streams cell m = and_then (machine.count_cell set streams cell m) (λ m. and_then (machine.load_all set streams cell (2 ^ set.axes) [] m) (λ it. machine.enter_cell set streams cell it.0 it.1))

-- Once a cell of any level that may be walked was entered, and its corners say that its children are walked, the first of them
-- may be, with the cell's corners and numbers for those of the parent; and the others come after it, and then what was to come
-- after the cell.
abbrev pub FirstChildMayBeWalked : Type 0 → Type 0
FirstChildMayBeWalked Plan = (set : Setting Plan) (greatest stream cell_stream : ℕ) (m : Machine) (it : Own × Machine) (first : Place) (others : List Place) (at : Moment)
    → MayCall set greatest at.stage.cell stream cell_stream m at → (enters set (stream_stacks_of at.foreseen_start.outlook.swapped) at.stage.cell m).ending ≡ done it
    → is_hanging (kind_below it.0.corners) ≡ false → children set.axes (way set) at.stage.cell ≡ first ∷ others
    → (moment : Moment) × MayCall set greatest first stream cell_stream (machine.inside set (stream_stacks_of at.foreseen_start.outlook.swapped) it.0 it.1) moment × ComeAfter set others at.rest moment

-- Once a cell was walked, so may the one that comes after it.
abbrev pub NextCellMayBeWalked : Type 0 → Type 0
NextCellMayBeWalked Plan = (set : Setting Plan) (greatest stream cell_stream : ℕ) (cell next : Place) (others beyond : List Place) (m after : Machine) (working : Working) (at : Moment)
    → MayCall set greatest cell stream cell_stream m at → ComeAfter set (next ∷ others) beyond at → HasWalked set at working after
    → (moment : Moment) × MayCall set greatest next stream cell_stream after moment × ComeAfter set others beyond moment

-- a cell from its children on: it is left, and its corners are stored
abbrev pub leaves : {Plan : Type 0} → Setting Plan → StreamStacks → Place → Own × Machine → Course Machine
leaves set streams cell it = and_then (machine.leave_cell set streams cell it) (λ it. machine.store_all set streams cell 0 it.0 it.1)

-- The three parts of the walk of a cell, up to its children, of these, and from them on, are together its walk by address: they
-- add the same text, and the last ends alike.
pub record MakesTheWalk {Plan A : Type 0} (set : Setting Plan) (at : Moment) (entered : Course A) (below left : Course Machine) : Type 0 where
  pub text : entered.text ++ (below.text ++ left.text) ≡ (by_address set at).text
  pub ending : CellEndsAlike set at (by_address set at).ending left.ending

-- Once a cell that may be walked was entered, and its children were walked one after another, its corners and numbers come to
-- hand again; and as it is left, and its corners are stored, its own walk ends.
abbrev pub LastChildEndsTheCell : Type 0 → Type 0
LastChildEndsTheCell Plan = (set : Setting Plan) (at : Moment) (m walked : Machine) (it : Own × Machine) → MayWalk set at m
    → (enters set (stream_stacks_of at.foreseen_start.outlook.swapped) at.stage.cell m).ending ≡ done it → is_hanging (kind_below it.0.corners) ≡ false
    → (each (machine.walk_cell set (stream_stacks_of at.foreseen_start.outlook.swapped) at.levels) (children set.axes (way set) at.stage.cell)
    (machine.inside set (stream_stacks_of at.foreseen_start.outlook.swapped) it.0 it.1)).ending ≡ done walked
    → MakesTheWalk set at (enters set (stream_stacks_of at.foreseen_start.outlook.swapped) at.stage.cell m)
    (each (machine.walk_cell set (stream_stacks_of at.foreseen_start.outlook.swapped) at.levels) (children set.axes (way set) at.stage.cell)
    (machine.inside set (stream_stacks_of at.foreseen_start.outlook.swapped) it.0 it.1))
    (leaves set (stream_stacks_of at.foreseen_start.outlook.swapped) at.stage.cell (machine.outside set (stream_stacks_of at.foreseen_start.outlook.swapped) it.1 walked))
