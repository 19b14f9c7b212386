-- Pieces of the machine's walk of a cell, as calls do them.
use Rattle.std.specs.Prelude.{◌≡◌, ℕ, ℤ, List, ◌+◌, ◌≤◌, Bool, if◌then◌else◌, Result, is_err}
use Rattle.pe_base.specs.declared.place.Place.{Place}
use Rattle.pe_base.specs.declared.event.Event.TheVariants.{BeginIteration, EndIteration}
use Rattle.pe_base.specs.Tree.Places.{root}
use Rattle.pe_base.specs.Tree.Curve.{children}
use Rattle.pe_base.specs.Acts.Effects.{VertexRecord, Rules}
use Rattle.pe_base.specs.Walk.Course.{Course, and_then, course_map, each}
use Rattle.pe_base.specs.Walk.Core.{Setting, way, Family, Own}
use Rattle.pe_base.specs.Walk.Touches.{kind_below}
use Rattle.pe_stacks.specs.declared.record.Vertex.{Vertex}
use Rattle.pe_stacks.specs.declared.record.CellRec.{CellRec}
use Rattle.pe_stacks.specs.Corners.{CornerList, IsFull}
use Rattle.pe_stacks.specs.Holdings.{Holdings}
use Rattle.pe_mapping.specs.Held.{Held, found_of}
use Rattle.pe_stacks.specs.Sights.{Numbers}
use Rattle.pe_hang.specs.InHand.{cells_on_stacks, Stays}
use Rattle.pe_base.specs.Calls.Follows.{BeforeCall, Follows, Fits, read_by}
use Rattle.pe_stacks.specs.RecordsOut.{RecordsOut, held_by}
use Rattle.pe_adapt.specs.declared.stop.Inner.{Inner}
use Rattle.pe_adapt.specs.declared.settings.Settings.{Settings}
use Rattle.pe_adapt.specs.declared.progress.Progress.{Progress}
use Rattle.pe_adapt.specs.WalkedCells.{setting_in, machine_in_hand, failure_in}
use Rattle.pe_adapt.specs.CountedTouches.{Machine, StreamStacks}
use Rattle.pe_walk.specs.Machine.{enter_cell, leave_cell, inside, outside, if_walked, walk_cell, plain}

module _ {Plan : Type 0} (set : Setting Plan) (streams : StreamStacks) where
  -- the walks of the children of a cell
  abbrev pub walk_children : ℕ → Place → Machine → Course Machine
  walk_children levels cell = each (walk_cell set streams levels) (children set.axes (way set) cell)

  -- and whether there are any, by the cell's corners in hand
  abbrev pub walk_below : ℕ → Place → Own × Machine → Course (Own × Machine)
  walk_below levels cell it =
      if_walked set streams (kind_below it.0.corners) (λ it. course_map (outside set streams it.1) (walk_children levels cell (inside set streams it.0 it.1))) it

  -- a cell is entered, and left when its children are walked
  abbrev pub visit_cell : ℕ → Place → List VertexRecord → Machine → Course (List VertexRecord × Machine)
  visit_cell levels cell corners m =
      and_then (enter_cell set streams cell corners m) (λ it. and_then (walk_below levels cell it) (leave_cell set streams cell))

  -- between a traversal's first event and its last
  abbrev pub walk_root : ℕ → Machine → Course Machine
  walk_root greatest m =
      and_then (plain set streams BeginIteration m) (λ m. and_then (walk_children greatest root m) (plain set streams EndIteration))

-- with these vertices on stacks, and this list of the mapping
abbrev pub with_vertices : Holdings VertexRecord → List ℤ → Machine → Machine
with_vertices vertices list m = record m { vertices = vertices; family = record m.family { list = list } }

-- with these parents, and the mapping's list as it is
abbrev pub with_family : Family → Machine → Machine
with_family outer m = record m { family = record { parents = outer.parents; parent = outer.parent; list = m.family.list } }

-- No more cells are made than are counted, in the call or ahead of it; and no more are counted than may be walked, but for
-- the one that halts a walk.
pub record CountsCells {X : Type 0} (most ahead : ℕ) (old : Progress) (held : Holdings X) (new : Progress) (held' : Holdings X) (failed : Bool) : Type 0 where
  pub made : held'.fresh + old.tally.cells ≤ held.fresh + new.tally.cells + ahead
  pub few : new.tally.cells ≤ most + (if failed then 1 else 0)

-- what a call that walks cells has in hand, and both depots with their room
pub record Hands (Plan V C : Type 0) : Type 0 where
  pub held : Held Plan
  pub vertices : Holdings (Vertex V)
  pub room : ℕ → ℕ
  pub cells : Holdings (CellRec C)
  pub cell_room : ℕ → ℕ
  pub parents : CornerList (Vertex V)
  pub parent : CellRec C
  pub progress : Progress

abbrev pub hands_of : {Plan V C : Type 0} → Held Plan → Holdings (Vertex V) → (ℕ → ℕ) → Holdings (CellRec C) → (ℕ → ℕ) → CornerList (Vertex V) → CellRec C → Progress → Hands Plan V C
hands_of held vertices room cells cell_room parents parent progress =
    record { held = held; vertices = vertices; room = room; cells = cells; cell_room = cell_room; parents = parents; parent = parent; progress = progress }

abbrev pub machine_of : {Plan V C : Type 0} → Numbers V C → Hands Plan V C → Machine
machine_of numbers hands = machine_in_hand numbers hands.vertices (cells_on_stacks numbers hands.cells) hands.parents hands.parent hands.held.list hands.progress.tally

abbrev pub found_in : {Plan V C : Type 0} → Hands Plan V C → BeforeCall
found_in hands = found_of hands.held (held_by hands.vertices hands.room) (held_by hands.cells hands.cell_room)

-- A call may walk cells as the machine walks them: they are of a level, or so many levels below it at most.
pub record MayWalkCells {Plan V C X : Type 0} (rules : Rules Plan) (numbers : Numbers V C) (settings : Settings) (level below : ℕ) (course : Setting Plan → Machine → Course X) (hands : Hands Plan V C) : Type 0 where
  pub dim : hands.held.dim ≡ settings.setup.dim
  pub levels : level + below ≤ 20
  pub full : IsFull hands.held.dim hands.parents
  pub few : hands.progress.tally.cells ≤ settings.setup.max_cells
  pub fits : Fits (course (setting_in rules hands.held settings) (machine_of numbers hands))

-- a call does what the machine does
abbrev pub Walks : {Plan V C X : Type 0} → Rules Plan → Numbers V C → Settings → (Setting Plan → Machine → Course X) → (Machine → X) → Result (Unit {0}) Inner → Hands Plan V C → Hands Plan V C → Type 0
Walks rules numbers settings course after result old new = Follows
    (course (setting_in rules old.held settings) (machine_of numbers old)) (λ (done : Unit {0}). after (machine_of numbers new))
    (read_by (failure_in new.progress) result) (found_in old) new.held.told

-- What a call that walks cells leaves, whatever its answer: no other record is out or in, no more cells are made than are counted,
-- so many of them ahead of the call, and what no event changes stays.
pub record WalkLeft {Plan V C : Type 0} (numbers : Numbers V C) (settings : Settings) (ahead : ℕ) (result : Result (Unit {0}) Inner) (old new : Hands Plan V C) : Type 0 where
  pub vertices : RecordsOut 0 0 old.vertices old.room new.vertices new.room (is_err result)
  pub cells : RecordsOut 0 0 old.cells old.cell_room new.cells new.cell_room (is_err result)
  pub counts : CountsCells settings.setup.max_cells ahead old.progress old.cells new.progress new.cells (is_err result)
  pub stays : Stays numbers.vertex old.held new.held old.parents new.parents
