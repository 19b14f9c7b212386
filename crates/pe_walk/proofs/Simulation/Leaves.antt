-- The steps of a walk that the simulation rests on, as statements: at each stage the machine is the image of the working
-- state and of the places on stacks, and what holds at the stage holds at the next.
use Rattle.std.specs.Prelude.{◌≡◌, ℕ, suc, ◌+◌, ◌-◌, ◌^◌, ◌<◌, ◌≤◌, List, [], ◌∷◌, ◌++◌, map, Some}
use Rattle.std.specs.List.{range_with_len, flat_map}
use Rattle.pe_base.specs.declared.place.Place.{Place}
use Rattle.pe_base.specs.declared.event.Event.{Event}
use Rattle.pe_base.specs.declared.event.Event.TheVariants.{BeginIteration, EndIteration}
use Rattle.pe_base.specs.Tree.Places.{root}
use Rattle.pe_base.specs.Tree.Curve.{children}
use Rattle.pe_base.specs.Acts.Effects.{VertexRecord}
use Rattle.pe_base.specs.Walk.Course.{Push, Course, at_once, and_then, course_map, each}
use Rattle.pe_base.specs.Walk.Core.{Setting, Own, way}
use Rattle.pe_base.specs.Walk.Working.{Working, record_at, own_of}
use Rattle.pe_base.specs.Walk.Touches as model
use Rattle.pe_base.specs.Walk.Walk as walks
use Rattle.pe_base.specs.Walk.Streams.{walked_cells}
use Rattle.pe_adapt.specs.CountedTouches.{Machine, StreamStacks}
use Rattle.pe_adapt.specs.CountedTouches as counted
use Rattle.pe_walk.specs.Machine as machine
use Rattle.pe_order.specs.Tokens.{Tokens, each_some}
use Rattle.pe_walk.specs.Gridded.{stream_stacks_of}
use Rattle.pe_order.specs.Tokens as tokens
use Rattle.pe_walk.specs.Standing.{ForeseenStart, Stage, per_cell, Holds, IsStage}
pub use Rattle.pe_walk.specs.Images.{record_of, image_of}
use Rattle.pe_walk.proofs.Simulation.Matching.{Sim}

-- # The stages one after another
abbrev pub after_count : ℕ → Stage → Stage
after_count axes st = record st { owed = st.owed + per_cell; unstored = st.unstored + 2 ^ axes; counted = st.counted + 1 }

abbrev pub after_load : ℕ → Stage → Stage
after_load k st = record st { from = k; owed = st.owed - 1 }

abbrev pub after_enter : List Place → Stage → Stage
after_enter rest st = record st { owed = st.owed - 1; counted = st.counted - 1; entered = st.cell ∷ st.entered; ahead = rest }

abbrev pub after_leave : List Place → Stage → Stage
after_leave outer st = record st { owed = st.owed - 1; entered = outer }

abbrev pub after_store : ℕ → Stage → Stage
after_store k st = record st { from = k + 1; owed = st.owed - 1; unstored = st.unstored - 1 }

module _ {Plan : Type 0} (set : Setting Plan) (e : ForeseenStart) where
  -- some corners of a cell, from a number on
  abbrev pub records_from : Working → Place → ℕ → ℕ → List VertexRecord
  records_from w cell from n = map (record_at set.axes w cell) (range_with_len from n)

  -- with the corners in hand
  abbrev pub in_hand : Stage → Working → Tokens → List VertexRecord × Machine
  in_hand st w t = (records_from w st.cell st.from (2 ^ set.axes - st.from), image_of set e st.parent w t)

  -- with all corners and the cell's numbers in hand
  abbrev pub own_in_hand : Stage → Working → Tokens → Own × Machine
  own_in_hand st w t = (own_of set.axes w st.cell, image_of set e st.parent w t)

  -- # The steps
  module _ (room : Push → Type 0) where
    abbrev pub streams : StreamStacks
    streams = stream_stacks_of e.outlook.swapped

    -- a cell is counted
    abbrev pub CountSim : Stage → Type 0
    CountSim st = Sim room (Holds set e st) (image_of set e st.parent) (Holds set e (after_count set.axes st)) (image_of set e st.parent)
        (model.count_cell set st.cell) (machine.count_cell set streams st.cell) (λ t. Some t)

    abbrev pub CountLeaf : Type 0
    CountLeaf = (st : Stage) → IsStage set.axes e.outlook st → CountSim st

    -- a corner is loaded, in front of those in hand
    abbrev pub load_before : Place → ℕ → List VertexRecord × Machine → Course (List VertexRecord × Machine)
    load_before cell k x = course_map (λ it. (it.0 ∷ x.0, it.1)) (counted.load_corner set streams cell k x.1)

    abbrev pub LoadSim : Stage → ℕ → Type 0
    LoadSim st k = Sim room (Holds set e st) (in_hand st) (Holds set e (after_load k st)) (in_hand (after_load k st))
        (model.load_corner set st.parent st.cell k) (load_before st.cell k) (tokens.load e.outlook st.cell k)

    abbrev pub LoadLeaf : Type 0
    LoadLeaf = (st : Stage) (k : ℕ) → IsStage set.axes e.outlook st → k < 2 ^ set.axes → st.from ≡ suc k → 1 ≤ st.owed → LoadSim st k

    -- the cell is entered
    abbrev pub EnterSim : Stage → List Place → Type 0
    EnterSim st rest = Sim room (Holds set e st) (in_hand st) (Holds set e (after_enter rest st)) (own_in_hand st)
        (model.enter_cell set st.parent st.cell) (λ x. machine.enter_cell set streams st.cell x.0 x.1) (tokens.enter e.outlook st.cell)

    abbrev pub EnterLeaf : Type 0
    EnterLeaf = (st : Stage) (rest : List Place) → IsStage set.axes e.outlook st → st.from ≡ 0 → st.ahead ≡ st.cell ∷ rest → 1 ≤ st.owed → 1 ≤ st.counted
        → EnterSim st rest

    -- and left
    abbrev pub LeaveSim : Stage → List Place → Type 0
    LeaveSim st outer = Sim room (Holds set e st) (own_in_hand st) (Holds set e (after_leave outer st)) (in_hand (after_leave outer st))
        (model.leave_cell set st.parent st.cell) (machine.leave_cell set streams st.cell) (tokens.leave e.outlook st.cell)

    abbrev pub LeaveLeaf : Type 0
    LeaveLeaf = (st : Stage) (outer : List Place) → IsStage set.axes e.outlook st → st.from ≡ 0 → st.entered ≡ st.cell ∷ outer → 1 ≤ st.owed → LeaveSim st outer

    -- the first of the corners in hand is stored
    abbrev pub store_first : Place → ℕ → List VertexRecord × Machine → Course (List VertexRecord × Machine)
    store_first cell k ([], m) = at_once ([], m)
    store_first cell k (it ∷ its, m) = course_map (λ m. (its, m)) (counted.store_corner set streams cell k it m)

    abbrev pub StoreSim : Stage → ℕ → Type 0
    StoreSim st k = Sim room (Holds set e st) (in_hand st) (Holds set e (after_store k st)) (in_hand (after_store k st))
        (model.store_corner set st.parent st.cell k) (store_first st.cell k) (tokens.store e.outlook st.cell k)

    abbrev pub StoreLeaf : Type 0
    StoreLeaf = (st : Stage) (k : ℕ) → IsStage set.axes e.outlook st → k < 2 ^ set.axes → st.from ≡ k → 1 ≤ st.owed → 1 ≤ st.unstored → StoreSim st k

    -- an event of the traversal as a whole
    abbrev pub PlainLeaf : Type 0
    PlainLeaf = (st : Stage) (event : Event) → Sim room (Holds set e st) (image_of set e st.parent) (Holds set e st) (image_of set e st.parent)
        (walks.plain set event) (machine.plain set streams event) (λ t. Some t)

    -- # The walk of a cell, with some levels below it
    abbrev pub WalkSim : ℕ → Type 0
    WalkSim levels = (st : Stage) (rest : List Place) → IsStage set.axes e.outlook st → st.from ≡ 2 ^ set.axes
        → st.ahead ≡ walked_cells e.outlook.axes e.outlook.way e.outlook.walks levels st.cell ++ rest
        → Sim room (Holds set e st) (image_of set e st.parent) (Holds set e (record st { ahead = rest })) (image_of set e st.parent)
        (walks.walk_cell set levels st.parent st.cell) (machine.walk_cell set streams (suc levels) st.cell) (tokens.walk e.outlook levels st.cell)

    -- # A traversal, with the root's corners in hand
    -- what was entered is the root alone, and these cells are ahead
    abbrev pub at_root : List Place → Stage
    at_root ahead = record { out = 2 ^ set.axes; parent = root; cell = root; from = 2 ^ set.axes; owed = 0; unstored = 0; counted = 0; entered = root ∷ []; ahead = ahead }

    -- from its first event to its last
    abbrev pub RootSim : ℕ → Type 0
    RootSim levels = Sim room
        (Holds set e (at_root (flat_map (walked_cells e.outlook.axes e.outlook.way e.outlook.walks levels) (children e.outlook.axes e.outlook.way root)))) (image_of set e root)
        (Holds set e (at_root [])) (image_of set e root)
        (λ w. and_then (walks.plain set BeginIteration w) (λ w. and_then (each (walks.walk_cell set levels root) (children set.axes (way set) root) w) (walks.plain set EndIteration)))
        (λ m. and_then (machine.plain set streams BeginIteration m) (λ m. and_then (each (machine.walk_cell set streams (suc levels)) (children set.axes (way set) root) m) (machine.plain set streams EndIteration)))
        (each_some (tokens.walk e.outlook levels) (children e.outlook.axes e.outlook.way root))
