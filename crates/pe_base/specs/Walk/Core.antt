-- The core of a walk: what the touch of a vertex and the visit of a cell do to the records in hand. It finds no record
-- and keeps none: the walk by address and the walk over stacks share it.
--
--     load     hanging            a fresh vertex; create_hanging_vertex
--              first, born        a fresh vertex; create_inner_vertex, touch_vertex_first_time
--              first, stored      the state table; touch_vertex_first_time
--     store    hanging            destroy_hanging_vertex, and it is given up
--              last, dying        touch_vertex_last_time, destroy_vertex, and it is given up
--              last, else         touch_vertex_last_time; the state table
--     enter    born               fresh numbers; create_cell
--              all                enter_cell
--     leave    all                leave_cell
--              dying              destroy_cell
use Rattle.std.specs.Prelude.{ℕ, ℤ, Bool, true, false, List, [], Option, Some, None}
use Rattle.std.specs.Option.{option_map_or, unwrap_or}
use Rattle.pe_base.specs.declared.place.Place.{Place}
use Rattle.pe_base.specs.declared.way.Way.{Way}
use Rattle.pe_base.specs.declared.state.State.{State}
use Rattle.pe_base.specs.declared.state.State.TheVariants.{Unrefined}
use Rattle.pe_base.specs.declared.kind.Kind.{Kind}
use Rattle.pe_base.specs.declared.kind.Kind.TheVariants.{Kept, Born, Dying, Hanging}
use Rattle.pe_base.specs.declared.event.Event.{Event}
use Rattle.pe_base.specs.declared.event.Event.TheVariants.{TouchVertexFirstTime, TouchVertexLastTime, CreateInnerVertex, CreateHangingVertex, DestroyVertex, DestroyHangingVertex, CreateCell, DestroyCell, EnterCell, LeaveCell}
use Rattle.pe_base.specs.Tree.Places.{root}
use Rattle.pe_base.specs.Tree.Ways.{way_of}
use Rattle.pe_base.specs.Acts.Effects.{VertexRecord, seen_of, all_seen, as_left, as_all_left, Seen, Fault, Outcome, Rules, plain_sight}
use Rattle.pe_base.specs.Life.Table.{first_touch, last_touch, start_state}
use Rattle.pe_base.specs.Walk.Course.{fault_at, Ending, done, halts, Course, at_once, and_then, course_map}

-- what is set for a traversal: what its events do, the grid's axes, how far the first traversal refines, how many cells
-- it may walk, and its number
pub record Setting (Plan : Type 0) : Type 0 where
  pub rules : Rules Plan
  pub plan : Plan
  pub axes : ℕ
  pub start_level : ℕ
  pub max_cells : ℕ
  pub traversal : ℕ

-- what an event of a corner sees beside the corner: the parent's corners by their numbers, the parent's numbers; and the
-- mapping's list
pub record Family : Type 0 where
  pub parents : List VertexRecord
  pub parent : List ℤ
  pub list : List ℤ

-- what an event of a cell sees beside the family: the cell's numbers, and its corners by their numbers
pub record Own : Type 0 where
  pub cell : List ℤ
  pub corners : List VertexRecord

module _ {Plan : Type 0} (set : Setting Plan) where
  abbrev pub way : Way
  way = way_of set.traversal

  -- an event adds its text, and may halt the walk
  abbrev pub ended_by : Event → Place → Option Fault → Outcome → Ending Outcome
  ended_by event place None outcome = done outcome
  ended_by event place (Some fault) outcome = halts (fault_at fault event place)

  abbrev pub fire : Event → List ℤ → Seen → Course Outcome
  fire event list seen =
      let outcome = set.rules.effect set.plan event set.traversal list seen in
      record { text = outcome.text; log = []; ending = ended_by event seen.place outcome.fault outcome }

  -- the family after an event
  abbrev pub family_after : Family → Outcome → Family
  family_after family outcome = record { parents = as_all_left family.parents outcome.seen.parents; parent = outcome.seen.parent; list = outcome.list }

  -- an event of no vertex and no cell: the mapping's list after it
  abbrev pub plain_event : Event → List ℤ → Course (List ℤ)
  plain_event event list =
      course_map (λ outcome. outcome.list)
      (fire event list plain_sight)

  abbrev pub vertex_event : Event → Place → VertexRecord × Family → Course (VertexRecord × Family)
  vertex_event event place it =
      course_map (λ outcome. (option_map_or (as_left it.0) outcome.seen.vertex it.0, family_after it.1 outcome))
      (fire event it.1.list (record { place = place; vertex = Some (seen_of it.0); cell = None; corners = []; parents = all_seen it.1.parents; parent = it.1.parent }))

  abbrev pub cell_event : Event → Place → Own × Family → Course (Own × Family)
  cell_event event place it =
      course_map
      (λ outcome. (record { cell = unwrap_or outcome.seen.cell it.0.cell; corners = as_all_left it.0.corners outcome.seen.corners }, family_after it.1 outcome))
      (fire event it.1.list (record { place = place; vertex = None; cell = Some it.0.cell; corners = all_seen it.0.corners; parents = all_seen it.1.parents; parent = it.1.parent }))

  -- the state of a fresh vertex
  abbrev pub fresh_state : Kind → Place → State
  fresh_state Born place = start_state set.traversal place.level set.start_level
  fresh_state kind place = Unrefined

  -- a fresh vertex, and the family with the mapping's list after it
  abbrev pub fresh_vertex : Kind → Place → Family → VertexRecord × Family
  fresh_vertex kind place family =
      let fresh = set.rules.fresh_vertex set.plan family.list in
      (record { state = fresh_state kind place; kind = kind; numbers = fresh.numbers }, record family { list = fresh.list })

  -- a vertex that was stored, as it is at its first touch
  abbrev pub read_vertex : Kind → VertexRecord → VertexRecord
  read_vertex kind found = record found { kind = kind; state = first_touch found.state kind }

  -- the load of a vertex of a kind, for the first time or not; where it is not made fresh, it was found
  abbrev pub load_touch : Kind → Bool → VertexRecord → Place → Family → Course (VertexRecord × Family)
  load_touch Hanging first found place family = vertex_event CreateHangingVertex place (fresh_vertex Hanging place family)
  load_touch Born true found place family =
      and_then (vertex_event CreateInnerVertex place (fresh_vertex Born place family)) (vertex_event TouchVertexFirstTime place)
  load_touch Kept true found place family = vertex_event TouchVertexFirstTime place (read_vertex Kept found, family)
  load_touch Dying true found place family = vertex_event TouchVertexFirstTime place (read_vertex Dying found, family)
  load_touch kind false found place family = at_once (found, family)

  -- a vertex that is given up, and one that stays
  abbrev pub given_up : VertexRecord × Family → Option VertexRecord × Family
  given_up it = (None, it.1)

  abbrev pub written : Kind → VertexRecord × Family → Option VertexRecord × Family
  written kind it = (Some (record it.0 { state = last_touch it.0.state kind }), it.1)

  -- the store of a vertex of a kind, for the last time or not; none where it is given up
  abbrev pub store_of : Kind → Bool → Place → VertexRecord → Family → Course (Option VertexRecord × Family)
  store_of Hanging last place vertex family = course_map given_up (vertex_event DestroyHangingVertex place (vertex, family))
  store_of Dying true place vertex family =
      course_map given_up (and_then (vertex_event TouchVertexLastTime place (vertex, family)) (vertex_event DestroyVertex place))
  store_of kind true place vertex family = course_map (written kind) (vertex_event TouchVertexLastTime place (vertex, family))
  store_of kind false place vertex family = at_once (Some vertex, family)

  abbrev pub store_touch : Bool → Place → VertexRecord → Family → Course (Option VertexRecord × Family)
  store_touch last place vertex family = store_of vertex.kind last place vertex family

  -- a cell of a kind is entered, with its corners; where it is not made fresh, its numbers were found
  abbrev pub enter_touch : Kind → List ℤ → Place → List VertexRecord → Family → Course (Own × Family)
  enter_touch Born found place corners family =
      let fresh = set.rules.fresh_cell set.plan family.list in
      and_then
      (cell_event CreateCell place (record { cell = fresh.numbers; corners = corners }, record family { list = fresh.list }))
      (cell_event EnterCell place)
  enter_touch kind found place corners family = cell_event EnterCell place (record { cell = found; corners = corners }, family)

  -- a cell of a kind is left
  abbrev pub leave_touch : Kind → Place → Own → Family → Course (Own × Family)
  leave_touch Dying place own family = and_then (cell_event LeaveCell place (own, family)) (cell_event DestroyCell place)
  leave_touch kind place own family = cell_event LeaveCell place (own, family)
