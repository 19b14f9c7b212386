-- The twelve events: how each is spelled, and what it is told.
use Rattle.std.specs.Prelude.{ℕ, Bool, List, [], ◌∷◌, codes, Option, ◌==◌, find}
use Rattle.std.specs.Str.{bytes_eq}
use Rattle.std.specs.List.{list_any}
use Rattle.pe_base.specs.declared.event.Event.{Event}
use Rattle.pe_base.specs.declared.event.Event.TheVariants.{BeginIteration, EndIteration, TouchVertexFirstTime, TouchVertexLastTime, CreateInnerVertex, CreateHangingVertex, DestroyVertex, DestroyHangingVertex, CreateCell, DestroyCell, EnterCell, LeaveCell}
use Rattle.pe_base.specs.declared.event.Sort.{Sort}
use Rattle.pe_base.specs.declared.event.Sort.TheVariants.{Plain, Vertex, Cell}

abbrev pub name_of : Event → List ℕ
name_of BeginIteration = codes "begin_iteration"
name_of EndIteration = codes "end_iteration"
name_of TouchVertexFirstTime = codes "touch_vertex_first_time"
name_of TouchVertexLastTime = codes "touch_vertex_last_time"
name_of CreateInnerVertex = codes "create_inner_vertex"
name_of CreateHangingVertex = codes "create_hanging_vertex"
name_of DestroyVertex = codes "destroy_vertex"
name_of DestroyHangingVertex = codes "destroy_hanging_vertex"
name_of CreateCell = codes "create_cell"
name_of DestroyCell = codes "destroy_cell"
name_of EnterCell = codes "enter_cell"
name_of LeaveCell = codes "leave_cell"

abbrev pub sort_of : Event → Sort
sort_of BeginIteration = Plain
sort_of EndIteration = Plain
sort_of TouchVertexFirstTime = Vertex
sort_of TouchVertexLastTime = Vertex
sort_of CreateInnerVertex = Vertex
sort_of CreateHangingVertex = Vertex
sort_of DestroyVertex = Vertex
sort_of DestroyHangingVertex = Vertex
sort_of CreateCell = Cell
sort_of DestroyCell = Cell
sort_of EnterCell = Cell
sort_of LeaveCell = Cell

-- where an event stands among the twelve
abbrev pub number_of : Event → ℕ
number_of BeginIteration = 0
number_of EndIteration = 1
number_of TouchVertexFirstTime = 2
number_of TouchVertexLastTime = 3
number_of CreateInnerVertex = 4
number_of CreateHangingVertex = 5
number_of DestroyVertex = 6
number_of DestroyHangingVertex = 7
number_of CreateCell = 8
number_of DestroyCell = 9
number_of EnterCell = 10
number_of LeaveCell = 11

-- the twelve events in their order
abbrev pub all_events : List Event
all_events = BeginIteration ∷ EndIteration ∷ TouchVertexFirstTime ∷ TouchVertexLastTime ∷ CreateInnerVertex ∷ CreateHangingVertex ∷ DestroyVertex ∷ DestroyHangingVertex ∷ CreateCell ∷ DestroyCell ∷ EnterCell ∷ LeaveCell ∷ []

-- the event of a spelling
unfoldable pub event_named : List ℕ → Option Event
event_named name = find (λ event. bytes_eq (name_of event) name) all_events

-- the event is one of these
abbrev pub is_among : List Event → Event → Bool
is_among events event = list_any (λ other. number_of other == number_of event) events
