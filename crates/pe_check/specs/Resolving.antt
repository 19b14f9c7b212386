-- What a name stands for at an event of a sort, or why it is refused.
use Rattle.std.specs.Prelude.{ℕ, ◌^◌, List, length, codes, Option, Some, None, option_map, Result, Ok, Err, if◌then◌else◌}
use Rattle.std.specs.Str.{bytes_eq}
use Rattle.std.specs.List.{position_from}
use Rattle.pe_base.specs.declared.event.Sort.{Sort}
use Rattle.pe_base.specs.declared.event.Event.{Event}
use Rattle.pe_base.specs.Acts.Events.{sort_of}
use Rattle.pe_check.specs.declared.checked.VertexName.{VertexName}
use Rattle.pe_check.specs.declared.checked.Slot.{Slot}
use Rattle.pe_check.specs.declared.checked.Slot.TheVariants as slot
use Rattle.pe_check.specs.declared.checked.Name.{Name}
use Rattle.pe_check.specs.declared.checked.Name.TheVariants as name
use Rattle.pe_check.specs.declared.head.Head.{Head}
use Rattle.pe_check.specs.declared.head.Head.TheVariants.{Traversal, Global, Level, Axis, Vertex, Cell, Parent}
use Rattle.pe_check.specs.declared.cause.Cause.{Cause}
use Rattle.pe_check.specs.declared.cause.Cause.TheVariants.{UnknownName, NotHere, Corner, ReadOnly}
use Rattle.pe_check.specs.FieldNames.{FieldNames}
use Rattle.pe_check.specs.Fits.{Reach}
use Rattle.pe_check.specs.Table.{head_of, is_here, has_corner}

-- where names are resolved: the sort of the event, the dimension, and the names of fields
pub record Context : Type 0 where
  pub sort : Sort
  pub dim : ℕ
  pub names : FieldNames

-- at an event
abbrev pub context_at : Event → ℕ → FieldNames → Context
context_at event dim names = record { sort = sort_of event; dim = dim; names = names }

abbrev pub reach_in : Context → Reach
reach_in context = record {
  sort = context.sort;
  dim = context.dim;
  vertex_fields = length context.names.vertex;
  cell_fields = length context.names.cell;
  global_fields = length context.names.global;
}

-- the number of a field
abbrev pub field_of : List (List ℕ) → List ℕ → Option ℕ
field_of fields word = position_from (λ field. bytes_eq field word) 0 fields

abbrev pub slot_named : (ℕ → Slot) → List (List ℕ) → List ℕ → Option Name
slot_named make fields word = option_map (λ field. name.Slot (make field)) (field_of fields word)

-- the second word behind a vertex: a field, `state` or `kind`
abbrev pub of_vertex : Context → VertexName → List ℕ → Option Name
of_vertex context vertex word =
    if bytes_eq word (codes "state") then Some (name.State vertex)
    else (if bytes_eq word (codes "kind") then Some (name.Kind vertex) else slot_named (slot.Vertex vertex) context.names.vertex word)

-- what stands behind a first word, if it may
abbrev pub behind : Context → Head → Option (List ℕ) → Option Name
behind context Traversal None = Some name.Traversal
behind context Level None = Some name.Level
behind context (Axis axis) None = Some (name.Axis axis)
behind context Traversal (Some word) = None
behind context Level (Some word) = None
behind context (Axis axis) (Some word) = None
behind context Global (Some word) = slot_named slot.Global context.names.global word
behind context (Vertex vertex) (Some word) = of_vertex context vertex word
behind context Cell (Some word) = slot_named slot.Cell context.names.cell word
behind context Parent (Some word) = slot_named slot.Parent context.names.cell word
behind context Global None = None
behind context (Vertex vertex) None = None
behind context Cell None = None
behind context Parent None = None

abbrev pub known : Option Name → Result Name Cause
known None = Err UnknownName
known (Some it) = Ok it

-- what is refused of a first word that there is: it is not here, or has no such corner
abbrev pub here : {X : Type 0} → Context → Head → Result X Cause → Result X Cause
here context head next = if is_here context.sort head then (if has_corner (2 ^ context.dim) head then next else Err Corner) else Err NotHere

abbrev pub from_head : Context → Option Head → Option (List ℕ) → Result Name Cause
from_head context None second = Err UnknownName
from_head context (Some head) second = here context head (known (behind context head second))

-- a name that is read
abbrev pub read_name : Context → List ℕ → Option (List ℕ) → Result Name Cause
read_name context first second = from_head context (head_of context.dim first) second

abbrev pub assigned : Result Name Cause → Result Slot Cause
assigned (Err cause) = Err cause
assigned (Ok (name.Slot it)) = Ok it
assigned (Ok name.Traversal) = Err ReadOnly
assigned (Ok name.Level) = Err ReadOnly
assigned (Ok (name.Axis axis)) = Err ReadOnly
assigned (Ok (name.State vertex)) = Err ReadOnly
assigned (Ok (name.Kind vertex)) = Err ReadOnly

-- a name that is assigned
abbrev pub slot_name : Context → List ℕ → Option (List ℕ) → Result Slot Cause
slot_name context first second = assigned (read_name context first second)

abbrev pub vertex_from : Context → Option Head → Result VertexName Cause
vertex_from context None = Err UnknownName
vertex_from context (Some (Vertex vertex)) = here context (Vertex vertex) (Ok vertex)
vertex_from context (Some Traversal) = Err UnknownName
vertex_from context (Some Global) = Err UnknownName
vertex_from context (Some Level) = Err UnknownName
vertex_from context (Some (Axis axis)) = Err UnknownName
vertex_from context (Some Cell) = Err UnknownName
vertex_from context (Some Parent) = Err UnknownName

-- a word behind `refine` or `erase`
abbrev pub vertex_word : Context → List ℕ → Result VertexName Cause
vertex_word context word = vertex_from context (head_of context.dim word)
