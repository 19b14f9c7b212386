-- What names stand for at an event.
use Rattle.std.specs.Prelude.{ℕ, ℤ, pos, List, Option, slice_get, slice_index, slice_index_or}
use Rattle.std.specs.Option.{option_map_or}
use Rattle.pe_base.specs.Life.Numbers.{state_number, kind_number}
use Rattle.pe_base.specs.Acts.Effects.{SeenVertex, Seen}
use Rattle.pe_check.specs.declared.checked.VertexName.{VertexName}
use Rattle.pe_check.specs.declared.checked.VertexName.TheVariants.{Own, Corner, ParentCorner}
use Rattle.pe_check.specs.declared.checked.Slot.{Slot}
use Rattle.pe_check.specs.declared.checked.Slot.TheVariants as slot
use Rattle.pe_check.specs.declared.checked.Name.{Name}
use Rattle.pe_check.specs.declared.checked.Name.TheVariants as name

-- what names are read in: the number of the traversal, the numbers of the whole grid, and what the event sees
pub record Situation : Type 0 where
  pub traversal : ℕ
  pub list : List ℤ
  pub seen : Seen

-- the vertex that a name speaks of
abbrev pub vertex_named : VertexName → Seen → Option SeenVertex
vertex_named Own seen = seen.vertex
vertex_named (Corner k) seen = slice_get seen.corners k
vertex_named (ParentCorner k) seen = slice_get seen.parents k

-- what is asked of that vertex, and 0 where there is none
abbrev pub of_vertex : (SeenVertex → ℤ) → VertexName → Seen → ℤ
of_vertex ask vertex seen = option_map_or ask (vertex_named vertex seen) (pos 0)

abbrev pub number_at : List ℤ → ℕ → ℤ
number_at numbers field = slice_index_or numbers field (pos 0)

abbrev pub slot_value : Slot → Situation → ℤ
slot_value (slot.Global field) situation = number_at situation.list field
slot_value (slot.Vertex vertex field) situation = of_vertex (λ it. number_at it.numbers field) vertex situation.seen
slot_value (slot.Cell field) situation = option_map_or (λ numbers. number_at numbers field) situation.seen.cell (pos 0)
slot_value (slot.Parent field) situation = number_at situation.seen.parent field

abbrev pub name_value : Name → Situation → ℤ
name_value name.Traversal situation = pos situation.traversal
name_value name.Level situation = pos situation.seen.place.level
name_value (name.Axis axis) situation = pos (slice_index situation.seen.place.pos axis)
name_value (name.State vertex) situation = of_vertex (λ it. pos (state_number it.state)) vertex situation.seen
name_value (name.Kind vertex) situation = of_vertex (λ it. pos (kind_number it.kind)) vertex situation.seen
name_value (name.Slot slot) situation = slot_value slot situation
