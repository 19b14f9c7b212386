-- A vertex in the slot of its corner.
use Rattle.std.specs.Prelude.{ℤ, List, Option, Some, None}
use Rattle.pe_base.specs.Acts.Effects.{VertexRecord}
use Rattle.pe_base.specs.Walk.Working.{no_vertex}
use Rattle.pe_stacks.specs.declared.record.Vertex.{Vertex}
use Rattle.pe_stacks.specs.Sights.{record_of}

abbrev pub seen_slot : {V : Type 0} → (V → List ℤ) → Option (Vertex V) → VertexRecord
seen_slot numbers None = no_vertex
seen_slot numbers (Some v) = record_of numbers v
