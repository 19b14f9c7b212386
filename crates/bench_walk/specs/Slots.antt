-- The corners of a cell when each of them is counted.
use Rattle.std.specs.Prelude.{Option, map}
use Rattle.std.specs.Option.{option_map}
use Rattle.pe_base.specs.declared.fields.Fields.{Fields}
use Rattle.pe_stacks.specs.declared.record.Vertex.{Vertex}
use Rattle.pe_stacks.specs.declared.quad.Quad.{Quad}
use Rattle.pe_stacks.specs.Corners.{CornerList}
use Rattle.bench_walk.specs.Counting.{counted}

abbrev pub counted_record : Vertex Fields → Vertex Fields
counted_record vertex = record vertex { payload = record { a = counted vertex.payload.a } }

abbrev pub counted_slot : Option (Vertex Fields) → Option (Vertex Fields)
counted_slot slot = option_map counted_record slot

abbrev pub counted_quad : Quad (Vertex Fields) → Quad (Vertex Fields)
counted_quad quad = record { p0 = counted_slot quad.p0; p1 = counted_slot quad.p1; p2 = counted_slot quad.p2; p3 = counted_slot quad.p3 }

abbrev pub counted_corners : CornerList (Vertex Fields) → CornerList (Vertex Fields)
counted_corners corners = record corners { slots = map counted_slot corners.slots }
