-- Records, and what events see of them: payloads as lists of numbers.
use Rattle.std.specs.Prelude.{ℤ, List, [], map, Some, None}
use Rattle.pe_base.specs.declared.fields.Fields.{Fields}
use Rattle.pe_base.specs.declared.place.Place.{Place}
use Rattle.pe_base.specs.Acts.Effects.{SeenVertex, VertexRecord, Seen}
use Rattle.pe_stacks.specs.declared.record.Vertex.{Vertex}
use Rattle.pe_stacks.specs.declared.record.CellRec.{CellRec}
use Rattle.pe_stacks.specs.Corners.{CornerList, vertices_of}

-- how payloads of vertices and of cells are seen
pub record Numbers (V C : Type 0) : Type 0 where
  pub vertex : V → List ℤ
  pub cell : C → List ℤ

-- payloads that are fields
abbrev pub fields_numbers : Numbers Fields Fields
fields_numbers = record { vertex = λ fields. fields.a; cell = λ fields. fields.a }

module _ {V : Type 0} (numbers : V → List ℤ) where
  -- a vertex as it is kept
  abbrev pub record_of : Vertex V → VertexRecord
  record_of vertex = record { state = vertex.state; kind = vertex.kind; numbers = numbers vertex.payload }

  abbrev pub corner_records : CornerList (Vertex V) → List VertexRecord
  corner_records corners = map record_of (vertices_of corners)

  -- a vertex as events see it
  abbrev pub seen_vertex : Vertex V → SeenVertex
  seen_vertex vertex = record { state = vertex.state; kind = vertex.kind; numbers = numbers vertex.payload }

  -- the corners of a cell, by their numbers
  abbrev pub seen_corners : CornerList (Vertex V) → List SeenVertex
  seen_corners corners = map seen_vertex (vertices_of corners)

-- a cell
abbrev pub seen_cell : {C : Type 0} → (C → List ℤ) → CellRec C → List ℤ
seen_cell numbers cell = numbers cell.payload

module _ {V C : Type 0} (numbers : Numbers V C) where
  -- what an event of a vertex sees
  abbrev pub vertex_sight : Place → Vertex V → CornerList (Vertex V) → CellRec C → Seen
  vertex_sight place vertex parents parent = record {
    place = place;
    vertex = Some (seen_vertex numbers.vertex vertex);
    cell = None;
    corners = [];
    parents = seen_corners numbers.vertex parents;
    parent = seen_cell numbers.cell parent;
  }

  -- what an event of a cell sees
  abbrev pub cell_sight : Place → CellRec C → CornerList (Vertex V) → CornerList (Vertex V) → CellRec C → Seen
  cell_sight place cell corners parents parent = record {
    place = place;
    vertex = None;
    cell = Some (seen_cell numbers.cell cell);
    corners = seen_corners numbers.vertex corners;
    parents = seen_corners numbers.vertex parents;
    parent = seen_cell numbers.cell parent;
  }
