-- The bytes of the first vertices are written.
use Rattle.std.proofs.Common.{◌≡◌, ◌++◌, take}
use Rattle.std.specs.List.{flat_map}
use Rattle.pe_stream.specs.Layout.{vertex_bytes}
use Rattle.pe_stream.proofs.writing.write_vertices.Given as goal

abbrev pub invariant-loop-vertex : goal.invariant-loop-vertex
invariant-loop-vertex l = l.out.items ≡ l.initial.out.items ++ flat_map (vertex_bytes l.count) (take l.vertex-index l.vertices)
