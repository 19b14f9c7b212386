-- The vertices so far are read, and their states are ones that are saved.
use Rattle.std.proofs.Common.{◌≡◌, ℕ, ◌<◌, true}
use Rattle.pe_stream.specs.Layout.{vertex_bytes, vertex_size}
use Rattle.pe_stream.specs.Faults.{is_saved_state, state_at}
use Rattle.pe_stream.specs.Parts.{IsReadVertex}
use Rattle.pe_stream.proofs.Pieces.{IsReadSoFar}
use Rattle.pe_stream.proofs.parts.read_vertices.Given as goal

abbrev pub invariant-loop-index : goal.invariant-loop-index
invariant-loop-index l = record {
  read : IsReadSoFar (vertex_bytes l.fields) (IsReadVertex l.fields) (vertex_size l.fields) l.bytes l.vertices.items l.rest l.index;
  states : (k : ℕ) → k < l.index → is_saved_state (state_at (vertex_size l.fields) l.bytes k) ≡ true;
}
