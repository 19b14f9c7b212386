-- What the parts of a stream are that were read.
use Rattle.std.specs.Prelude.{◌≡◌, ℕ, ◌*◌, ◌==◌, List, length, take, All, if◌then◌else◌}
use Rattle.std.specs.List.{flat_map}
use Rattle.pe_base.specs.declared.fields.Fields.{Fields}
use Rattle.pe_stream.specs.declared.saved.SavedVertex.{SavedVertex}
use Rattle.pe_stream.specs.declared.saved.Saved.{Saved}
use Rattle.pe_stream.specs.Layout.{fields_bytes, fields_size, vertex_bytes, vertex_size, stream_bytes}
use Rattle.pe_stream.specs.Saved.{IsPadded, IsPayload, IsSavedVertex, IsSaved, IsHeld}

-- a payload that was read
pub record IsReadPayload (count : ℕ) (fields : Fields) : Type 0 where
  pub padded : IsPadded count fields
  pub payload : IsPayload fields

-- a vertex that was read
pub record IsReadVertex (count : ℕ) (vertex : SavedVertex) : Type 0 where
  pub saved : IsSavedVertex count vertex
  pub payload : IsPayload vertex.fields

-- the vertices with which the bytes begin
pub record AreVertices (fields count : ℕ) (bytes : List ℕ) (vertices : List SavedVertex) : Type 0 where
  pub bytes_are : flat_map (vertex_bytes fields) vertices ≡ take (count * vertex_size fields) bytes
  pub count_is : length vertices ≡ count
  pub each : All (IsReadVertex fields) vertices

-- the cells with which the bytes begin, which are kept where they have numbers
pub record AreCells (fields count : ℕ) (bytes : List ℕ) (cells : List Fields) : Type 0 where
  pub bytes_are : flat_map (fields_bytes fields) cells ≡ take (count * fields_size fields) bytes
  pub count_is : length cells ≡ (if fields == 0 then 0 else count)
  pub each : All (IsReadPayload fields) cells

-- the bytes are those of a saved grid
pub record AreOf (bytes : List ℕ) (s : Saved) : Type 0 where
  pub bytes_are : bytes ≡ stream_bytes s
  pub saved : IsSaved s
  pub held : IsHeld s
