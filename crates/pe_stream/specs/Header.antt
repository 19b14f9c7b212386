-- What a header is that was read.
use Rattle.std.specs.Prelude.{◌≡◌, ℕ, ◌^◌, ◌<◌, ◌≤◌, List, length, take, drop, slice_index}
use Rattle.pe_stream.specs.declared.fault.HeaderField.TheVariants as fields
use Rattle.pe_stream.specs.declared.header.Header.{Header}
use Rattle.pe_stream.specs.Layout.{number_bytes, magic, version, header_size}
use Rattle.pe_stream.specs.Ranges.{limits}
use Rattle.pe_stream.specs.Faults.{found, vertices_found, cells_found, AreFoundIn}

-- the bytes begin with a header in the limits, and it is this one
pub record BeginsWith (bytes : List ℕ) (header : Header) : Type 0 where
  pub long : header_size ≤ length bytes
  pub magic_is : take 8 bytes ≡ magic
  pub version_is : slice_index bytes 8 ≡ version
  pub in_limits : AreFoundIn limits bytes
  pub dim : header.dim ≡ found bytes fields.Dim
  pub max_level : header.max_level ≡ found bytes fields.MaxLevel
  pub vertex_fields : header.vertex_fields ≡ found bytes fields.VertexFields
  pub cell_fields : header.cell_fields ≡ found bytes fields.CellFields
  pub global_fields : header.global_fields ≡ found bytes fields.GlobalFields
  pub finished : header.finished ≡ found bytes fields.Traversals
  pub vertices : header.vertices ≡ vertices_found bytes
  pub cells : header.cells ≡ cells_found bytes
  pub finished_bytes : number_bytes header.finished ≡ take 8 (drop 16 bytes)
  pub vertices_bytes : number_bytes header.vertices ≡ take 8 (drop 24 bytes)
  pub cells_bytes : number_bytes header.cells ≡ take 8 (drop 32 bytes)
  pub vertices_fit : header.vertices < 2 ^ 64
  pub cells_fit : header.cells < 2 ^ 64
