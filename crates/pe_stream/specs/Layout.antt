-- The bytes of a saved grid. Every number of more than one byte has its lowest byte first.
--
--      0   8 bytes   the text PEANOSTK
--      8   1 each    version, axes, greatest level, fields of a vertex, of a cell, of the whole grid
--     14   2 bytes   zero
--     16   8 each    finished traversals, number of vertices, number of cells
--     40   8 each    the numbers of the whole grid, then those of the root
--    then            each vertex
--    then   8 each   the numbers of each cell
use Rattle.std.specs.Prelude.{ℕ, ℤ, ◌+◌, ◌*◌, List, [], ◌∷◌, ◌++◌, codes, length, take}
use Rattle.std.specs.List.{flat_map}
use Rattle.std.specs.Int.{w64, cast_unsigned}
use Rattle.byteorder.specs.Endian.{little_bytes}
use Rattle.pe_base.specs.declared.fields.Fields.{Fields}
use Rattle.pe_base.specs.Life.Numbers.{state_number}
use Rattle.pe_stream.specs.declared.saved.SavedVertex.{SavedVertex}
use Rattle.pe_stream.specs.declared.saved.Saved.{Saved}

-- a number of eight bytes
abbrev pub number_bytes : ℕ → List ℕ
number_bytes n = little_bytes 8 n

-- a signed number of eight bytes, in two's complement
abbrev pub signed_bytes : ℤ → List ℕ
signed_bytes z = number_bytes (cast_unsigned w64 z)

-- the first numbers of a payload
abbrev pub fields_bytes : ℕ → Fields → List ℕ
fields_bytes count fields = flat_map signed_bytes (take count fields.a)

abbrev pub fields_size : ℕ → ℕ
fields_size count = 8 * count

-- a vertex: its state, and its numbers
abbrev pub vertex_bytes : ℕ → SavedVertex → List ℕ
vertex_bytes count vertex = state_number vertex.state ∷ fields_bytes count vertex.fields

abbrev pub vertex_size : ℕ → ℕ
vertex_size count = 1 + fields_size count

-- the text and the version with which a stream begins
abbrev pub magic : List ℕ
magic = codes "PEANOSTK"

abbrev pub version : ℕ
version = 1

abbrev pub header_size : ℕ
header_size = 40

abbrev pub header_bytes : Saved → List ℕ
header_bytes s =
    magic
    ++ (version ∷ s.dim ∷ s.max_level ∷ s.vertex_fields ∷ s.cell_fields ∷ s.global_fields ∷ 0 ∷ 0 ∷ [])
    ++ number_bytes s.finished
    ++ number_bytes (length s.vertices)
    ++ number_bytes s.cell_count

abbrev pub stream_bytes : Saved → List ℕ
stream_bytes s =
    header_bytes s
    ++ (fields_bytes s.global_fields s.globals
    ++ (fields_bytes s.cell_fields s.root
    ++ (flat_map (vertex_bytes s.vertex_fields) s.vertices
    ++ flat_map (fields_bytes s.cell_fields) s.cells)))
