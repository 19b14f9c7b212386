-- What is wrong with bytes, in the order in which it is looked for.
use Rattle.std.specs.Prelude.{◌≡◌, ℕ, ◌+◌, ◌*◌, ◌||◌, ◌==◌, Bool, true, false, not, nat_le, List, [], ◌∷◌, length, map, find, take, drop, slice_index, Option, Some, None, option_map, Result, Ok, Err}
use Rattle.std.specs.Str.{bytes_eq}
use Rattle.std.specs.List.{range_with_len}
use Rattle.byteorder.specs.Endian.{little_number}
use Rattle.pe_stream.specs.declared.expect.Expect.{Expect}
use Rattle.pe_stream.specs.declared.fault.HeaderField.{HeaderField}
use Rattle.pe_stream.specs.declared.fault.HeaderField.TheVariants as fields
use Rattle.pe_stream.specs.declared.fault.StreamFault.{StreamFault}
use Rattle.pe_stream.specs.declared.fault.StreamFault.TheVariants.{Length, Magic, Version, Header, State, Memory}
use Rattle.pe_stream.specs.Layout.{magic, version, header_size, fields_size, vertex_size}
use Rattle.pe_stream.specs.declared.range.Range.{Range}
use Rattle.pe_stream.specs.Ranges.{is_in, IsIn, range_of}

-- what the bytes of a header say
abbrev pub found : List ℕ → HeaderField → ℕ
found bytes fields.Dim = slice_index bytes 9
found bytes fields.MaxLevel = slice_index bytes 10
found bytes fields.VertexFields = slice_index bytes 11
found bytes fields.CellFields = slice_index bytes 12
found bytes fields.GlobalFields = slice_index bytes 13
found bytes fields.Zero = little_number 2 (drop 14 bytes)
found bytes fields.Traversals = little_number 8 (drop 16 bytes)

-- it is in these ranges, field by field
abbrev pub AreFoundIn : (HeaderField → Range) → List ℕ → Type 0
AreFoundIn ranges bytes = (field : HeaderField) → IsIn (ranges field) (found bytes field)

abbrev pub vertices_found : List ℕ → ℕ
vertices_found bytes = little_number 8 (drop 24 bytes)

abbrev pub cells_found : List ℕ → ℕ
cells_found bytes = little_number 8 (drop 32 bytes)

-- where the vertices begin: behind the header, the numbers of the whole grid and those of the root
abbrev pub vertices_at : List ℕ → ℕ
vertices_at bytes = header_size + fields_size (found bytes fields.GlobalFields) + fields_size (found bytes fields.CellFields)

-- how long a stream with this header is
abbrev pub length_of : List ℕ → ℕ
length_of bytes =
    vertices_at bytes
    + vertices_found bytes * vertex_size (found bytes fields.VertexFields)
    + cells_found bytes * fields_size (found bytes fields.CellFields)

abbrev pub is_saved_state : ℕ → Bool
is_saved_state b = b == 0 || b == 1 || b == 3 || b == 4

-- The tests, each with the fault that it finds.
abbrev pub unless : Bool → StreamFault → Option StreamFault
unless true fault = None
unless false fault = Some fault

abbrev pub short : List ℕ → Option StreamFault
short bytes = unless (nat_le header_size (length bytes)) (Length header_size (length bytes))

abbrev pub other_magic : List ℕ → Option StreamFault
other_magic bytes = unless (bytes_eq (take 8 bytes) magic) Magic

abbrev pub other_version : List ℕ → Option StreamFault
other_version bytes = unless (slice_index bytes 8 == version) (Version (slice_index bytes 8))

abbrev pub out_of_range : (HeaderField → Range) → List ℕ → HeaderField → Option StreamFault
out_of_range ranges bytes field = unless (is_in (ranges field) (found bytes field)) (Header field (found bytes field))

abbrev pub other_length : List ℕ → Option StreamFault
other_length bytes = unless (length bytes == length_of bytes) (Length (length_of bytes) (length bytes))

-- of vertices of this size that lie one behind another, the byte that says the state
abbrev pub state_at : ℕ → List ℕ → ℕ → ℕ
state_at size vertices index = slice_index vertices (index * size)

-- of so many vertices the first in a state that is not saved
abbrev pub first_unsaved_of : ℕ → ℕ → List ℕ → Option StreamFault
first_unsaved_of size count vertices =
    option_map (λ index. State index (state_at size vertices index))
    (find (λ index. not (is_saved_state (state_at size vertices index))) (range_with_len 0 count))

abbrev pub first_unsaved : List ℕ → Option StreamFault
first_unsaved bytes =
    first_unsaved_of (vertex_size (found bytes fields.VertexFields)) (vertices_found bytes) (drop (vertices_at bytes) bytes)

-- the first fault that is found
abbrev pub first_of : List (Option StreamFault) → Option StreamFault
first_of [] = None
first_of (Some fault ∷ tests) = Some fault
first_of (None ∷ tests) = first_of tests

-- the fields of a header in the order in which they are looked at
abbrev pub header_fields : List HeaderField
header_fields = fields.Dim ∷ fields.MaxLevel ∷ fields.VertexFields ∷ fields.CellFields ∷ fields.GlobalFields ∷ fields.Zero ∷ fields.Traversals ∷ []

abbrev pub first_out_of_range : (HeaderField → Range) → List ℕ → Option StreamFault
first_out_of_range ranges bytes = first_of (map (out_of_range ranges bytes) header_fields)

-- bytes that do not begin as a stream does
abbrev pub other_start : List ℕ → Option StreamFault
other_start bytes = first_of (short bytes ∷ other_magic bytes ∷ other_version bytes ∷ [])

abbrev pub other_header : (HeaderField → Range) → List ℕ → Option StreamFault
other_header ranges bytes = first_of (other_start bytes ∷ first_out_of_range ranges bytes ∷ [])

-- the first fault of some bytes, if they have one
abbrev pub first_fault : Option Expect → List ℕ → Option StreamFault
first_fault expect bytes = first_of (other_header (range_of expect) bytes ∷ other_length bytes ∷ first_unsaved bytes ∷ [])

-- a test in the code finds no fault, or this one
abbrev pub Tests : {X : Type 0} → Option StreamFault → Result X StreamFault → Type 0
Tests fault (Ok x) = fault ≡ None
Tests fault (Err e) = fault ≡ Some e

-- the fault with which bytes are refused; want of memory says nothing of them
abbrev pub IsRefusal : Option StreamFault → StreamFault → Type 0
IsRefusal fault Memory = Unit {0}
IsRefusal fault e = fault ≡ Some e

-- the same of a call that may want memory
abbrev pub TestsUnlessMemory : {X : Type 0} → Option StreamFault → Result X StreamFault → Type 0
TestsUnlessMemory fault (Ok x) = fault ≡ None
TestsUnlessMemory fault (Err e) = IsRefusal fault e
