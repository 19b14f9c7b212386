-- In which range each field of a header must be.
use Rattle.std.specs.Prelude.{ℕ, ◌-◌, ◌≤◌, Bool, ◌&&◌, nat_le, Option, Some, None}
use Rattle.pe_base.specs.Limits.{most_levels, most_fields, most_traversals}
use Rattle.pe_stream.specs.declared.expect.Expect.{Expect}
use Rattle.pe_stream.specs.declared.fault.HeaderField.{HeaderField}
use Rattle.pe_stream.specs.declared.fault.HeaderField.TheVariants.{Dim, MaxLevel, VertexFields, CellFields, GlobalFields, Zero, Traversals}
use Rattle.pe_stream.specs.declared.range.Range.{Range}
use Rattle.pe_stream.specs.declared.saved.Saved.{Saved}

abbrev pub within : ℕ → ℕ → Range
within least greatest = record { least = least; greatest = greatest }

abbrev pub only : ℕ → Range
only n = within n n

abbrev pub is_in : Range → ℕ → Bool
is_in range n = nat_le range.least n && nat_le n range.greatest

abbrev pub IsIn : Range → ℕ → Type 0
IsIn range n = (range.least ≤ n) × (n ≤ range.greatest)

-- every number of the one is one of the other
pub record IsNarrower (range wide : Range) : Type 0 where
  pub least : wide.least ≤ range.least
  pub greatest : range.greatest ≤ wide.greatest

-- the limits of every stream
abbrev pub limits : HeaderField → Range
limits Dim = within 2 4
limits MaxLevel = within 1 most_levels
limits VertexFields = within 0 most_fields
limits CellFields = within 0 most_fields
limits GlobalFields = within 0 most_fields
limits Zero = only 0
limits Traversals = within 1 most_traversals

-- As it is expected: the fields are the scenario's, and there is room for its traversals.
abbrev pub expected : Expect → HeaderField → Range
expected e Dim = only e.dim
expected e MaxLevel = only e.max_level
expected e VertexFields = only e.vertex_fields
expected e CellFields = only e.cell_fields
expected e GlobalFields = only e.global_fields
expected e Zero = only 0
expected e Traversals = within 1 (most_traversals - e.traversals)

abbrev pub range_of : Option Expect → HeaderField → Range
range_of None field = limits field
range_of (Some e) field = expected e field

-- what a saved grid says in a field of its header
abbrev pub field_of : HeaderField → Saved → ℕ
field_of Dim s = s.dim
field_of MaxLevel s = s.max_level
field_of VertexFields s = s.vertex_fields
field_of CellFields s = s.cell_fields
field_of GlobalFields s = s.global_fields
field_of Zero s = 0
field_of Traversals s = s.finished

-- each field is in its range
abbrev pub IsInRanges : (HeaderField → Range) → Saved → Type 0
IsInRanges ranges s = (field : HeaderField) → IsIn (ranges field) (field_of field s)
