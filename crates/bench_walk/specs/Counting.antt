-- A count is the first number of a record. It goes up by one, and stays at the greatest number.
use Rattle.std.specs.Prelude.{ℤ, pos, ◌+ℤ◌, List, [], ◌∷◌, None}
use Rattle.std.specs.Int.{w64, saturate_signed}
use Rattle.pe_base.specs.declared.fields.Fields.{Fields}
use Rattle.pe_base.specs.Acts.Payloads.{zeros}
use Rattle.pe_base.specs.Acts.Effects.{SeenVertex, Seen, Fresh, Outcome}
use Rattle.pe_stacks.specs.Sights.{Numbers}

-- payloads as lists of numbers
abbrev pub fields_numbers : Numbers Fields Fields
fields_numbers = record { vertex = λ fields. fields.a; cell = λ fields. fields.a }

abbrev pub one_more : ℤ → ℤ
one_more n = saturate_signed w64 (n +ℤ pos 1)

-- the first of some numbers is counted
abbrev pub counted : List ℤ → List ℤ
counted [] = []
counted (n ∷ ns) = one_more n ∷ ns

abbrev pub counted_vertex : SeenVertex → SeenVertex
counted_vertex vertex = record vertex { numbers = counted vertex.numbers }

-- eight zeros, and the mapping's list as it was
abbrev pub eight_zeros : List ℤ → Fresh
eight_zeros list = record { numbers = zeros; list = list }

-- what an event leaves that tells nothing and has no fault
abbrev pub leaving : List ℤ → Seen → Outcome
leaving list seen = record { seen = seen; list = list; text = []; fault = None }
