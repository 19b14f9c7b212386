-- The numbers of a scenario: their keys, their ranges, and what they are where the document does not say them.
use Rattle.std.specs.Prelude.{ℕ, ℤ, pos, negsuc, Bool, ◌&&◌, nat_le, List, [], ◌∷◌, codes, Option, Some, None, if◌then◌else◌}
use Rattle.std.specs.List.{list_any}
use Rattle.std.specs.Str.{bytes_eq}
use Rattle.pe_base.specs.Limits.{least_cells, most_cells, scenario_traversals}
use Rattle.pe_scene.specs.declared.number.Number.{Number}
use Rattle.pe_scene.specs.declared.number.Number.TheVariants.{Dim, Traversals, MaxLevel, StartLevel, MaxCells}
use Rattle.pe_scene.specs.declared.number.Range.{Range}

-- the key at which a number stands
abbrev pub key_of : Number → List ℕ
key_of Dim = codes "dim"
key_of Traversals = codes "traversals"
key_of MaxLevel = codes "max_level"
key_of StartLevel = codes "start_level"
key_of MaxCells = codes "max_cells"

-- the numbers in the order in which they are looked for
abbrev pub all_numbers : List Number
all_numbers = Dim ∷ Traversals ∷ MaxLevel ∷ StartLevel ∷ MaxCells ∷ []

-- a number stands at the key
abbrev pub is_number : List ℕ → Bool
is_number key = list_any (λ number. bytes_eq key (key_of number)) all_numbers

abbrev pub required : ℕ → ℕ → Range
required low high = record { default = None; low = low; high = high }

abbrev pub optional : ℕ → ℕ → ℕ → Range
optional default low high = record { default = Some default; low = low; high = high }

-- the range of a number, where the grid may have so many levels
abbrev pub range_of : ℕ → Number → Range
range_of levels Dim = required 2 4
range_of levels Traversals = required 1 scenario_traversals
range_of levels MaxLevel = optional levels 1 levels
range_of levels StartLevel = optional 1 1 levels
range_of levels MaxCells = optional most_cells least_cells most_cells

-- a number within a range
abbrev pub within : Range → ℤ → Option ℕ
within range (pos n) = if nat_le range.low n && nat_le n range.high then Some n else None
within range (negsuc n) = None
