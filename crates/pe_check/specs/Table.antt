-- The table of names: which first words there are, which events see what they speak of, and what may stand behind them.
use Rattle.std.specs.Prelude.{ℕ, ◌+◌, ◌-◌, ◌*◌, Bool, true, not, ◌&&◌, ◌==◌, nat_lt, List, [], ◌∷◌, codes, find, Option, Some, None, if◌then◌else◌}
use Rattle.std.specs.Char.{is_ascii_digit}
use Rattle.std.specs.Str.{bytes_eq}
use Rattle.pe_base.specs.declared.event.Sort.{Sort}
use Rattle.pe_check.specs.declared.checked.VertexName.TheVariants.{Own, Corner, ParentCorner}
use Rattle.pe_check.specs.declared.head.Head.{Head}
use Rattle.pe_check.specs.declared.head.Head.TheVariants.{Traversal, Global, Level, Axis, Vertex, Cell, Parent}
use Rattle.pe_check.specs.Fits.{is_vertex, is_cell, has_place}

-- the words without a number
abbrev pub words : List (List ℕ × Head)
words = (codes "t", Traversal) ∷ (codes "global", Global) ∷ (codes "level", Level) ∷ (codes "v", Vertex Own) ∷ (codes "cell", Cell) ∷ (codes "parent", Parent) ∷ []

-- the letters before a number: `x` (120) with an axis of the dimension, `v` (118) and `p` (112) with a corner
abbrev pub family : ℕ → ℕ → ℕ → Option Head
family axes letter number =
    if letter == 120 && nat_lt number axes then Some (Axis number)
    else (if letter == 118 then Some (Vertex (Corner number)) else (if letter == 112 then Some (Vertex (ParentCorner number)) else None))

-- the number of one digit, or of two of which the first is not 0
abbrev pub number_of : List ℕ → Option ℕ
number_of [] = None
number_of (one ∷ []) = if is_ascii_digit one then Some (one - 48) else None
number_of (ten ∷ one ∷ []) = if not (ten == 48) && is_ascii_digit ten && is_ascii_digit one then Some ((ten - 48) * 10 + (one - 48)) else None
number_of (a ∷ b ∷ c ∷ digits) = None

abbrev pub with_number : ℕ → ℕ → Option ℕ → Option Head
with_number axes letter None = None
with_number axes letter (Some number) = family axes letter number

abbrev pub numbered_head : ℕ → List ℕ → Option Head
numbered_head axes [] = None
numbered_head axes (letter ∷ digits) = with_number axes letter (number_of digits)

abbrev pub found_head : Option (List ℕ × Head) → Option Head → Option Head
found_head None other = other
found_head (Some row) other = Some row.1

-- what a first word speaks of
abbrev pub head_of : ℕ → List ℕ → Option Head
head_of axes word = found_head (find (λ row. bytes_eq row.0 word) words) (numbered_head axes word)

-- an axis of which a word speaks is one of the dimension
abbrev pub is_within : ℕ → Head → Bool
is_within axes (Axis axis) = nat_lt axis axes
is_within axes Traversal = true
is_within axes Global = true
is_within axes Level = true
is_within axes (Vertex vertex) = true
is_within axes Cell = true
is_within axes Parent = true

-- which events see it
abbrev pub is_here : Sort → Head → Bool
is_here sort Traversal = true
is_here sort Global = true
is_here sort Level = has_place sort
is_here sort (Axis axis) = has_place sort
is_here sort (Vertex Own) = is_vertex sort
is_here sort (Vertex (Corner k)) = is_cell sort
is_here sort (Vertex (ParentCorner k)) = has_place sort
is_here sort Cell = is_cell sort
is_here sort Parent = has_place sort

-- a cell has the corner of this number
abbrev pub has_corner : ℕ → Head → Bool
has_corner corners (Vertex (Corner k)) = nat_lt k corners
has_corner corners (Vertex (ParentCorner k)) = nat_lt k corners
has_corner corners (Vertex Own) = true
has_corner corners Traversal = true
has_corner corners Global = true
has_corner corners Level = true
has_corner corners (Axis axis) = true
has_corner corners Cell = true
has_corner corners Parent = true
