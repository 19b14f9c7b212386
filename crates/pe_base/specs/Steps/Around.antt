-- The order in which the walk visits the cells around a vertex.
use Rattle.std.specs.Prelude.{ℕ, ◌+◌, ◌^◌, ◌%◌, Bool, true, false, ◌&&◌, ◌||◌, ◌==◌, nat_lt, List, [], ◌∷◌, drop, filter, count_by, slice_index}
use Rattle.std.specs.List.{range_with_len, zip}
use Rattle.pe_base.specs.declared.place.Place.{Place}
use Rattle.pe_base.specs.declared.way.Way.{Way}
use Rattle.pe_base.specs.Tree.Curve.{order}

-- a vertex is a corner of a cell of its level: on each axis it has the cell's position, or one more
abbrev pub is_corner_pos : List ℕ → List ℕ → Bool
is_corner_pos [] [] = true
is_corner_pos (q ∷ qs) (p ∷ ps) = (q == p || q == p + 1) && is_corner_pos qs ps
is_corner_pos [] (p ∷ ps) = false
is_corner_pos (q ∷ qs) [] = false

abbrev pub is_corner : Place → Place → Bool
is_corner vertex cell = vertex.level == cell.level && is_corner_pos vertex.pos cell.pos

-- the cells around a vertex, in the order of the walk
abbrev pub around : ℕ → Way → Place → List Place
around axes way vertex = filter (is_corner vertex) (order axes way vertex.level)

-- each item with the one behind it
abbrev pub steps : {X : Type 0} → List X → List (X × X)
steps xs = zip xs (drop 1 xs)

-- how often 3 divides a coordinate inside the root cube
abbrev pub threes : ℕ → ℕ → ℕ
threes level x = count_by (λ n. x % 3 ^ n == 0) (range_with_len 1 level)

-- an axis is slower than another at a vertex: its coordinate is divided more often, or equally often and it comes first
abbrev pub is_slower : Place → ℕ → ℕ → Bool
is_slower vertex i j =
    let times = λ (axis : ℕ). threes vertex.level (slice_index vertex.pos axis) in
    nat_lt (times j) (times i) || (times i == times j && nat_lt i j)

-- how often an axis is crossed at a vertex
abbrev pub crossings : ℕ → Place → ℕ → ℕ
crossings axes vertex axis = 2 ^ count_by (λ j. is_slower vertex j axis) (range_with_len 0 axes)
