-- The neighbours of a cell. Along each axis a cell has two faces: side 0 at its near end, where the coordinate is its
-- position, and side 1 at its far end, one further.
use Rattle.std.specs.Prelude.{ℕ, ◌+◌, ◌-◌, ◌^◌, Bool, false, ◌||◌, ◌==◌, if◌then◌else◌, Option, Some, None, find, slice_index, slice_set}
use Rattle.pe_base.specs.declared.place.Place.{Place}
use Rattle.pe_base.specs.declared.way.Way.{Way}
use Rattle.pe_base.specs.Tree.Curve.{order}
use Rattle.pe_base.specs.Steps.Around.{threes}
use Rattle.pe_base.specs.Tree.Places.{is_same}

-- the coordinate of a face's plane
abbrev pub plane_of : Place → ℕ → ℕ → ℕ
plane_of cell axis side = slice_index cell.pos axis + side

-- the cell across a face; none where the face is on the root's boundary
abbrev pub neighbour : Place → ℕ → ℕ → Option Place
neighbour cell axis side =
    let x = slice_index cell.pos axis in
    if plane_of cell axis side == 0 || plane_of cell axis side == 3 ^ cell.level
    then None
    else (Some (record { level = cell.level; pos = slice_set cell.pos axis (if side == 0 then x - 1 else x + 1) }))

abbrev pub is_place : Option Place → Place → Bool
is_place None place = false
is_place (Some other) place = is_same other place

-- of two cells of one level, this one comes first in the order of the walk
abbrev pub comes_first : ℕ → Way → Place → Place → Bool
comes_first axes way cell other = is_place (find (λ c. is_same c cell || is_same c other) (order axes way cell.level)) cell

-- The level on which a face first appears: the least one on which its plane bounds a cell. The planes of the root
-- appear on level 0, since 3 divides their coordinates on every level.
abbrev pub face_level : Place → ℕ → ℕ → ℕ
face_level cell axis side = cell.level - threes cell.level (plane_of cell axis side)
