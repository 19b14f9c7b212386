-- The numbers of a cell's faces.
--
--     8 * level + stack     where the neighbour across the face comes before the cell, or after it
--     0                     elsewhere
--
-- The greatest number at a corner is that of the fastest face, and of faces that are equally fast that of the greatest axis.
use Rattle.std.specs.Prelude.{ℕ, ◌+◌, ◌*◌, ◌%◌, ◌&&◌, false, ◌==◌, nat_lt, if◌then◌else◌, List, [], ◌∷◌, Option, Some, None}
use Rattle.pe_access.specs.declared.numbers.Numbers.{Numbers}
use Rattle.pe_access.specs.declared.numbers.Axis.{Axis}
use Rattle.pe_access.specs.Extents.{Relation, Earlier, Later, Extent, bit_of, is_relation, face_at}

-- the number of the face at a side, for neighbours of a relation
abbrev pub face_number : Relation → ℕ → ℕ → Extent → ℕ
face_number relation axis side extent =
    let face = face_at extent side in
    if is_relation face.relation relation && nat_lt 0 face.level
    then 8 * face.level + (2 * axis + (bit_of extent.odd + side) % 2)
    else 0

abbrev pub numbers_of : ℕ → ℕ → Extent → Numbers
numbers_of axis side extent = record { coming = face_number Earlier axis side extent; going = face_number Later axis side extent }

abbrev pub axis_of : ℕ → Extent → Axis
axis_of axis extent = record { odd = extent.odd; near = numbers_of axis 0 extent; far = numbers_of axis 1 extent }

-- the axes from one on
abbrev pub axes_from : ℕ → List Extent → List Axis
axes_from axis [] = []
axes_from axis (extent ∷ extents) = axis_of axis extent ∷ axes_from (axis + 1) extents

abbrev pub root_axis : Axis
root_axis = record { odd = false; near = record { coming = 0; going = 0 }; far = record { coming = 0; going = 0 } }

-- the stack that a number names, if there is one
abbrev pub stack_of : ℕ → Option ℕ
stack_of number = if number == 0 then None else Some (number % 8)
