-- The faces of cells, and the vertices that the walk of a cell takes over at a face and leaves there.
--
-- A walk touches the corners of a cell when it enters the cell, its loads, and again when it leaves it, its
-- stores. In between it walks the children. A vertex that counts is touched by all its cells, in the order
-- of the list around it. Between two of them it waits at the face that they share:
--
--     +-----+-----+
--     |  a  |  b  |       b follows a around the vertex v: v is leaving a, and then arriving in b,
--     +-----v-----+       at the face between them
--
-- All is defined on the regular tree of cells, some levels deep below a cell. A test says which vertices count.
use Rattle.std.specs.Prelude.{◌≡◌, ℕ, zero, suc, ◌+◌, ◌-◌, ◌*◌, ◌%◌, ◌^◌, ◌<◌, Bool, false, ◌&&◌, ◌==◌, List, [], ◌∷◌, ◌++◌, map, filter, reverse, if◌then◌else◌, slice_index, slice_set}
use Rattle.std.specs.List.{flat_map, range_with_len, list_any}
use Rattle.pe_base.specs.declared.place.Place.{Place}
use Rattle.pe_base.specs.declared.way.Way.{Way}
use Rattle.pe_base.specs.Tree.Places.{is_same, corner}
use Rattle.pe_base.specs.Tree.Curve.{children}
use Rattle.pe_base.specs.Steps.Around.{around, steps}

-- a face of a cell: the axis that it is normal to, and its side: 0 the near one, 1 the far one
pub record Face : Type 0 where
  pub axis : ℕ
  pub side : ℕ

-- a face of a cell
abbrev pub IsFace : ℕ → Face → Type 0
IsFace axes face = (face.axis < axes) × (face.side < 2)

-- the same face, as the neighbour across it sees it
abbrev pub facing : Face → Face
facing face = record { axis = face.axis; side = 1 - face.side }

-- the position across a face; none is below 0, where the position stays
abbrev pub beside : ℕ → ℕ → ℕ
beside side x = if side == 0 then (x - 1) else (x + 1)

-- The cell across a face of a cell. At the root's boundary it is no cell of the tree, or the cell itself,
-- which no list around a vertex has twice.
abbrev pub across : Face → Place → Place
across face cell = record { level = cell.level; pos = slice_set cell.pos face.axis (beside face.side (slice_index cell.pos face.axis)) }

-- two cells of one level share a face: each lies across it from the other
abbrev pub ShareFace : Face → Place → Place → Type 0
ShareFace face a b = (across face a ≡ b) × (across (facing face) b ≡ a)

-- the coordinate of a face on its axis
abbrev pub plane : Face → Place → ℕ
plane face cell = slice_index cell.pos face.axis + face.side

-- the stack that a face's vertices wait on
abbrev pub stack_of : Face → Place → ℕ
stack_of face cell = 2 * face.axis + plane face cell % 2

-- a cell's face on a stack, by axis and parity
abbrev pub face_on : ℕ → ℕ → Place → Face
face_on axis parity cell = record { axis = axis; side = (slice_index cell.pos axis + parity) % 2 }

-- a coordinate of a level, in widths of the cells of a finest level
abbrev pub in_finest : ℕ → ℕ → ℕ → ℕ
in_finest finest level x = x * 3 ^ (finest - level)

-- a vertex lies in the plane of a cell's face
abbrev pub is_on : ℕ → Face → Place → Place → Bool
is_on finest face cell vertex =
    in_finest finest vertex.level (slice_index vertex.pos face.axis) == in_finest finest cell.level (plane face cell)

-- around a vertex, a cell is followed by another
abbrev pub is_step : ℕ → Way → Place → Place → Place → Bool
is_step axes way vertex a b = list_any (λ step. is_same step.0 a && is_same step.1 b) (steps (around axes way vertex))

-- a corner of a cell, and the cell that it is touched for
pub record Touch : Type 0 where
  pub vertex : Place
  pub cell : Place

-- the corners of a cell, in ascending number
abbrev pub corner_touches : ℕ → Place → List Touch
corner_touches axes cell = map (λ k. record { vertex = corner axes cell k; cell = cell }) (range_with_len 0 (2 ^ axes))

-- the loads of the walk of a cell: its corners in descending number, then the loads of its children
abbrev pub loads : ℕ → Way → ℕ → Place → List Touch
loads axes way zero cell = reverse (corner_touches axes cell)
loads axes way (suc levels) cell = reverse (corner_touches axes cell) ++ flat_map (loads axes way levels) (children axes way cell)

-- the stores of the walk of a cell: those of its children, then its corners in ascending number
abbrev pub stores : ℕ → Way → ℕ → Place → List Touch
stores axes way zero cell = corner_touches axes cell
stores axes way (suc levels) cell = flat_map (stores axes way levels) (children axes way cell) ++ corner_touches axes cell

-- a vertex that counts comes to a cell across a face of the cell, or goes from it across the face
abbrev pub comes_across : ℕ → Way → (Place → Bool) → Face → Touch → Bool
comes_across axes way counts face touch = counts touch.vertex && is_step axes way touch.vertex (across face touch.cell) touch.cell

abbrev pub goes_across : ℕ → Way → (Place → Bool) → Face → Touch → Bool
goes_across axes way counts face touch = counts touch.vertex && is_step axes way touch.vertex touch.cell (across face touch.cell)

-- the vertices of the touches that pass a test and lie in the plane of a cell's face
abbrev pub at_face : (Touch → Bool) → ℕ → Face → Place → List Touch → List Place
at_face test finest face cell touches = map (λ touch. touch.vertex) (filter (λ touch. is_on finest face cell touch.vertex && test touch) touches)

-- the vertices that the walk of a cell takes over at a face, in the order of their loads
abbrev pub arriving : ℕ → Way → (Place → Bool) → ℕ → Face → Place → List Place
arriving axes way counts levels face cell = at_face (comes_across axes way counts face) (cell.level + levels) face cell (loads axes way levels cell)

-- the vertices that it leaves at a face, the last one stored first
abbrev pub leaving : ℕ → Way → (Place → Bool) → ℕ → Face → Place → List Place
leaving axes way counts levels face cell = at_face (goes_across axes way counts face) (cell.level + levels) face cell (reverse (stores axes way levels cell))

-- of these, the cell's own corners, in descending number
abbrev pub in_corners : ℕ → Way → (Place → Bool) → Face → Place → List Place
in_corners axes way counts face cell = arriving axes way counts 0 face cell

abbrev pub out_corners : ℕ → Way → (Place → Bool) → Face → Place → List Place
out_corners axes way counts face cell = leaving axes way counts 0 face cell

-- a vertex is touched in the walk of a cell
abbrev pub is_touched : ℕ → Way → ℕ → Place → Place → Bool
is_touched axes way levels cell vertex = list_any (λ touch. is_same touch.vertex vertex) (loads axes way levels cell)

-- a part of the walk, on one stack: what it takes off the top, what it puts there, and the vertices that it touches
pub record Stretch : Type 0 where
  pub takes : List Place
  pub gives : List Place
  pub touches : Place → Bool

-- Some stretches on a stack, the top first: each finds what it takes on top, and leaves what is beneath as it was.
abbrev pub Stretches : List Stretch → List Place → List Place → Type 0
Stretches [] before after = before ≡ after
Stretches (stretch ∷ stretches) before after = (beneath : List Place) × (before ≡ stretch.takes ++ beneath) × Stretches stretches (stretch.gives ++ beneath) after

-- the same, where besides none of what is beneath is touched in that part of the walk
abbrev pub StretchesApart : List Stretch → List Place → List Place → Type 0
StretchesApart [] before after = before ≡ after
StretchesApart (stretch ∷ stretches) before after =
    (beneath : List Place) × (before ≡ stretch.takes ++ beneath) × (list_any stretch.touches beneath ≡ false) × StretchesApart stretches (stretch.gives ++ beneath) after

-- What the walk of a cell does on one stack, by axis and parity. Each child in stretch takes off what arrives in it, and
-- puts on what it leaves.
abbrev pub child_stretch : ℕ → Way → (Place → Bool) → ℕ → ℕ → ℕ → Place → Stretch
child_stretch axes way counts levels axis parity child = record {
  takes = arriving axes way counts levels (face_on axis parity child) child;
  gives = leaving axes way counts levels (face_on axis parity child) child;
  touches = is_touched axes way levels child;
}

abbrev pub child_stretches : ℕ → Way → (Place → Bool) → ℕ → ℕ → ℕ → Place → List Stretch
child_stretches axes way counts zero axis parity cell = []
child_stretches axes way counts (suc levels) axis parity cell = map (child_stretch axes way counts levels axis parity) (children axes way cell)

-- the cell takes off its own corners before, and puts on its own corners after
abbrev pub corner_stretch : ℕ → Way → Place → List Place → List Place → Stretch
corner_stretch axes way cell takes gives = record { takes = takes; gives = gives; touches = is_touched axes way 0 cell }

abbrev pub cell_stretches : ℕ → Way → (Place → Bool) → ℕ → ℕ → ℕ → Place → List Stretch
cell_stretches axes way counts levels axis parity cell =
    corner_stretch axes way cell (in_corners axes way counts (face_on axis parity cell) cell) []
    ∷ child_stretches axes way counts levels axis parity cell
    ++ corner_stretch axes way cell [] (out_corners axes way counts (face_on axis parity cell) cell) ∷ []

-- the cells for which a vertex is touched, in the order of the touches
abbrev pub touched_for : Place → List Touch → List Place
touched_for vertex touches = map (λ touch. touch.cell) (filter (λ touch. is_same touch.vertex vertex) touches)

-- the step around a vertex by which the walk comes to a cell, none for the first: the pops of its load there
abbrev pub steps_to : ℕ → Way → Place → Place → List (Place × Place)
steps_to axes way vertex cell = filter (λ step. is_same step.1 cell) (steps (around axes way vertex))

-- the step by which it goes on from there, none for the last: the pushes of its store there
abbrev pub steps_from : ℕ → Way → Place → Place → List (Place × Place)
steps_from axes way vertex cell = filter (λ step. is_same step.0 cell) (steps (around axes way vertex))
