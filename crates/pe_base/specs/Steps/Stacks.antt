-- The corners of a cell by the stacks on which they come to it and go from it.
use Rattle.std.specs.Prelude.{◌≡◌, ℕ, ◌*◌, ◌/◌, ◌%◌, Bool, false, ◌&&◌, ◌==◌, nat_lt, List, [], map, filter, reverse, if◌then◌else◌, slice_index, Option, Some, None}
use Rattle.pe_base.specs.declared.place.Place.{Place}
use Rattle.pe_base.specs.declared.way.Way.{Way}
use Rattle.pe_base.specs.Tree.Places.{is_same}
use Rattle.pe_base.specs.Steps.Routes.{stack_in, stack_out}
use Rattle.pe_base.specs.Steps.Faces.{Face, IsFace, ShareFace, across, plane, stack_of, face_on, Touch, corner_touches, in_corners, out_corners}

-- a stack is the one named, if one is named
abbrev pub is_stack : ℕ → Option ℕ → Bool
is_stack s None = false
is_stack s (Some t) = s == t

-- a vertex that counts comes to a cell by a stack, or goes from it by the stack
abbrev pub comes_by : ℕ → Way → (Place → Bool) → ℕ → Touch → Bool
comes_by axes way counts s touch = counts touch.vertex && is_stack s (stack_in axes way touch.vertex touch.cell)

abbrev pub goes_by : ℕ → Way → (Place → Bool) → ℕ → Touch → Bool
goes_by axes way counts s touch = counts touch.vertex && is_stack s (stack_out axes way touch.vertex touch.cell)

-- A cell's list on a stack: that of the cell's face on it. Stack 2 i + b is that of axis i and parity b; those behind
-- the axes have none.
abbrev pub on_stack : ℕ → (Face → Place → List Place) → ℕ → Place → List Place
on_stack axes lists s cell = if nat_lt s (2 * axes) then lists (face_on (s / 2) (s % 2) cell) cell else []

-- the corners that come by each stack, in the order of their loads, are those of the cell's face on it
abbrev pub ComeByFaces : ℕ → Way → (Place → Bool) → Place → Type 0
ComeByFaces axes way counts cell =
    (s : ℕ) → map (λ touch. touch.vertex) (filter (comes_by axes way counts s) (reverse (corner_touches axes cell)))
    ≡ on_stack axes (in_corners axes way counts) s cell

-- and those that go by it, the last one stored first
abbrev pub GoByFaces : ℕ → Way → (Place → Bool) → Place → Type 0
GoByFaces axes way counts cell =
    (s : ℕ) → map (λ touch. touch.vertex) (filter (goes_by axes way counts s) (reverse (corner_touches axes cell)))
    ≡ on_stack axes (out_corners axes way counts) s cell

-- A corner of a cell comes to it, or goes from it, across no face,
pub record AcrossNone (stack : Option ℕ) (follows : Place → Bool) : Type 0 where
  pub no_stack : stack ≡ None
  pub no_cell : (other : Place) → follows other ≡ false

-- or across one. The vertex lies in the face's plane and takes the face's stack, and the cell across it is the only one
-- from which it comes, or to which it goes.
pub record AcrossOne (axes : ℕ) (vertex cell : Place) (stack : Option ℕ) (follows : Place → Bool) : Type 0 where
  pub face : Face
  pub is_face : IsFace axes face
  pub shared : ShareFace face cell (across face cell)
  pub in_plane : slice_index vertex.pos face.axis ≡ plane face cell
  pub its_stack : stack ≡ Some (stack_of face cell)
  pub its_cell : (other : Place) → follows other ≡ is_same (across face cell) other
