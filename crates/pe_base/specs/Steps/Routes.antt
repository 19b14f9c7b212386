-- How a vertex goes from cell to cell around it: the face that each step crosses, and the stack on which the
-- vertex waits meanwhile.
--
-- Around an inside vertex of the plane, where axis 0 is slower than axis 1, the four cells are visited as numbered.
-- The steps from 1 to 2 and from 3 to 4 cross axis 1, that from 2 to 3 crosses axis 0:
--
--     2 3
--     1 4
use Rattle.std.specs.Prelude.{◌≡◌, ℕ, ◌+◌, ◌*◌, ◌%◌, ◌^◌, ◌<◌, All, count_by, length, ◌==◌, if◌then◌else◌, List, [], ◌∷◌, Option, find, slice_index}
use Rattle.std.specs.Option.{option_map}
use Rattle.pe_base.specs.declared.place.Place.{Place}
use Rattle.pe_base.specs.declared.way.Way.{Way}
use Rattle.pe_base.specs.declared.way.Way.TheVariants.{Forward, Inverted}
use Rattle.pe_base.specs.Tree.Places.{is_same}
use Rattle.pe_base.specs.Steps.Around.{around, crossings, steps}
use Rattle.pe_base.specs.Steps.Faces.{IsFace, ShareFace}

-- an inverted walk turns each axis once more than a forward one
abbrev pub way_turns : Way → ℕ
way_turns Forward = 0
way_turns Inverted = 1

-- the first axis on which two positions differ
abbrev pub axis_between : List ℕ → List ℕ → ℕ
axis_between [] ys = 0
axis_between (x ∷ xs) [] = 0
axis_between (x ∷ xs) (y ∷ ys) = if x == y then axis_between xs ys + 1 else 0

-- the axis across which a step goes
abbrev pub axis_of : Place × Place → ℕ
axis_of step = axis_between step.0.pos step.1.pos

-- the temporary stack on which a vertex waits while it crosses a face normal to an axis
abbrev pub waiting_stack : Place → ℕ → ℕ
waiting_stack vertex axis = 2 * axis + slice_index vertex.pos axis % 2

-- the step around a vertex that ends at a cell, from the cell before it
abbrev pub step_to : ℕ → Way → Place → Place → Option (Place × Place)
step_to axes way vertex cell = find (λ step. is_same step.1 cell) (steps (around axes way vertex))

-- the step around a vertex that begins at a cell, to the cell after it
abbrev pub step_from : ℕ → Way → Place → Place → Option (Place × Place)
step_from axes way vertex cell = find (λ step. is_same step.0 cell) (steps (around axes way vertex))

-- the stack from which a cell takes a vertex; none for the first of the cells around it, which takes it from the stream
abbrev pub stack_in : ℕ → Way → Place → Place → Option ℕ
stack_in axes way vertex cell = option_map (λ step. waiting_stack vertex (axis_of step)) (step_to axes way vertex cell)

-- the stack to which a cell gives a vertex; none for the last of the cells around it, which gives it to the stream
abbrev pub stack_out : ℕ → Way → Place → Place → Option ℕ
stack_out axes way vertex cell = option_map (λ step. waiting_stack vertex (axis_of step)) (step_from axes way vertex cell)

-- around a vertex there are as many cells as a cell has corners
abbrev pub HasCells : ℕ → Way → Place → Type 0
HasCells axes way vertex = length (around axes way vertex) ≡ 2 ^ axes

-- each step around a vertex goes across a face
abbrev pub StepsAcrossFaces : ℕ → Way → Place → Type 0
StepsAcrossFaces axes way vertex =
    All (λ step. (side : ℕ) × IsFace axes (record { axis = axis_of step; side = side }) × ShareFace (record { axis = axis_of step; side = side }) step.0 step.1)
    (steps (around axes way vertex))

-- the steps around a vertex cross each axis as often as it has slower axes to be doubled by
abbrev pub CrossesEachAxis : ℕ → Way → Place → Type 0
CrossesEachAxis axes way vertex =
    (axis : ℕ) → axis < axes → count_by (λ step. axis_of step == axis) (steps (around axes way vertex)) ≡ crossings axes vertex axis
