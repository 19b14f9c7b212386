-- The laws of the walk, over the lists of faces that `pe_base` defines.
--
-- They hold for each number of axes from two to four, each way, each number of levels below a cell, and each choice of
-- the vertices that count. In a walk the vertices that are not hanging count.
use Rattle.std.specs.Prelude.{◌≡◌, ◌⊎◌, ℕ, suc, ◌+◌, ◌*◌, ◌^◌, ◌<◌, ◌≤◌, Bool, true, false, List, [], ◌++◌, take, length, slice_index_or}
use Rattle.std.specs.List.{flat_map, list_any, All, Contains}
use Rattle.pe_base.specs.declared.place.Place.{Place}
use Rattle.pe_base.specs.declared.way.Way.{Way}
use Rattle.pe_base.specs.Tree.Dim.{IsDim}
use Rattle.pe_base.specs.Tree.Places.{root, IsPosition, IsInside, corner, is_same}
use Rattle.pe_base.specs.Tree.Curve.{children, order}
use Rattle.pe_base.specs.Steps.Around.{around, steps}
use Rattle.pe_base.specs.Steps.Routes.{stack_in, stack_out}
use Rattle.pe_base.specs.Steps.Stacks.{AcrossNone, AcrossOne, ComeByFaces, GoByFaces}
use Rattle.pe_base.specs.Steps.Faces.{Face, IsFace, facing, ShareFace, across, stack_of, face_on, loads, stores, arriving, leaving, in_corners, out_corners, is_touched, is_step, Stretches, StretchesApart, Stretch, cell_stretches, touched_for, steps_to, steps_from}

-- a cell of the tree
abbrev pub IsCell : ℕ → Way → Place → Type 0
IsCell axes way cell = Contains (order axes way cell.level) cell

-- The cells of the tree are the root and, of each of them, the children: they are the places of cells, of any level.
pub record Tree (axes : ℕ) (way : Way) : Type 0 where
  pub root_is_cell : IsCell axes way root
  pub child_is_cell : (cell child : Place) → IsCell axes way cell → Contains (children axes way cell) child → IsCell axes way child
  pub place_is_cell : (cell : Place) → IsPosition axes (3 ^ cell.level) cell.pos → IsCell axes way cell
  pub cell_is_place : (cell : Place) → IsCell axes way cell → IsPosition axes (3 ^ cell.level) cell.pos

abbrev pub CellsOfTheTree : Type 0
CellsOfTheTree = (axes : ℕ) (way : Way) → IsDim axes → Tree axes way

-- Neighbours agree. What a cell leaves at a face is what arrives in its neighbour there, in one order. It holds
-- whichever of the two comes first in the walk; where the neighbour does, both lists are empty, by the next law.
abbrev pub NeighboursAgree : Type 0
NeighboursAgree = (axes : ℕ) (way : Way) (counts : Place → Bool) (levels : ℕ) (face : Face) (cell neighbour : Place) → IsDim axes → IsFace axes face → IsCell axes way cell → ShareFace face cell neighbour
    → leaving axes way counts levels face cell ≡ arriving axes way counts levels (facing face) neighbour

-- an item of a list comes before another
abbrev pub ComesBefore : {X : Type 0} → List X → X → X → Type 0
ComesBefore xs a b = (i : ℕ) × (j : ℕ) × (i < j) × (j < length xs) × (slice_index_or xs i a ≡ a) × (slice_index_or xs j b ≡ b)

-- Each face is used one way. At a face to an earlier neighbour nothing is left, at one to a later neighbour nothing
-- arrives, and at one with no neighbour in the root neither.
pub record UsedOneWay (axes : ℕ) (way : Way) (counts : Place → Bool) (levels : ℕ) (face : Face) (cell : Place) : Type 0 where
  pub earlier : (neighbour : Place) → ShareFace face cell neighbour → ComesBefore (order axes way cell.level) neighbour cell → leaving axes way counts levels face cell ≡ []
  pub later : (neighbour : Place) → ShareFace face cell neighbour → ComesBefore (order axes way cell.level) cell neighbour → arriving axes way counts levels face cell ≡ []
  pub outside : ((neighbour : Place) → IsCell axes way neighbour → ShareFace face cell neighbour → ⊥) → (arriving axes way counts levels face cell ≡ []) × (leaving axes way counts levels face cell ≡ [])

abbrev pub FacesAreOneWay : Type 0
FacesAreOneWay = (axes : ℕ) (way : Way) (counts : Place → Bool) (levels : ℕ) (face : Face) (cell : Place) → IsDim axes → IsFace axes face → IsCell axes way cell → UsedOneWay axes way counts levels face cell

-- A cell has one face on each stack of its axes.
abbrev pub OneFaceOnEach : Type 0
OneFaceOnEach = (axis parity : ℕ) (cell : Place) → parity < 2 → stack_of (face_on axis parity cell) cell ≡ 2 * axis + parity

-- Composition. On each stack that has a cell's arriving list on top, the walk of the cell takes off its own corners, lets
-- each child replace its arriving list on top by its leaving list, and puts its own corners on. Each list is on top
-- when it is wanted, and the cell's leaving list is left on what was beneath.
abbrev pub Composition : Type 0
Composition = (axes : ℕ) (way : Way) (counts : Place → Bool) (levels axis parity : ℕ) (cell : Place) → IsDim axes → axis < axes → IsCell axes way cell → (beneath : List Place)
    → Stretches (cell_stretches axes way counts levels axis parity cell)
    (arriving axes way counts levels (face_on axis parity cell) cell ++ beneath)
    (leaving axes way counts levels (face_on axis parity cell) cell ++ beneath)

-- Stretches one after another: the latter find what the former leave.
pub record Joined (stretches more : List Stretch) (before after : List Place) : Type 0 where
  pub join : (between : List Place) → Stretches stretches before between → Stretches more between after → Stretches (stretches ++ more) before after
  pub split : Stretches (stretches ++ more) before after → (between : List Place) × Stretches stretches before between × Stretches more between after

abbrev pub StretchesJoin : Type 0
StretchesJoin = (stretches more : List Stretch) (before after : List Place) → Joined stretches more before after

-- What lies beneath is not touched. Where the walk of a cell touches nothing of what lies beneath its lists, no child
-- touches anything of what lies beneath its own, nor do the loads and stores of the cell's corners.
abbrev pub BeneathUntouched : Type 0
BeneathUntouched = (axes : ℕ) (way : Way) (counts : Place → Bool) (levels axis parity : ℕ) (cell : Place) → IsDim axes → axis < axes → IsCell axes way cell
    → (beneath : List Place) → list_any (is_touched axes way levels cell) beneath ≡ false
    → StretchesApart (cell_stretches axes way counts levels axis parity cell)
    (arriving axes way counts levels (face_on axis parity cell) cell ++ beneath)
    (leaving axes way counts levels (face_on axis parity cell) cell ++ beneath)

-- What a walk stores it has loaded, and the other way round: so a vertex is touched in both or in neither.
abbrev pub StoresAsLoads : Type 0
StoresAsLoads = (axes : ℕ) (way : Way) (levels : ℕ) (cell vertex : Place) → list_any (λ touch. is_same touch.vertex vertex) (stores axes way levels cell) ≡ is_touched axes way levels cell vertex

-- The loads of a vertex and its stores: each is for the cells around it, in the order of the walk; after n loads the pops
-- are the steps among the first n cells, and after n stores the pushes are the steps among the first n + 1.
pub record Counted (axes : ℕ) (way : Way) (levels : ℕ) (vertex : Place) : Type 0 where
  pub loaded : touched_for vertex (loads axes way levels root) ≡ around axes way vertex
  pub stored : touched_for vertex (stores axes way levels root) ≡ around axes way vertex
  pub popped : (n : ℕ) → flat_map (steps_to axes way vertex) (take n (around axes way vertex)) ≡ steps (take n (around axes way vertex))
  pub pushed : (n : ℕ) → flat_map (steps_from axes way vertex) (take n (around axes way vertex)) ≡ steps (take (suc n) (around axes way vertex))

abbrev pub TouchedInOrder : Type 0
TouchedInOrder = (axes : ℕ) (way : Way) (levels : ℕ) (vertex : Place) → IsDim axes → IsInside axes vertex → vertex.level ≤ levels → Counted axes way levels vertex

-- The cells for which the walk of a cell loads a vertex stand together in the list around the vertex.
abbrev pub StandTogether : Type 0
StandTogether = (axes : ℕ) (way : Way) (levels : ℕ) (cell vertex : Place) → IsDim axes → IsCell axes way cell → IsInside axes vertex
    → (before : List Place) × (behind : List Place) × (around axes way vertex ≡ before ++ (touched_for vertex (loads axes way levels cell) ++ behind))

-- Each step around an inside vertex crosses one face, and no other lies between the two cells.
pub record Crosses (axes : ℕ) (a b : Place) : Type 0 where
  pub face : Face
  pub is_face : IsFace axes face
  pub shared : ShareFace face a b
  pub alone : (other : Face) → IsFace axes other → ShareFace other a b → other ≡ face

abbrev pub StepsCrossFaces : Type 0
StepsCrossFaces = (axes : ℕ) (way : Way) (vertex a b : Place) → IsDim axes → IsInside axes vertex → is_step axes way vertex a b ≡ true → Crosses axes a b

-- A corner of a cell comes to the cell across no face, or across one, and by the face's stack; it goes likewise.
pub record CrossesOnce (axes : ℕ) (way : Way) (cell vertex : Place) : Type 0 where
  pub comes : AcrossNone (stack_in axes way vertex cell) (λ other. is_step axes way vertex other cell)
      ⊎ AcrossOne axes vertex cell (stack_in axes way vertex cell) (λ other. is_step axes way vertex other cell)
  pub goes : AcrossNone (stack_out axes way vertex cell) (λ other. is_step axes way vertex cell other)
      ⊎ AcrossOne axes vertex cell (stack_out axes way vertex cell) (λ other. is_step axes way vertex cell other)

abbrev pub CornersCrossOnce : Type 0
CornersCrossOnce = (axes : ℕ) (way : Way) (cell : Place) (k : ℕ) → IsDim axes → IsCell axes way cell → k < 2 ^ axes → CrossesOnce axes way cell (corner axes cell k)

-- So the corners that come by a stack are those of the cell's face on it, and those that go by it likewise.
pub record StacksAreFaces (axes : ℕ) (way : Way) (counts : Place → Bool) (cell : Place) : Type 0 where
  pub come : ComeByFaces axes way counts cell
  pub go : GoByFaces axes way counts cell

abbrev pub CornersOnStacks : Type 0
CornersOnStacks = (axes : ℕ) (way : Way) (counts : Place → Bool) (cell : Place) → IsDim axes → IsCell axes way cell → StacksAreFaces axes way counts cell

-- There the one cell leaves the vertex, and it arrives in the other, if it counts.
abbrev pub StepsAreCorners : Type 0
StepsAreCorners = (axes : ℕ) (way : Way) (counts : Place → Bool) (vertex a b : Place) (face : Face) → IsDim axes → IsInside axes vertex → counts vertex ≡ true → is_step axes way vertex a b ≡ true → IsFace axes face → ShareFace face a b
    → Contains (out_corners axes way counts face a) vertex × Contains (in_corners axes way counts (facing face) b) vertex

-- And a cell's own corners at a face are vertices of such steps alone.
abbrev pub CornersAreSteps : Type 0
CornersAreSteps = (axes : ℕ) (way : Way) (counts : Place → Bool) (face : Face) (cell vertex : Place) → IsDim axes → IsFace axes face → IsCell axes way cell
    → (Contains (in_corners axes way counts face cell) vertex → (counts vertex ≡ true) × (is_step axes way vertex (across face cell) cell ≡ true))
    × (Contains (out_corners axes way counts face cell) vertex → (counts vertex ≡ true) × (is_step axes way vertex cell (across face cell) ≡ true))

-- Which cells of an adaptive grid are walked, and which vertices count there: the root's children are walked; a cell of
-- the tree is walked only if its parent is, and all its children are or none; what counts lies inside the root, and all
-- cells around it are walked.
pub record IsWalk (axes : ℕ) (way : Way) (walked counts : Place → Bool) : Type 0 where
  pub first : (child : Place) → Contains (children axes way root) child → walked child ≡ true
  pub parents : (cell child : Place) → IsCell axes way cell → Contains (children axes way cell) child → walked child ≡ true → walked cell ≡ true
  pub all_or_none : (cell child other : Place) → IsCell axes way cell → Contains (children axes way cell) child → Contains (children axes way cell) other → walked child ≡ walked other
  pub inside : (vertex : Place) → counts vertex ≡ true → IsInside axes vertex
  pub all_around : (vertex : Place) → counts vertex ≡ true → All (λ cell. walked cell ≡ true) (around axes way vertex)

-- Nothing arrives in a cell that is not walked, and nothing is left there.
abbrev pub UnwalkedIsEmpty : Type 0
UnwalkedIsEmpty = (axes : ℕ) (way : Way) (walked counts : Place → Bool) (levels : ℕ) (face : Face) (cell : Place) → IsDim axes → IsWalk axes way walked counts → IsFace axes face → IsCell axes way cell → walked cell ≡ false
    → (arriving axes way counts levels face cell ≡ []) × (leaving axes way counts levels face cell ≡ [])

-- So a cell whose children are not walked is loads and stores alone: its own corners are its lists.
abbrev pub LeafIsCorners : Type 0
LeafIsCorners = (axes : ℕ) (way : Way) (walked counts : Place → Bool) (levels : ℕ) (face : Face) (cell : Place) → IsDim axes → IsWalk axes way walked counts → IsFace axes face → IsCell axes way cell
    → ((child : Place) → Contains (children axes way cell) child → walked child ≡ false)
    → (arriving axes way counts levels face cell ≡ in_corners axes way counts face cell) × (leaving axes way counts levels face cell ≡ out_corners axes way counts face cell)
