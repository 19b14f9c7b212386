-- The walk on stacks of records, as a machine of lists: no record has an address, and none is looked up. It does what the
-- walk by address does, in the same order, by the same core.
use Rattle.std.specs.Prelude.{ℕ, ℤ, zero, suc, ◌+◌, ◌^◌, Bool, true, false, ◌==◌, nat_lt, List, [], ◌∷◌, if◌then◌else◌}
use Rattle.pe_base.specs.declared.place.Place.{Place}
use Rattle.pe_base.specs.declared.kind.Kind.{Kind}
use Rattle.pe_base.specs.declared.kind.Kind.TheVariants.{Kept, Born, Dying, Hanging}
use Rattle.pe_base.specs.declared.event.Event.{Event}
use Rattle.pe_base.specs.declared.event.Event.TheVariants.{BeginIteration, EndIteration}
use Rattle.pe_base.specs.Tree.Places.{root}
use Rattle.pe_base.specs.Tree.Curve.{children}
use Rattle.pe_base.specs.Acts.Effects.{VertexRecord}
use Rattle.pe_base.specs.Walk.Course.{Course, ends, stuck, halts, limit_at, at_once, and_then, course_map, each, allowed}
use Rattle.pe_base.specs.Walk.Core.{Setting, way, Own, fresh_vertex, plain_event, enter_touch, leave_touch}
use Rattle.pe_base.specs.Walk.Touches.{tally_cell, kind_below}
use Rattle.pe_hang.specs.Moves.{lend, give_up, pop, push}
use Rattle.pe_adapt.specs.CountedTouches.{Machine, StreamStacks, cell_output, tally_may_rise, load_corner, store_corner}

-- corners become the parents, or there are none
abbrev pub with_parents : List VertexRecord → Machine → Machine
with_parents its m = record m { family = record m.family { parents = its } }

-- the kind of a cell, by the corners of its parent
abbrev pub kind_among : ℕ → Place → List VertexRecord → Kind
kind_among traversal cell parents = if cell.level == 1 then (if traversal == 1 then Born else Kept) else kind_below parents

module _ {Plan : Type 0} (set : Setting Plan) (streams : StreamStacks) where
  -- a cell is counted
  abbrev pub within_limit : Place → Machine → Bool → Course Machine
  within_limit cell m true = ends (halts (limit_at cell))
  within_limit cell m false = at_once m

  abbrev pub count_cell : Place → Machine → Course Machine
  count_cell cell m =
      let counted = record m { tally = tally_cell cell m.tally } in
      allowed (tally_may_rise m.tally) (within_limit cell counted (nat_lt set.max_cells counted.tally.cells))

  -- the corners of a cell, in descending number; they are kept in ascending number
  abbrev pub load_all : Place → ℕ → List VertexRecord → Machine → Course (List VertexRecord × Machine)
  load_all cell zero its m = at_once (its, m)
  load_all cell (suc k) its m = and_then (load_corner set streams cell k m) (λ it. load_all cell k (it.0 ∷ its) it.1)

  -- and in ascending number
  abbrev pub store_all : Place → ℕ → List VertexRecord → Machine → Course Machine
  store_all cell k [] m = at_once m
  store_all cell k (it ∷ its) m = and_then (store_corner set streams cell k it m) (store_all cell (k + 1) its)

  -- the kind of a cell, by the corners of its parent in hand
  abbrev pub kind_of_cell : Place → Machine → Kind
  kind_of_cell cell m = kind_among set.traversal cell m.family.parents

  -- a cell's numbers come to hand: fresh, or from the input
  abbrev pub cell_comes : Kind → Machine → Course (List ℤ × Machine)
  cell_comes Born m = course_map (λ cells. ([], record m { cells = cells })) (lend m.cells)
  cell_comes kind m = course_map (λ it. (it.0, record m { cells = it.1 })) (pop streams.cell_input m.cells)

  -- and leave it: given up, or to the output
  abbrev pub cell_goes : Kind → List ℤ → Machine → Course Machine
  cell_goes Dying cell m = course_map (λ cells. record m { cells = cells }) (give_up m.cells)
  cell_goes kind cell m = course_map (λ cells. record m { cells = cells }) (push true (cell_output streams) cell m.cells)

  abbrev pub enter_cell : Place → List VertexRecord → Machine → Course (Own × Machine)
  enter_cell cell corners m =
      let kind = kind_of_cell cell m in
      and_then (cell_comes kind m) (λ come.
      course_map (λ it. (it.0, record come.1 { family = it.1 })) (enter_touch set kind come.0 cell corners come.1.family))

  abbrev pub leave_cell : Place → Own × Machine → Course (List VertexRecord × Machine)
  leave_cell cell it =
      let kind = kind_of_cell cell it.1 in
      and_then (leave_touch set kind cell it.0 it.1.family) (λ after.
      course_map (λ m. (after.0.corners, m)) (cell_goes kind after.0.cell (record it.1 { family = after.1 })))

  -- within a cell its corners and its numbers are those of the parent; coming back, the outer ones are again
  abbrev pub inside : Own → Machine → Machine
  inside own m = record m { family = record { parents = own.corners; parent = own.cell; list = m.family.list } }

  abbrev pub outside : Machine → Machine → Own × Machine
  outside outer m = (
    record { cell = m.family.parent; corners = m.family.parents },
    record m { family = record { parents = outer.family.parents; parent = outer.family.parent; list = m.family.list } },
  )

  abbrev pub if_walked : Kind → (Own × Machine → Course (Own × Machine)) → Own × Machine → Course (Own × Machine)
  if_walked Kept walks it = walks it
  if_walked Born walks it = walks it
  if_walked Dying walks it = walks it
  if_walked Hanging walks it = at_once it

  -- the walk of a cell, with so many levels from its own one down
  abbrev pub walk_cell : ℕ → Place → Machine → Course Machine
  walk_cell zero cell m = ends stuck
  walk_cell (suc levels) cell m =
      and_then (count_cell cell m) (λ m.
      and_then (load_all cell (2 ^ set.axes) [] m) (λ it.
      and_then (enter_cell cell it.0 it.1) (λ it.
      and_then (if_walked (kind_below it.0.corners)
      (λ it. course_map (outside it.1) (each (walk_cell levels) (children set.axes (way set) cell) (inside it.0 it.1))) it) (λ it.
      and_then (leave_cell cell it) (λ it.
      store_all cell 0 it.0 it.1)))))

  -- the root's corners are made, hanging, and lent
  abbrev pub root_corners : ℕ → List VertexRecord → Machine → Course (List VertexRecord × Machine)
  root_corners zero its m = at_once (its, m)
  root_corners (suc k) its m =
      let made = fresh_vertex set Hanging root m.family in
      and_then (lend m.vertices) (λ vertices. root_corners k (made.0 ∷ its) (record m { vertices = vertices; family = made.1 }))

  -- and given up
  abbrev pub give_up_all : List VertexRecord → Machine → Course Machine
  give_up_all [] m = at_once m
  give_up_all (it ∷ its) m = and_then (give_up m.vertices) (λ vertices. give_up_all its (record m { vertices = vertices }))

  abbrev pub plain : Event → Machine → Course Machine
  plain event m = course_map (λ list. record m { family = record m.family { list = list } }) (plain_event set event m.family.list)

  -- a traversal: in the family there is the root's record, and before and after it there are no parents
  abbrev pub traverse : ℕ → Machine → Course Machine
  traverse greatest m =
      and_then (root_corners (2 ^ set.axes) [] m) (λ it.
      and_then (plain BeginIteration (with_parents it.0 it.1)) (λ m.
      and_then (each (walk_cell greatest) (children set.axes (way set) root) m) (λ m.
      and_then (plain EndIteration m) (λ m. give_up_all m.family.parents (with_parents [] m)))))
