-- The walk by address: of a cell with all below it, and a traversal.
use Rattle.std.specs.Prelude.{ℕ, zero, suc, ◌+◌, ◌-◌, ◌^◌, List, [], ◌∷◌, reverse}
use Rattle.std.specs.List.{range_with_len}
use Rattle.pe_base.specs.declared.place.Place.{Place}
use Rattle.pe_base.specs.declared.kind.Kind.{Kind}
use Rattle.pe_base.specs.declared.kind.Kind.TheVariants.{Kept, Born, Dying, Hanging}
use Rattle.pe_base.specs.declared.event.Event.{Event}
use Rattle.pe_base.specs.declared.event.Event.TheVariants.{BeginIteration, EndIteration}
use Rattle.pe_base.specs.declared.tally.Tally.{Tally}
use Rattle.pe_base.specs.Tree.Places.{root}
use Rattle.pe_base.specs.Tree.Curve.{children}
use Rattle.pe_base.specs.Walk.Course.{Course, at_once, and_then, course_map, each}
use Rattle.pe_base.specs.Walk.Core.{Setting, way, fresh_vertex, plain_event}
use Rattle.pe_base.specs.Walk.Grids.{Grid}
use Rattle.pe_base.specs.Walk.Working.{Working, put_hanging, family_of, begun, ended}
use Rattle.pe_base.specs.Walk.Touches.{kind_of_children, count_cell, load_corner, store_corner, enter_cell, leave_cell}

module _ {Plan : Type 0} (set : Setting Plan) where
  -- the numbers of a cell's corners, ascending
  abbrev pub corner_numbers : List ℕ
  corner_numbers = range_with_len 0 (2 ^ set.axes)

  -- a cell, with what is done below it: it is counted, its corners are loaded in descending number, it is entered and
  -- left, and its corners are stored in ascending number
  abbrev pub around_below : (Working → Course Working) → Place → Place → Working → Course Working
  around_below below parent cell w =
      and_then (count_cell set cell w) (λ w.
      and_then (each (load_corner set parent cell) (reverse corner_numbers) w) (λ w.
      and_then (enter_cell set parent cell w) (λ w.
      and_then (below w) (λ w.
      and_then (leave_cell set parent cell w)
      (each (store_corner set parent cell) corner_numbers)))))

  -- the children are walked unless they are hanging
  abbrev pub if_walked : Kind → (Working → Course Working) → Working → Course Working
  if_walked Kept walks w = walks w
  if_walked Born walks w = walks w
  if_walked Dying walks w = walks w
  if_walked Hanging walks w = at_once w

  -- the walk of a cell with some levels below it
  abbrev pub walk_cell : ℕ → Place → Place → Working → Course Working
  walk_cell zero parent cell = around_below at_once parent cell
  walk_cell (suc levels) parent cell =
      around_below (λ w. if_walked (kind_of_children set w cell) (each (walk_cell levels cell) (children set.axes (way set) cell)) w) parent cell

  -- the root's corners are made, hanging, in descending number, as a traversal begins
  abbrev pub root_corner : ℕ → Working → Working
  root_corner k w =
      let made = fresh_vertex set Hanging root (family_of set.axes w root) in
      put_hanging root k made.0 (record w { list = made.1.list })

  abbrev pub root_corners : List ℕ → Working → Working
  root_corners [] w = w
  root_corners (k ∷ ks) w = root_corners ks (root_corner k w)

  abbrev pub plain : Event → Working → Course Working
  plain event w = course_map (λ list. record w { list = list }) (plain_event set event w.list)

  -- a traversal of the children of the root, and all below them
  abbrev pub walk_root : ℕ → Working → Course Working
  walk_root greatest w =
      and_then (plain BeginIteration (root_corners (reverse corner_numbers) w)) (λ w.
      and_then (each (walk_cell (greatest - 1) root) (children set.axes (way set) root) w)
      (plain EndIteration))

-- the traversal that comes next, with its tally
abbrev pub traverse : {Plan : Type 0} → Setting Plan → Grid → Course (Grid × Tally)
traverse set grid =
    let next = record set { traversal = grid.finished + 1 } in
    course_map (λ w. (ended w grid, w.tally)) (walk_root next grid.greatest (begun next.traversal grid))
