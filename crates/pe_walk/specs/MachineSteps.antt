-- The machine of lists as steps of a walk: what it does where a cell is counted, its corners are loaded and stored, and it is
-- entered and left. Between cells its state is what lies on stacks and is in hand; within a cell the corners that are loaded,
-- or not stored yet, are there too.
use Rattle.std.specs.Prelude.{◌≡◌, ℕ, Bool, true, false, List, [], ◌∷◌, length}
use Rattle.pe_base.specs.declared.place.Place.{Place}
use Rattle.pe_base.specs.declared.kind.Kind.{Kind}
use Rattle.pe_base.specs.declared.kind.Kind.TheVariants.{Kept, Born, Dying, Hanging}
use Rattle.pe_base.specs.declared.event.Event.TheVariants.{CreateCell, EnterCell}
use Rattle.pe_base.specs.Acts.Effects.{VertexRecord, AreLawful}
use Rattle.pe_base.specs.Walk.Course.{Course, ends, stuck, and_then, course_map}
use Rattle.pe_base.specs.Walk.Core.{Setting, way, Family, Own, cell_event, leave_touch}
use Rattle.pe_base.specs.Walk.Steps.{Steps, walk}
use Rattle.pe_base.specs.Walk.Touches.{kind_below}
use Rattle.pe_hang.specs.Moves.{lend, pop}
use Rattle.pe_adapt.specs.CountedTouches.{Machine, StreamStacks, load_corner, store_corner}
use Rattle.pe_adapt.specs.TellingCourses.{telling}
use Rattle.pe_walk.specs.Machine.{count_cell, kind_of_cell, cell_goes, inside, outside, walk_cell}

-- the corners of a cell that are in hand, and the rest
abbrev pub Loaded : Type 0
Loaded = List VertexRecord × Machine

-- whether the children of a cell are walked, by their kind
abbrev pub is_walked : Kind → Bool
is_walked Kept = true
is_walked Born = true
is_walked Dying = true
is_walked Hanging = false

module _ {Plan : Type 0} (set : Setting Plan) (streams : StreamStacks) where
  -- a cell's record comes to hand, with its corners: fresh, or from the input
  abbrev pub record_comes : Kind → List VertexRecord → Machine → Course (Own × Machine)
  record_comes Born corners m =
      let fresh = set.rules.fresh_cell set.plan m.family.list in
      course_map
      (λ cells. (record { cell = fresh.numbers; corners = corners }, record m { cells = cells; family = record m.family { list = fresh.list } }))
      (lend m.cells)
  record_comes kind corners m = course_map (λ it. (record { cell = it.0; corners = corners }, record m { cells = it.1 })) (pop streams.cell_input m.cells)

  -- a cell whose record is in hand is entered
  abbrev pub entered : Kind → Place → Own × Family → Course (Own × Family)
  entered Born cell it = and_then (cell_event set CreateCell cell it) (cell_event set EnterCell cell)
  entered kind cell it = cell_event set EnterCell cell it

  abbrev pub with_events : (Own × Family → Course (Own × Family)) → Own × Machine → Course (Own × Machine)
  with_events events it = course_map (λ after. (after.0, record it.1 { family = after.1 })) (events (it.0, it.1.family))

  -- of the corners in hand the first one is stored
  abbrev pub store_first : Place → ℕ → List VertexRecord → Machine → Course Loaded
  store_first cell k [] m = ends stuck
  store_first cell k (it ∷ its) m = course_map (λ m. (its, m)) (store_corner set streams cell k it m)

  abbrev pub machine_steps : Steps telling Machine Loaded (Own × Machine)
  machine_steps = record {
    axes = set.axes;
    way = way set;
    count = λ cell m. course_map (λ m. ([], m)) (count_cell set streams cell m);
    load = λ cell k it. course_map (λ one. (one.0 ∷ it.0, one.1)) (load_corner set streams cell k it.1);
    comes = λ cell it. record_comes (kind_of_cell set streams cell it.1) it.0 it.1;
    enter = λ cell it. with_events (entered (kind_of_cell set streams cell it.1) cell) it;
    goes_on = λ it. is_walked (kind_below it.0.corners);
    down = λ it. inside set streams it.0 it.1;
    up = λ it m. outside set streams it.1 m;
    leave = λ cell it. with_events (λ own. leave_touch set (kind_of_cell set streams cell it.1) cell own.0 own.1) it;
    goes = λ cell it. course_map (λ m. (it.0.corners, m)) (cell_goes set streams (kind_of_cell set streams cell it.1) it.0.cell it.1);
    held = λ it. length it.0;
    store = λ cell k it. store_first cell k it.0 it.1;
    close = λ it. it.1;
  }

-- the walk of these steps is the machine's walk of a cell
abbrev pub StepsAreTheMachine : Type 0 → Type 0
StepsAreTheMachine Plan = (set : Setting Plan) (streams : StreamStacks) → AreLawful set.rules → (levels : ℕ) (cell : Place) (m : Machine)
    → walk (machine_steps set streams) levels cell m ≡ walk_cell set streams levels cell m
