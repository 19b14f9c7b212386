-- The steps of the machine of lists, walked, are its walk: what it does within a cell is the same, however it is grouped. The
-- kind of a cell is taken again when the cell goes, from the corners of the parent as its leave has left them: they are as old
-- and as new as before.
use Rattle.std.proofs.Common.{◌≡◌, ℕ, ℤ, zero, suc, ◌+◌, ◌-◌, ◌^◌, Bool, List, [], ◌∷◌, length, refl, sym, ap, ap₂, ◌∙◌}
use Rattle.std.proofs.lemmas.List.{append-nil}
use Rattle.pe_base.specs.declared.place.Place.{Place}
use Rattle.pe_base.specs.declared.kind.Kind.{Kind}
use Rattle.pe_base.specs.declared.kind.Kind.TheVariants.{Kept, Born, Dying, Hanging}
use Rattle.pe_base.specs.Tree.Curve.{children}
use Rattle.pe_base.specs.Acts.Effects.{VertexRecord, AreLawful}
use Rattle.pe_base.specs.Walk.Course.{Ending, done, halts, stuck, Course, at_once, behind, from, and_then, course_map, each}
use Rattle.pe_base.specs.Walk.Core.{Setting, way, Own, enter_touch, leave_touch}
use Rattle.pe_base.specs.Walk.Steps.{loads, stores, in_turn, if_on, walks_children, walks_below, visits_open, visits, walk}
use Rattle.pe_base.specs.Walk.Touches.{kind_below}
use Rattle.pe_stacks.specs.Holdings.{Holdings}
use Rattle.pe_hang.specs.InHand.{ages_of}
use Rattle.pe_hang.specs.Moves.{lend, pop}
use Rattle.pe_adapt.specs.CountedTouches.{Machine, StreamStacks, load_corner, store_corner}
use Rattle.pe_walk.specs.CoreKeeps.{AreAlike}
use Rattle.pe_walk.specs.Machine.{kind_of_cell, cell_comes, cell_goes, count_cell, load_all, store_all, enter_cell, leave_cell, inside, outside, if_walked, walk_cell}
use Rattle.pe_walk.specs.MachineSteps.{Loaded, is_walked, record_comes, entered, with_events, machine_steps}
use Rattle.pe_walk.proofs.AgeLaws.{kind_among-kept}
use Rattle.pe_walk.proofs.Simulation.CoreLaws.{core_keeps}
use Rattle.pe_walk.proofs.Simulation.Matching.{turned-then, then-grouped}

-- what goes on alike from a course that is done
then-alike-done : {X Y : Type 0} (first : Course X) (f g : X → Course Y) → ((x : X) → first.ending ≡ done x → f x ≡ g x) → and_then first f ≡ and_then first g
then-alike-done {X = X} first f g same = ap (λ rest. behind first.text first.log rest) (go first.ending refl)
  where
    go : (e : Ending X) → first.ending ≡ e → from e f ≡ from e g
    go (done x) is = same x is
    go (halts cause) is = refl
    go stuck is = refl

-- whatever its result
then-alike : {X Y : Type 0} (first : Course X) (f g : X → Course Y) → ((x : X) → f x ≡ g x) → and_then first f ≡ and_then first g
then-alike first f g same = then-alike-done first f g (λ x is. same x)

-- and where nothing goes on from it
then-nothing : {X : Type 0} (course : Course X) → and_then course at_once ≡ course
then-nothing {X = X} course = go course.ending
  where
    go : (e : Ending X) → behind course.text course.log (from e at_once) ≡ record { text = course.text; log = course.log; ending = e }
    go (done x) = ap₂ (λ text log. record { text = text; log = log; ending = done x }) (append-nil course.text) (append-nil course.log)
    go (halts cause) = ap₂ (λ text log. record { text = text; log = log; ending = halts cause }) (append-nil course.text) (append-nil course.log)
    go stuck = ap₂ (λ text log. record { text = text; log = log; ending = stuck }) (append-nil course.text) (append-nil course.log)

-- alike vertices are as old and as new
ages-alike : (greatest level : ℕ) (its its' : List VertexRecord) → AreAlike greatest level its its' → ages_of its' ≡ ages_of its
ages-alike greatest level [] [] alike = refl
ages-alike greatest level [] (b ∷ bs) alike = absurd alike
ages-alike greatest level (a ∷ as') [] alike = absurd alike
ages-alike greatest level (a ∷ as') (b ∷ bs) alike =
    ap₂ (λ (age : Bool × Bool) ages. age ∷ ages) (ap₂ (λ (old new : Bool). (old, new)) alike.0.old alike.0.new) (ages-alike greatest level as' bs alike.1)

module _ {Plan : Type 0} (set : Setting Plan) (streams : StreamStacks) where
  -- the corners are loaded
  pub loads-are : (cell : Place) (k : ℕ) (its : List VertexRecord) (m : Machine) → loads (machine_steps set streams) cell k (its, m) ≡ load_all set streams cell k its m
  loads-are cell zero its m = refl
  loads-are cell (suc k) its m =
      turned-then (load_corner set streams cell k m) (λ one. (one.0 ∷ its, one.1)) (loads (machine_steps set streams) cell k)
      ∙ then-alike (load_corner set streams cell k m) _ _ (λ one. loads-are cell k (one.0 ∷ its) one.1)

  -- and stored, and none is left in hand
  pub stores-end : (cell : Place) (k : ℕ) (its : List VertexRecord) (m : Machine)
      → stores (machine_steps set streams) cell k (length its) (its, m) ≡ course_map (λ m. ([], m)) (store_all set streams cell k its m)
  stores-end cell k [] m = refl
  stores-end cell k (it ∷ its) m =
      let store = store_corner set streams cell k it m in
      turned-then store (λ m. (its, m)) (stores (machine_steps set streams) cell (k + 1) (length its))
      ∙ then-alike store (λ m. stores (machine_steps set streams) cell (k + 1) (length its) (its, m)) (λ m. course_map (λ m. ([], m)) (store_all set streams cell (k + 1) its m))
      (stores-end cell (k + 1) its)
      ∙ sym (then-grouped store (store_all set streams cell (k + 1) its) (λ m. at_once ([], m)))

  pub stores-are : (cell : Place) (k : ℕ) (its : List VertexRecord) (m : Machine)
      → course_map (λ it. it.1) (stores (machine_steps set streams) cell k (length its) (its, m)) ≡ store_all set streams cell k its m
  stores-are cell k its m =
      ap (course_map (λ (it : Loaded). it.1)) (stores-end cell k its m)
      ∙ turned-then (store_all set streams cell k its m) (λ m. ([], m)) (λ (it : Loaded). at_once it.1)
      ∙ then-nothing (store_all set streams cell k its m)

  -- a cell's record comes, and it is entered
  enters-found : (cell : Place) (its : List VertexRecord) (m : Machine) (kind : Kind) → kind_of_cell set streams cell m ≡ kind
      → and_then {X = Own × Machine} (course_map (λ it. (record { cell = it.0; corners = its }, record m { cells = it.1 })) (pop streams.cell_input m.cells))
      ((machine_steps set streams).enter cell)
      ≡ and_then {X = List ℤ × Machine} (course_map (λ it. (it.0, record m { cells = it.1 })) (pop streams.cell_input m.cells))
      (λ come. with_events set streams (entered set streams kind cell) (record { cell = come.0; corners = its }, come.1))
  enters-found cell its m kind is =
      let popped = pop streams.cell_input m.cells in
      let entering : List ℤ × Machine → Course (Own × Machine) = λ come. with_events set streams (entered set streams kind cell) (record { cell = come.0; corners = its }, come.1) in
      turned-then popped (λ it. (record { cell = it.0; corners = its }, record m { cells = it.1 })) ((machine_steps set streams).enter cell)
      ∙ then-alike popped _ _ (λ it. ap (λ kind. with_events set streams (entered set streams kind cell) (record { cell = it.0; corners = its }, record m { cells = it.1 })) is)
      ∙ sym (turned-then popped (λ it. (it.0, record m { cells = it.1 })) entering)

  enters-born : (cell : Place) (its : List VertexRecord) (m : Machine) → kind_of_cell set streams cell m ≡ Born
      → and_then (record_comes set streams Born its m) ((machine_steps set streams).enter cell)
      ≡ and_then (cell_comes set streams Born m) (λ come. course_map (λ it. (it.0, record come.1 { family = it.1 })) (enter_touch set Born come.0 cell its come.1.family))
  enters-born cell its m is =
      let fresh = set.rules.fresh_cell set.plan m.family.list in
      let made : Holdings (List ℤ) → Own × Machine = λ cells. (record { cell = fresh.numbers; corners = its }, record m { cells = cells; family = record m.family { list = fresh.list } }) in
      turned-then (lend m.cells) made ((machine_steps set streams).enter cell)
      ∙ then-alike (lend m.cells) _ _ (λ cells. ap (λ kind. with_events set streams (entered set streams kind cell) (made cells)) is)
      ∙ sym (turned-then (lend m.cells) (λ cells. ([], record m { cells = cells }))
      (λ come. course_map (λ it. (it.0, record come.1 { family = it.1 })) (enter_touch set Born come.0 cell its come.1.family)))

  enters-as : (cell : Place) (its : List VertexRecord) (m : Machine) (kind : Kind) → kind_of_cell set streams cell m ≡ kind
      → and_then (record_comes set streams kind its m) ((machine_steps set streams).enter cell)
      ≡ and_then (cell_comes set streams kind m) (λ come. course_map (λ it. (it.0, record come.1 { family = it.1 })) (enter_touch set kind come.0 cell its come.1.family))
  enters-as cell its m Born is = enters-born cell its m is
  enters-as cell its m Kept is = enters-found cell its m Kept is
  enters-as cell its m Dying is = enters-found cell its m Dying is
  enters-as cell its m Hanging is = enters-found cell its m Hanging is

  -- a cell is left, and its record goes
  leaves-as : AreLawful set.rules → (cell : Place) (it : Own × Machine)
      → and_then ((machine_steps set streams).leave cell it) ((machine_steps set streams).goes cell) ≡ leave_cell set streams cell it
  leaves-as lawful cell it =
      let kind = kind_of_cell set streams cell it.1 in
      let leave = leave_touch set kind cell it.0 it.1.family in
      turned-then leave (λ after. (after.0, record it.1 { family = after.1 })) ((machine_steps set streams).goes cell)
      ∙ then-alike-done leave _ _ (λ after is.
      let kept = (core_keeps set lawful).leaves kind cell it.0 it.1.family after is in
      ap (λ kind. course_map (λ m. (after.0.corners, m)) (cell_goes set streams kind after.0.cell (record it.1 { family = after.1 })))
      (kind_among-kept it.1.family.parents after.1.parents (ages-alike (set.rules.greatest set.plan) (cell.level - 1) it.1.family.parents after.1.parents kept.1) set.traversal cell))

  -- the children of a cell are walked, where each is walked so
  in_turn-are : (walks walks' : Place → Machine → Course Machine) → ((cell : Place) (m : Machine) → walks cell m ≡ walks' cell m) → (cells : List Place) (m : Machine)
      → in_turn (machine_steps set streams) walks cells m ≡ each walks' cells m
  in_turn-are walks walks' same [] m = refl
  in_turn-are walks walks' same (cell ∷ cells) m =
      ap (λ first. and_then first (in_turn (machine_steps set streams) walks cells)) (same cell m)
      ∙ then-alike (walks' cell m) (in_turn (machine_steps set streams) walks cells) (each walks' cells) (in_turn-are walks walks' same cells)

  -- what is done within a cell, where the walks of its children are alike
  module _ (lawful : AreLawful set.rules) (levels : ℕ) (cell : Place) where
    abbrev walks : Place → Machine → Course Machine
    walks = walk (machine_steps set streams) levels

    abbrev ChildrenAre : Type 0
    ChildrenAre = (m : Machine) → walks_children (machine_steps set streams) walks cell m ≡ each (walk_cell set streams levels) (children set.axes (way set) cell) m

    abbrev below : Kind → Own × Machine → Course (Own × Machine)
    below kind it = if_walked set streams kind (λ it. course_map (outside set streams it.1) (each (walk_cell set streams levels) (children set.axes (way set) cell) (inside set streams it.0 it.1))) it

    if_on-is : ChildrenAre → (it : Own × Machine) (kind : Kind) → if_on (machine_steps set streams) (is_walked kind) (walks_children (machine_steps set streams) walks cell) it ≡ below kind it
    if_on-is same it Kept = ap (course_map (outside set streams it.1)) (same (inside set streams it.0 it.1))
    if_on-is same it Born = ap (course_map (outside set streams it.1)) (same (inside set streams it.0 it.1))
    if_on-is same it Dying = ap (course_map (outside set streams it.1)) (same (inside set streams it.0 it.1))
    if_on-is same it Hanging = refl

    abbrev storing : List VertexRecord × Machine → Course Machine
    storing it = store_all set streams cell 0 it.0 it.1

    abbrev after : Own × Machine → Course Machine
    after it = and_then (below (kind_below it.0.corners) it) (λ it. and_then (leave_cell set streams cell it) storing)

    -- from the moment on in which a cell is left
    abbrev ends_as : Own × Machine → Course Machine
    ends_as it = course_map (λ it. it.1) (and_then ((machine_steps set streams).goes cell it) (λ it. stores (machine_steps set streams) cell 0 (length it.0) it))

    leaving-is : (it : Own × Machine) → and_then ((machine_steps set streams).leave cell it) ends_as ≡ and_then (leave_cell set streams cell it) storing
    leaving-is it =
        let steps = machine_steps set streams in
        let close = λ (it : Loaded). course_map (λ (it : Loaded). it.1) (stores steps cell 0 (length it.0) it) in
        then-alike (steps.leave cell it) ends_as (λ it. and_then (steps.goes cell it) close)
        (λ it. then-grouped (steps.goes cell it) (λ it. stores steps cell 0 (length it.0) it) (λ it. at_once it.1))
        ∙ sym (then-grouped (steps.leave cell it) (steps.goes cell) close)
        ∙ ap (λ left. and_then left close) (leaves-as lawful cell it)
        ∙ then-alike (leave_cell set streams cell it) close storing (λ it. stores-are cell 0 it.0 it.1)

    -- from the moment on in which it is entered
    visiting-is : ChildrenAre → (it : Own × Machine) → and_then (visits_open (machine_steps set streams) walks cell it) ends_as ≡ and_then ((machine_steps set streams).enter cell it) after
    visiting-is same it =
        let steps = machine_steps set streams in
        then-grouped (steps.enter cell it) (λ it. and_then (walks_below steps walks cell it) (steps.leave cell)) ends_as
        ∙ then-alike (steps.enter cell it) (λ it. and_then (and_then (walks_below steps walks cell it) (steps.leave cell)) ends_as) after (λ it.
        then-grouped (walks_below steps walks cell it) (steps.leave cell) ends_as
        ∙ ap (λ below. and_then below (λ it. and_then (steps.leave cell it) ends_as)) (if_on-is same it (kind_below it.0.corners))
        ∙ then-alike (below (kind_below it.0.corners) it) (λ it. and_then (steps.leave cell it) ends_as) (λ it. and_then (leave_cell set streams cell it) storing) leaving-is)

    -- from the moment on in which its corners are loaded
    abbrev visits_loaded : Loaded → Course Loaded
    visits_loaded it =
        and_then ((machine_steps set streams).comes cell it) (λ it.
        and_then (visits_open (machine_steps set streams) walks cell it) (λ it.
        and_then ((machine_steps set streams).goes cell it) (λ it.
        stores (machine_steps set streams) cell 0 (length it.0) it)))

    within-is : ChildrenAre → (it : Loaded)
        → and_then (visits_loaded it) (λ it. at_once it.1) ≡ and_then (enter_cell set streams cell it.0 it.1) after
    within-is same it =
        let steps = machine_steps set streams in
        let rest = λ (it : Own × Machine). and_then (visits_open steps walks cell it) (λ it. and_then (steps.goes cell it) (λ it. stores steps cell 0 (length it.0) it)) in
        let close = λ (it : Loaded). at_once it.1 in
        then-grouped (steps.comes cell it) rest close
        ∙ then-alike (steps.comes cell it) (λ it. and_then (rest it) close) (λ it. and_then (steps.enter cell it) after) (λ it.
        then-grouped (visits_open steps walks cell it) (λ it. and_then (steps.goes cell it) (λ it. stores steps cell 0 (length it.0) it)) close
        ∙ visiting-is same it)
        ∙ sym (then-grouped (steps.comes cell it) (steps.enter cell) after)
        ∙ ap (λ first. and_then first after) (enters-as cell it.0 it.1 (kind_of_cell set streams cell it.1) refl)

    counted-is : ChildrenAre → (m : Machine) → course_map (λ it. it.1) (visits (machine_steps set streams) walks cell ([], m))
        ≡ and_then (load_all set streams cell (2 ^ set.axes) [] m) (λ it. and_then (enter_cell set streams cell it.0 it.1) after)
    counted-is same m =
        let close = λ (it : Loaded). at_once it.1 in
        then-grouped (loads (machine_steps set streams) cell (2 ^ set.axes) ([], m)) visits_loaded close
        ∙ ap (λ first. and_then first (λ it. and_then (visits_loaded it) close)) (loads-are cell (2 ^ set.axes) [] m)
        ∙ then-alike (load_all set streams cell (2 ^ set.axes) [] m) (λ it. and_then (visits_loaded it) close) (λ it. and_then (enter_cell set streams cell it.0 it.1) after) (within-is same)

  pub walk-is : AreLawful set.rules → (levels : ℕ) (cell : Place) (m : Machine) → walk (machine_steps set streams) levels cell m ≡ walk_cell set streams levels cell m
  walk-is lawful zero cell m = refl
  walk-is lawful (suc levels) cell m =
      let same = in_turn-are (walk (machine_steps set streams) levels) (walk_cell set streams levels) (λ cell m. walk-is lawful levels cell m) (children set.axes (way set) cell) in
      turned-then (count_cell set streams cell m) (λ m. ([], m)) (λ (it : Loaded). course_map (λ it. it.1) (visits (machine_steps set streams) (walk (machine_steps set streams) levels) cell it))
      ∙ then-alike (count_cell set streams cell m) _ _ (counted-is lawful levels cell same)

  pub children-are : AreLawful set.rules → (levels : ℕ) (cell : Place) (m : Machine)
      → walks_children (machine_steps set streams) (walk (machine_steps set streams) levels) cell m ≡ each (walk_cell set streams levels) (children set.axes (way set) cell) m
  children-are lawful levels cell m =
      in_turn-are (walk (machine_steps set streams) levels) (walk_cell set streams levels) (walk-is lawful levels) (children set.axes (way set) cell) m
