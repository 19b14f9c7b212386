-- The moves of the walk by address: each finds what it needs in the working state, does what the core says, and puts it
-- back.
--
-- A vertex that is stored is touched by each of the cells around it. The first touch is the one before which it was never
-- loaded, the last one that after which all its cells have loaded it. A hanging vertex is made anew for each cell.
use Rattle.std.specs.Prelude.{ℕ, ◌+◌, ◌^◌, ◌==◌, nat_lt, max, Bool, true, false, List, Option, Some, None, if◌then◌else◌}
use Rattle.std.specs.List.{list_any}
use Rattle.pe_base.specs.declared.place.Place.{Place}
use Rattle.pe_base.specs.declared.kind.Kind.{Kind}
use Rattle.pe_base.specs.declared.kind.Kind.TheVariants.{Kept, Born, Dying, Hanging}
use Rattle.pe_base.specs.declared.tally.Tally.{Tally}
use Rattle.pe_base.specs.Tree.Places.{corner}
use Rattle.pe_base.specs.Acts.Effects.{VertexRecord}
use Rattle.pe_base.specs.Life.States.{is_old, is_new}
use Rattle.pe_base.specs.Life.Kinds.{kind_from}
use Rattle.pe_base.specs.Life.Carriers.{kind_by}
use Rattle.pe_base.specs.Walk.Maps.{removed, removed_corner}
use Rattle.pe_base.specs.Walk.Course.{limit_at, Course, ends, halts, at_once, course_map}
use Rattle.pe_base.specs.Walk.Core.{Setting, Family, Own, load_touch, store_touch, enter_touch, leave_touch}
use Rattle.pe_base.specs.Walk.Working.{Working, vertex_at, put_vertex, cell_at, put_hanging, loads_of, loaded_again, state_of, record_at, records_of, family_of, put_family, own_of, put_own}

-- what the tally counts of a load and of a store
abbrev pub tally_load : Kind → Bool → Tally → Tally
tally_load Hanging first tally = record tally { hanging = tally.hanging + 1 }
tally_load Born true tally = record tally { created = tally.created + 1 }
tally_load Kept true tally = record tally { read = tally.read + 1 }
tally_load Dying true tally = record tally { read = tally.read + 1 }
tally_load kind false tally = tally

abbrev pub tally_store : Kind → Bool → Tally → Tally
tally_store Hanging last tally = tally
tally_store Dying true tally = record tally { destroyed = tally.destroyed + 1 }
tally_store Born true tally = record tally { written = tally.written + 1 }
tally_store Kept true tally = record tally { written = tally.written + 1 }
tally_store kind false tally = tally

abbrev pub tally_cell : Place → Tally → Tally
tally_cell cell tally = record tally { cells = tally.cells + 1; deepest = max tally.deepest cell.level }

-- by the states of a cell's corners, its children are walked, and of this kind, or hanging: they are not walked
abbrev pub kind_below : List VertexRecord → Kind
kind_below corners = kind_from (list_any (λ it. is_old it.state) corners) (list_any (λ it. is_new it.state) corners)

module _ {Plan : Type 0} (set : Setting Plan) where
  -- the kind of a vertex, as the map has its carriers at this moment
  abbrev pub kind_of_vertex : Working → Place → Kind
  kind_of_vertex w vertex = kind_by set.axes set.traversal (state_of w) vertex

  -- the kind of the children of a cell, by its corners at this moment; those of the root are born in traversal 1
  abbrev pub kind_of_children : Working → Place → Kind
  kind_of_children w cell =
      if cell.level == 0
      then (if set.traversal == 1 then Born else Kept)
      else kind_below (records_of set.axes w cell)

  -- a cell is counted; one past the limit halts the walk
  abbrev pub within_limit : Place → Working → Bool → Course Working
  within_limit cell w true = ends (halts (limit_at cell))
  within_limit cell w false = at_once w

  abbrev pub count_cell : Place → Working → Course Working
  count_cell cell w =
      let counted = record w { tally = tally_cell cell w.tally } in
      within_limit cell counted (nat_lt set.max_cells counted.tally.cells)

  -- a vertex that was loaded is put under its cell if it hangs, and else under its place
  abbrev pub put_loaded : Kind → Place → ℕ → VertexRecord → Working → Working
  put_loaded Hanging cell k it w = put_hanging cell k it w
  put_loaded kind cell k it w = loaded_again (corner set.axes cell k) (put_vertex (corner set.axes cell k) it w)

  abbrev pub after_load : Kind → Bool → Place → Place → ℕ → VertexRecord × Family → Working → Working
  after_load kind first parent cell k it w =
      put_family set.axes parent it.1 (put_loaded kind cell k it.0 (record w { tally = tally_load kind first w.tally }))

  -- the load of a corner of a cell
  abbrev pub load_corner : Place → Place → ℕ → Working → Course Working
  load_corner parent cell k w =
      let vertex = corner set.axes cell k in
      let kind = kind_of_vertex w vertex in
      let first = loads_of w vertex == 0 in
      course_map (λ it. after_load kind first parent cell k it w)
      (load_touch set kind first (vertex_at w vertex) vertex (family_of set.axes w parent))

  -- a vertex that was stored is put back, or removed where it was given up
  abbrev pub put_stored : Kind → Place → ℕ → Option VertexRecord → Working → Working
  put_stored Hanging cell k it w = record w { hanging = removed_corner w.hanging cell k }
  put_stored kind cell k None w = record w { vertices = removed w.vertices (corner set.axes cell k) }
  put_stored kind cell k (Some it) w = put_vertex (corner set.axes cell k) it w

  abbrev pub after_store : Kind → Bool → Place → Place → ℕ → Option VertexRecord × Family → Working → Working
  after_store kind last parent cell k it w =
      put_family set.axes parent it.1 (put_stored kind cell k it.0 (record w { tally = tally_store kind last w.tally }))

  -- the store of a corner of a cell
  abbrev pub store_corner : Place → Place → ℕ → Working → Course Working
  store_corner parent cell k w =
      let vertex = corner set.axes cell k in
      let it = record_at set.axes w cell k in
      let last = loads_of w vertex == 2 ^ set.axes in
      course_map (λ after. after_store it.kind last parent cell k after w)
      (store_touch set last vertex it (family_of set.axes w parent))

  abbrev pub after_cell : Place → Place → Own × Family → Working → Working
  after_cell parent cell it w = put_family set.axes parent it.1 (put_own set.axes cell it.0 w)

  -- a cell is entered: found, or made where it is born
  abbrev pub enter_cell : Place → Place → Working → Course Working
  enter_cell parent cell w =
      course_map (λ it. after_cell parent cell it w)
      (enter_touch set (kind_of_children w parent) (cell_at w cell) cell (records_of set.axes w cell) (family_of set.axes w parent))

  -- a cell that was left stays, or is removed where it dies
  abbrev pub put_left : Kind → Place → Working → Working
  put_left Dying cell w = record w { cells = removed w.cells cell }
  put_left kind cell w = w

  abbrev pub leave_cell : Place → Place → Working → Course Working
  leave_cell parent cell w =
      let kind = kind_of_children w parent in
      course_map (λ it. put_left kind cell (after_cell parent cell it w))
      (leave_touch set kind cell (own_of set.axes w cell) (family_of set.axes w parent))
