-- The walk by address is never stuck.
use Rattle.std.proofs.Common.{◌≡◌, ℕ, ℤ, zero, suc, ◌^◌, ◌==◌, Bool, true, false, List, [], ◌∷◌, reverse, Option, Some, None, refl}
use Rattle.std.specs.Prelude.{nat_lt}
use Rattle.pe_base.specs.declared.place.Place.{Place}
use Rattle.pe_base.specs.declared.kind.Kind.{Kind}
use Rattle.pe_base.specs.declared.kind.Kind.TheVariants.{Kept, Born, Dying, Hanging}
use Rattle.pe_base.specs.declared.event.Event.{Event}
use Rattle.pe_base.specs.declared.event.Event.TheVariants.{BeginIteration, EndIteration, CreateCell, DestroyCell, EnterCell, LeaveCell}
use Rattle.pe_base.specs.Tree.Places.{root, corner}
use Rattle.pe_base.specs.Tree.Curve.{children}
use Rattle.pe_base.specs.Acts.Effects.{VertexRecord, Seen, Fault}
use Rattle.pe_base.specs.Walk.Course.{Course, at_once, and_then, course_map, each}
use Rattle.pe_base.specs.Walk.Core.{Setting, Family, Own, way, ended_by, fire, plain_event, cell_event, load_touch, store_touch, enter_touch, leave_touch}
use Rattle.pe_base.specs.Walk.Working.{Working, records_of, record_at, vertex_at, cell_at, family_of, own_of, loads_of}
use Rattle.pe_base.specs.Walk.Touches.{kind_of_vertex, kind_of_children, within_limit, count_cell, load_corner, store_corner, enter_cell, leave_cell, tally_cell}
use Rattle.pe_base.specs.Walk.Walk.{corner_numbers, around_below, if_walked, walk_cell, plain}
use Rattle.pe_base.specs.Calls.Follows.{is_fit, Fits}
use Rattle.pe_adapt.proofs.Fitting.{and_then-fit, load-fits, store-fits}

pub mapped-fits : {X Y : Type 0} (course : Course X) (f : X → Y) → Fits course → Fits (course_map f course)
mapped-fits course f h = and_then-fit course (λ x. at_once (f x)) h (λ x. refl)

each-fits : {A X : Type 0} (step : A → X → Course X) → ((a : A) (x : X) → Fits (step a x)) → (items : List A) (x : X) → Fits (each step items x)
each-fits step h [] x = refl
each-fits step h (a ∷ items) x = and_then-fit (step a x) (each step items) (h a x) (each-fits step h items)

module _ {Plan : Type 0} (set : Setting Plan) where
  fire-fits : (event : Event) (list : List ℤ) (seen : Seen) → Fits (fire set event list seen)
  fire-fits event list seen = go (set.rules.effect set.plan event set.traversal list seen).fault
    where
      go : (f : Option Fault) → is_fit (ended_by set event seen.place f (set.rules.effect set.plan event set.traversal list seen)) ≡ true
      go None = refl
      go (Some fault) = refl

  plain_event-fits : (event : Event) (list : List ℤ) → Fits (plain_event set event list)
  plain_event-fits event list = mapped-fits (fire set event list _) (λ outcome. outcome.list) (fire-fits event list _)

  cell-fits : (event : Event) (place : Place) (it : Own × Family) → Fits (cell_event set event place it)
  cell-fits event place it = mapped-fits (fire set event it.1.list _) _ (fire-fits event it.1.list _)

  enter-fits : (kind : Kind) (found : List ℤ) (place : Place) (corners : List VertexRecord) (family : Family) → Fits (enter_touch set kind found place corners family)
  enter-fits Born found place corners family = and_then-fit (cell_event set CreateCell place _) (cell_event set EnterCell place) (cell-fits CreateCell place _) (cell-fits EnterCell place)
  enter-fits Kept found place corners family = cell-fits EnterCell place (record { cell = found; corners = corners }, family)
  enter-fits Dying found place corners family = cell-fits EnterCell place (record { cell = found; corners = corners }, family)
  enter-fits Hanging found place corners family = cell-fits EnterCell place (record { cell = found; corners = corners }, family)

  leave-fits : (kind : Kind) (place : Place) (own : Own) (family : Family) → Fits (leave_touch set kind place own family)
  leave-fits Dying place own family = and_then-fit (cell_event set LeaveCell place (own, family)) (cell_event set DestroyCell place) (cell-fits LeaveCell place (own, family)) (cell-fits DestroyCell place)
  leave-fits Kept place own family = cell-fits LeaveCell place (own, family)
  leave-fits Born place own family = cell-fits LeaveCell place (own, family)
  leave-fits Hanging place own family = cell-fits LeaveCell place (own, family)

  -- the steps by address
  count-fits : (cell : Place) (w : Working) → Fits (count_cell set cell w)
  count-fits cell w = go (nat_lt set.max_cells (tally_cell cell w.tally).cells)
    where
      go : (b : Bool) → Fits (within_limit set cell (record w { tally = tally_cell cell w.tally }) b)
      go true = refl
      go false = refl

  pub load_corner-fits : (parent cell : Place) (k : ℕ) (w : Working) → Fits (load_corner set parent cell k w)
  load_corner-fits parent cell k w =
      mapped-fits (load_touch set (kind_of_vertex set w (corner set.axes cell k)) (loads_of w (corner set.axes cell k) == 0) (vertex_at w (corner set.axes cell k)) (corner set.axes cell k) (family_of set.axes w parent)) _
      (load-fits set (kind_of_vertex set w (corner set.axes cell k)) (loads_of w (corner set.axes cell k) == 0) (vertex_at w (corner set.axes cell k)) (corner set.axes cell k) (family_of set.axes w parent))

  pub store_corner-fits : (parent cell : Place) (k : ℕ) (w : Working) → Fits (store_corner set parent cell k w)
  store_corner-fits parent cell k w =
      let it = record_at set.axes w cell k in
      mapped-fits (store_touch set (loads_of w (corner set.axes cell k) == 2 ^ set.axes) (corner set.axes cell k) it (family_of set.axes w parent)) _
      (store-fits set it.kind (loads_of w (corner set.axes cell k) == 2 ^ set.axes) (corner set.axes cell k) it (family_of set.axes w parent))

  enter_cell-fits : (parent cell : Place) (w : Working) → Fits (enter_cell set parent cell w)
  enter_cell-fits parent cell w =
      mapped-fits (enter_touch set (kind_of_children set w parent) (cell_at w cell) cell (records_of set.axes w cell) (family_of set.axes w parent)) _
      (enter-fits (kind_of_children set w parent) (cell_at w cell) cell (records_of set.axes w cell) (family_of set.axes w parent))

  leave_cell-fits : (parent cell : Place) (w : Working) → Fits (leave_cell set parent cell w)
  leave_cell-fits parent cell w =
      mapped-fits (leave_touch set (kind_of_children set w parent) cell (own_of set.axes w cell) (family_of set.axes w parent)) _
      (leave-fits (kind_of_children set w parent) cell (own_of set.axes w cell) (family_of set.axes w parent))

  around-fits : (below : Working → Course Working) → ((w : Working) → Fits (below w)) → (parent cell : Place) (w : Working) → Fits (around_below set below parent cell w)
  around-fits below h parent cell w =
      and_then-fit (count_cell set cell w) _ (count-fits cell w) (λ w.
      and_then-fit (each (load_corner set parent cell) (reverse (corner_numbers set)) w) _ (each-fits (load_corner set parent cell) (load_corner-fits parent cell) (reverse (corner_numbers set)) w) (λ w.
      and_then-fit (enter_cell set parent cell w) _ (enter_cell-fits parent cell w) (λ w.
      and_then-fit (below w) _ (h w) (λ w.
      and_then-fit (leave_cell set parent cell w) _ (leave_cell-fits parent cell w)
      (each-fits (store_corner set parent cell) (store_corner-fits parent cell) (corner_numbers set))))))

  pub walk-fits : (levels : ℕ) (parent cell : Place) (w : Working) → Fits (walk_cell set levels parent cell w)
  walk-fits zero parent cell w = around-fits at_once (λ w. refl) parent cell w
  walk-fits (suc levels) parent cell w =
      around-fits (λ w. if_walked set (kind_of_children set w cell) (each (walk_cell set levels cell) (children set.axes (way set) cell)) w)
      (λ w. go (kind_of_children set w cell) w (each-fits (walk_cell set levels cell) (walk-fits levels cell) (children set.axes (way set) cell) w)) parent cell w
    where
      go : (kind : Kind) (w : Working) → Fits (each (walk_cell set levels cell) (children set.axes (way set) cell) w) → Fits (if_walked set kind (each (walk_cell set levels cell) (children set.axes (way set) cell)) w)
      go Kept w h = h
      go Born w h = h
      go Dying w h = h
      go Hanging w h = refl

  plain-fits : (event : Event) (w : Working) → Fits (plain set event w)
  plain-fits event w = mapped-fits (plain_event set event w.list) _ (plain_event-fits event w.list)

  -- a traversal with the root's corners in hand
  pub middle-fits : (levels : ℕ) (w : Working)
      → Fits (and_then (plain set BeginIteration w) (λ w. and_then (each (walk_cell set levels root) (children set.axes (way set) root) w) (plain set EndIteration)))
  middle-fits levels w =
      and_then-fit (plain set BeginIteration w) _ (plain-fits BeginIteration w) (λ w.
      and_then-fit (each (walk_cell set levels root) (children set.axes (way set) root) w) (plain set EndIteration)
      (each-fits (walk_cell set levels root) (walk-fits levels root) (children set.axes (way set) root) w) (plain-fits EndIteration))
