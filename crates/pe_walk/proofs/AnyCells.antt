-- The touches of corners look at no cell: they get stuck or not, whatever lies on the stacks of cells.
use Rattle.std.proofs.Common.{◌≡◌, ℕ, ℤ, zero, suc, ◌+◌, Bool, true, false, ◌&&◌, List, [], ◌∷◌, refl, ap, ◌∙◌}
use Rattle.std.specs.Prelude.{is_none}
use Rattle.pe_base.specs.declared.place.Place.{Place}
use Rattle.pe_base.specs.declared.tally.Tally.{Tally}
use Rattle.pe_base.specs.Tree.Places.{corner}
use Rattle.pe_base.specs.Steps.Routes.{stack_in, stack_out}
use Rattle.pe_base.specs.Acts.Effects.{VertexRecord}
use Rattle.pe_base.specs.Walk.Course.{Ending, done, halts, stuck, Course, from, at_once, course_map, allowed}
use Rattle.pe_base.specs.Walk.Core.{Setting, way}
use Rattle.pe_base.specs.Walk.Touches.{tally_load, tally_store}
use Rattle.pe_stacks.specs.Holdings.{Holdings}
use Rattle.pe_base.specs.Calls.Follows.{Fits, is_fit}
use Rattle.pe_adapt.specs.Touches.{Desk, kind_in_hand}
use Rattle.pe_adapt.specs.Touches as corners
use Rattle.pe_adapt.specs.CountedTouches.{Machine, StreamStacks, output, tally_may_rise, is_placed, desk_of, with_desk, load_corner, store_corner}
use Rattle.pe_walk.specs.Machine.{load_all, store_all}

module _ {Plan : Type 0} (set : Setting Plan) (streams : StreamStacks) (cell : Place) (cells : Holdings (List ℤ)) where
  abbrev with_cells : Machine → Machine
  with_cells m = record m { cells = cells }

  abbrev end_with : {A : Type 0} → Ending (A × Machine) → Ending (A × Machine)
  end_with (done it) = done (it.0, with_cells it.1)
  end_with (halts cause) = halts cause
  end_with stuck = stuck

  abbrev end_at : Ending Machine → Ending Machine
  end_at (done m) = done (with_cells m)
  end_at (halts cause) = halts cause
  end_at stuck = stuck

  fit-with : {A : Type 0} (e : Ending (A × Machine)) → is_fit (end_with e) ≡ is_fit e
  fit-with (done it) = refl
  fit-with (halts cause) = refl
  fit-with stuck = refl

  fit-at : (e : Ending Machine) → is_fit (end_at e) ≡ is_fit e
  fit-at (done m) = refl
  fit-at (halts cause) = refl
  fit-at stuck = refl

  -- one corner
  load-ends : (e : Ending (VertexRecord × Desk)) (m : Machine) (tally : Tally)
      → (from e (λ it. at_once (it.0, with_desk it.1 (record (with_cells m) { tally = tally })))).ending
      ≡ end_with (from e (λ it. at_once (it.0, with_desk it.1 (record m { tally = tally })))).ending
  load-ends (done it) m tally = refl
  load-ends (halts cause) m tally = refl
  load-ends stuck m tally = refl

  load-one : (t : Bool) (course : Course (VertexRecord × Desk)) (m : Machine) (tally : Tally)
      → (allowed t (course_map (λ it. (it.0, with_desk it.1 (record (with_cells m) { tally = tally }))) course)).ending
      ≡ end_with (allowed t (course_map (λ it. (it.0, with_desk it.1 (record m { tally = tally }))) course)).ending
  load-one true course m tally = load-ends course.ending m tally
  load-one false course m tally = refl

  load-corner : (k : ℕ) (m : Machine) → (load_corner set streams cell k (with_cells m)).ending ≡ end_with (load_corner set streams cell k m).ending
  load-corner k m =
      let vertex = corner set.axes cell k in
      let kind = kind_in_hand set cell m.family.parents vertex in
      load-one (tally_may_rise m.tally && is_placed set.axes kind vertex) (corners.load_corner set streams.input cell k (desk_of m)) m
      (tally_load kind (is_none (stack_in set.axes (way set) vertex cell)) m.tally)

  store-ends : (e : Ending Desk) (m : Machine) (tally : Tally)
      → (from e (λ desk. at_once (with_desk desk (record (with_cells m) { tally = tally })))).ending
      ≡ end_at (from e (λ desk. at_once (with_desk desk (record m { tally = tally })))).ending
  store-ends (done desk) m tally = refl
  store-ends (halts cause) m tally = refl
  store-ends stuck m tally = refl

  store-one : (t : Bool) (course : Course Desk) (m : Machine) (tally : Tally)
      → (allowed t (course_map (λ desk. with_desk desk (record (with_cells m) { tally = tally })) course)).ending
      ≡ end_at (allowed t (course_map (λ desk. with_desk desk (record m { tally = tally })) course)).ending
  store-one true course m tally = store-ends course.ending m tally
  store-one false course m tally = refl

  store-corner : (k : ℕ) (it : VertexRecord) (m : Machine) → (store_corner set streams cell k it (with_cells m)).ending ≡ end_at (store_corner set streams cell k it m).ending
  store-corner k it m =
      let vertex = corner set.axes cell k in
      store-one (tally_may_rise m.tally && is_placed set.axes it.kind vertex) (corners.store_corner set (output streams) cell k it (desk_of m)) m
      (tally_store it.kind (is_none (stack_out set.axes (way set) vertex cell)) m.tally)

  -- all corners
  load-then : (k : ℕ) (its : List VertexRecord) (e : Ending (VertexRecord × Machine))
      → ((its : List VertexRecord) (m : Machine) → (load_all set streams cell k its (with_cells m)).ending ≡ end_with (load_all set streams cell k its m).ending)
      → (from (end_with e) (λ it. load_all set streams cell k (it.0 ∷ its) it.1)).ending ≡ end_with (from e (λ it. load_all set streams cell k (it.0 ∷ its) it.1)).ending
  load-then k its (done it) rest = rest (it.0 ∷ its) it.1
  load-then k its (halts cause) rest = refl
  load-then k its stuck rest = refl

  load-all : (k : ℕ) (its : List VertexRecord) (m : Machine) → (load_all set streams cell k its (with_cells m)).ending ≡ end_with (load_all set streams cell k its m).ending
  load-all zero its m = refl
  load-all (suc k) its m =
      ap (λ e. (from e (λ it. load_all set streams cell k (it.0 ∷ its) it.1)).ending) (load-corner k m)
      ∙ load-then k its (load_corner set streams cell k m).ending (λ its m. load-all k its m)

  store-then : (k : ℕ) (its : List VertexRecord) (e : Ending Machine)
      → ((m : Machine) → (store_all set streams cell (k + 1) its (with_cells m)).ending ≡ end_at (store_all set streams cell (k + 1) its m).ending)
      → (from (end_at e) (store_all set streams cell (k + 1) its)).ending ≡ end_at (from e (store_all set streams cell (k + 1) its)).ending
  store-then k its (done m) rest = rest m
  store-then k its (halts cause) rest = refl
  store-then k its stuck rest = refl

  store-all : (k : ℕ) (its : List VertexRecord) (m : Machine) → (store_all set streams cell k its (with_cells m)).ending ≡ end_at (store_all set streams cell k its m).ending
  store-all k [] m = refl
  store-all k (it ∷ its) m =
      ap (λ e. (from e (store_all set streams cell (k + 1) its)).ending) (store-corner k it m)
      ∙ store-then k its (store_corner set streams cell k it m).ending (λ m. store-all (k + 1) its m)

  pub load_all-any_cells : (k : ℕ) (its : List VertexRecord) (m : Machine) → Fits (load_all set streams cell k its m) → Fits (load_all set streams cell k its (record m { cells = cells }))
  load_all-any_cells k its m fits = ap is_fit (load-all k its m) ∙ fit-with (load_all set streams cell k its m).ending ∙ fits

  pub store_all-any_cells : (k : ℕ) (its : List VertexRecord) (m : Machine) → Fits (store_all set streams cell k its m) → Fits (store_all set streams cell k its (record m { cells = cells }))
  store_all-any_cells k its m fits = ap is_fit (store-all k its m) ∙ fit-at (store_all set streams cell k its m).ending ∙ fits
