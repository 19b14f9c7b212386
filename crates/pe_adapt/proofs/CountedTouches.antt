-- One corner of the cell that is walked, loaded and stored as the machine does.
use Rattle.std.proofs.Common.{◌≡◌, ℕ, ℤ, ◌+◌, ◌^◌, ◌<◌, Bool, true, false, ◌&&◌, ◌||◌, List, [], ◌++◌, Option, Some, None, Result, Ok, Err, refl, sym, ap, subst, ◌∙◌, arith, eqb-true}
use Rattle.std.specs.Prelude.{◌-◌, ◌%◌, ◌==◌, if◌then◌else◌, IsSomeAnd, is_err, is_none, slice_index, OnOk, OnErr, IsSome}
use Rattle.pe_base.specs.declared.place.Place.{Place}
use Rattle.pe_base.specs.declared.kind.Kind.{Kind}
use Rattle.pe_base.specs.declared.kind.Kind.TheVariants.{Kept, Born, Dying, Hanging}
use Rattle.pe_base.specs.declared.tally.Tally.{Tally}
use Rattle.pe_base.specs.declared.way.Way.{Way}
use Rattle.pe_access.specs.States.{StandsFor}
use Rattle.pe_base.specs.Tree.Places.{corner, IsInside, IsCellPlace}
use Rattle.pe_base.specs.Tree.Ways.{way_of}
use Rattle.pe_base.specs.Steps.Routes.{stack_in, stack_out}
use Rattle.pe_base.specs.Life.Kinds.{is_hanging, is_inside}
use Rattle.pe_base.specs.Acts.Effects.{VertexRecord, Rules}
use Rattle.pe_base.specs.Walk.Course.{Cause, Ending, done, halts, stuck, Push, Course, at_once, from, course_map}
use Rattle.pe_base.specs.Walk.Core.{Setting, way}
use Rattle.pe_base.specs.Walk.Touches.{tally_load, tally_store}
use Rattle.pe_stacks.specs.declared.record.Vertex.{Vertex}
use Rattle.pe_stacks.specs.Holdings.{Holdings, KeepsRoom, stack_count, stack_at, popped, popped_from}
use Rattle.std.proofs.lemmas.List.{length-set, append-nil}
use Rattle.std.proofs.lemmas.Bool.{and_parts, and_from}
use Rattle.pe_stacks.specs.Sights.{Numbers, corner_records}
use Rattle.pe_access.specs.Numbers.{stack_of}
use Rattle.pe_hang.specs.InHand.{Stays}
use Rattle.pe_base.specs.Calls.Told.{Told, Adds, AddsPart, FailsToTell}
use Rattle.pe_base.specs.Calls.Follows.{Follows, Fits, BeforeCall, HasOverfull, Failure, halted, unwritten, wanting, unheard_of, read_by}
use Rattle.pe_stacks.specs.RecordsOut.{RecordsOut}
use Rattle.pe_base.proofs.Calls.Leading.{and_then-fits, follows-map}
use Rattle.pe_hang.proofs.Moving.{allowed-fits, allowed-is}
use Rattle.pe_adapt.specs.declared.stop.Inner.{Inner}
use Rattle.pe_adapt.specs.Slots.{seen_slot}
use Rattle.pe_adapt.specs.Touches.{Desk, kind_in_hand}
use Rattle.pe_adapt.specs.Touches as corners
use Rattle.pe_adapt.specs.Spots.{desk_in_hand}
use Rattle.pe_adapt.proofs.CornerPlaces.{cell_below, level_below}
use Rattle.pe_adapt.proofs.InsideLaws.{inside-is, inside-passes}
use Rattle.pe_adapt.specs.Ages.{IsPlaced}
use Rattle.pe_adapt.proofs.Fitting.{allowed-fit, and_then-fit}
use Rattle.pe_adapt.specs.declared.settings.Settings.{Settings}
use Rattle.pe_adapt.specs.declared.walked.WalkedCell.{WalkedCell}
use Rattle.pe_adapt.specs.CountedTouches.{Machine, StreamStacks, output, desk_of, with_desk, tally_may_rise, is_placed, load_corner, store_corner}
use Rattle.pe_adapt.specs.Streams.{AreStreams}
use Rattle.pe_adapt.specs.WalkedCells.{IsWalked, setting_in, stream_stacks_of, failure_in}
use Rattle.pe_adapt.specs.TouchCalls.{Hand, machine_of, found_in, filled_in, MayGo, GoesAlong}

-- a walked cell's position is far below the greatest number
pub walked-pos : (axes : ℕ) (settings : Settings) (cell : WalkedCell) → IsWalked axes settings cell → (axis : ℕ) → slice_index cell.place.pos axis < 3 ^ 20
walked-pos axes settings cell is axis = omega (arith, cell_below axes cell.place is.place axis, level_below cell.place.level is.place.level)

-- What a course does that is turned, where the turn can be undone, the course itself does.
module _ {X Y : Type 0} (f : X → Y) (back : Y → X) (undoes : (x : X) → back (f x) ≡ x) where
  abbrev turned : Ending X → Course Y
  turned ending = from ending (λ x. at_once (f x))

  done-before : (ending : Ending X) (y : Y) → (turned ending).ending ≡ done y → ending ≡ done (back y)
  done-before (done x) y is = let same : f x ≡ y = cc in ap done (sym (undoes x) ∙ ap back same)
  done-before (halts cause) y is = absurd cc
  done-before stuck y is = absurd cc

  halts-before : (ending : Ending X) (cause : Cause) → (turned ending).ending ≡ halts cause → ending ≡ halts cause
  halts-before (done x) cause is = absurd cc
  halts-before (halts cause') cause is = let same : cause' ≡ cause = cc in ap halts same
  halts-before stuck cause is = absurd cc

  text-before : (ending : Ending X) (text : List ℕ) → text ++ (turned ending).text ≡ text
  text-before (done x) text = append-nil text
  text-before (halts cause) text = append-nil text
  text-before stuck text = append-nil text

  log-before : (ending : Ending X) (log : List Push) → log ++ (turned ending).log ≡ log
  log-before (done x) log = append-nil log
  log-before (halts cause) log = append-nil log
  log-before stuck log = append-nil log

  follows-before : {A : Type 0} (course : Course X) (after : A → Y) (answer : Result A Failure) (old : BeforeCall) (new : Told)
      → Follows (course_map f course) after answer old new → Follows course (λ a. back (after a)) answer old new
  follows-before course after (Ok a) old new is = record {
    ends = done-before course.ending (after a) is.ends;
    told = subst (λ text. Adds old.told text new) (text-before course.ending course.text) is.told;
  }
  follows-before course after (Err (halted cause)) old new is = record {
    ends = halts-before course.ending cause is.ends;
    told = subst (λ text. Adds old.told text new) (text-before course.ending course.text) is.told;
  }
  follows-before course after (Err unwritten) old new is = subst (λ text. FailsToTell text old.told new) (text-before course.ending course.text) is
  follows-before course after (Err wanting) old new is = record {
    told = subst (λ text. AddsPart old.told text new) (text-before course.ending course.text) is.told;
    room = λ sure. subst (λ log. HasOverfull old log) (log-before course.ending course.log) (is.room sure);
  }
  follows-before course after (Err unheard_of) old new is = is

module _ {Plan : Type 0} (set : Setting Plan) (streams : StreamStacks) (cell : Place) (k : ℕ) where
  abbrev pub here : Place
  here = corner set.axes cell k

  -- the load of a corner that does not get stuck: the tally may rise, what counts is inside, and the touch does not either
  abbrev pub kind_here : Machine → Kind
  kind_here m = kind_in_hand set cell m.family.parents here

  load-tests : (m : Machine) → Fits (load_corner set streams cell k m) → (tally_may_rise m.tally && is_placed set.axes (kind_here m) here) ≡ true
  load-tests m fits = allowed-fits (tally_may_rise m.tally && is_placed set.axes (kind_here m) here) _ fits

  pub load-rises : (m : Machine) → Fits (load_corner set streams cell k m) → tally_may_rise m.tally ≡ true
  load-rises m fits = (and_parts (tally_may_rise m.tally) (is_placed set.axes (kind_here m) here) (load-tests m fits)).0

  pub load-placed : (m : Machine) → Fits (load_corner set streams cell k m) → is_placed set.axes (kind_here m) here ≡ true
  load-placed m fits = (and_parts (tally_may_rise m.tally) (is_placed set.axes (kind_here m) here) (load-tests m fits)).1

  abbrev first_here : Bool
  first_here = is_none (stack_in set.axes (way set) here cell)

  abbrev loading : Machine → Course (VertexRecord × Machine)
  loading m = course_map (λ it. (it.0, with_desk it.1 (record m { tally = tally_load (kind_here m) first_here m.tally }))) (corners.load_corner set streams.input cell k (desk_of m))

  pub load-desk : (m : Machine) → Fits (load_corner set streams cell k m) → Fits (corners.load_corner set streams.input cell k (desk_of m))
  load-desk m fits =
      and_then-fits (corners.load_corner set streams.input cell k (desk_of m)) _
      (subst Fits (allowed-is (tally_may_rise m.tally && is_placed set.axes (kind_here m) here) (loading m) fits) fits)

  -- what the load of a corner does beside the tally is what it does
  pub load-follows : {A : Type 0} (m : Machine) (tally : Tally) (after : A → VertexRecord × Desk) (answer : Result A Failure) (old : BeforeCall) (new : Told)
      → Fits (load_corner set streams cell k m) → tally ≡ tally_load (kind_here m) first_here m.tally
      → Follows (corners.load_corner set streams.input cell k (desk_of m)) after answer old new
      → Follows (load_corner set streams cell k m) (λ a. ((after a).0, with_desk (after a).1 (record m { tally = tally }))) answer old new
  load-follows m tally after answer old new fits counted is =
      subst (λ course. Follows course (λ a. ((after a).0, with_desk (after a).1 (record m { tally = tally }))) answer old new)
      (sym (allowed-is (tally_may_rise m.tally && is_placed set.axes (kind_here m) here) (loading m) fits))
      (subst (λ t. Follows (loading m) (λ a. ((after a).0, with_desk (after a).1 (record m { tally = t }))) answer old new) (sym counted)
      (follows-map (λ it. (it.0, with_desk it.1 (record m { tally = tally_load (kind_here m) first_here m.tally }))) (corners.load_corner set streams.input cell k (desk_of m)) after answer old new is))

  -- and what it does with the tally, it does without
  pub load-touches : {A : Type 0} (m : Machine) (after : A → VertexRecord × Machine) (answer : Result A Failure) (old : BeforeCall) (new : Told)
      → Fits (load_corner set streams cell k m) → Follows (load_corner set streams cell k m) after answer old new
      → Follows (corners.load_corner set streams.input cell k (desk_of m)) (λ a. ((after a).0, desk_of (after a).1)) answer old new
  load-touches m after answer old new fits is =
      follows-before (λ it. (it.0, with_desk it.1 (record m { tally = tally_load (kind_here m) first_here m.tally }))) (λ it. (it.0, desk_of it.1)) (λ it. refl)
      (corners.load_corner set streams.input cell k (desk_of m)) after answer old new
      (subst (λ course. Follows course after answer old new) (allowed-is (tally_may_rise m.tally && is_placed set.axes (kind_here m) here) (loading m) fits) is)

  -- it fits where the load does, if the tally may rise and what counts is inside
  pub load-fits : (m : Machine) → tally_may_rise m.tally ≡ true → is_placed set.axes (kind_here m) here ≡ true
      → Fits (corners.load_corner set streams.input cell k (desk_of m)) → Fits (load_corner set streams cell k m)
  load-fits m rises placed fits =
      allowed-fit (tally_may_rise m.tally && is_placed set.axes (kind_here m) here) (loading m) (and_from _ _ rises placed)
      (and_then-fit (corners.load_corner set streams.input cell k (desk_of m)) _ fits (λ it. refl))

  -- the store of a corner likewise
  abbrev last_here : Bool
  last_here = is_none (stack_out set.axes (way set) here cell)

  abbrev storing : VertexRecord → Machine → Course Machine
  storing it m = course_map (λ desk. with_desk desk (record m { tally = tally_store it.kind last_here m.tally })) (corners.store_corner set (output streams) cell k it (desk_of m))

  store-tests : (it : VertexRecord) (m : Machine) → Fits (store_corner set streams cell k it m) → (tally_may_rise m.tally && is_placed set.axes it.kind here) ≡ true
  store-tests it m fits = allowed-fits (tally_may_rise m.tally && is_placed set.axes it.kind here) (storing it m) fits

  pub store-rises : (it : VertexRecord) (m : Machine) → Fits (store_corner set streams cell k it m) → tally_may_rise m.tally ≡ true
  store-rises it m fits = (and_parts (tally_may_rise m.tally) (is_placed set.axes it.kind here) (store-tests it m fits)).0

  pub store-placed : (it : VertexRecord) (m : Machine) → Fits (store_corner set streams cell k it m) → is_placed set.axes it.kind here ≡ true
  store-placed it m fits = (and_parts (tally_may_rise m.tally) (is_placed set.axes it.kind here) (store-tests it m fits)).1

  pub store-desk : (it : VertexRecord) (m : Machine) → Fits (store_corner set streams cell k it m) → Fits (corners.store_corner set (output streams) cell k it (desk_of m))
  store-desk it m fits =
      and_then-fits (corners.store_corner set (output streams) cell k it (desk_of m)) _
      (subst Fits (allowed-is (tally_may_rise m.tally && is_placed set.axes it.kind here) (storing it m) fits) fits)

  pub store-follows : {A : Type 0} (it : VertexRecord) (m : Machine) (tally : Tally) (after : A → Desk) (answer : Result A Failure) (old : BeforeCall) (new : Told)
      → Fits (store_corner set streams cell k it m) → tally ≡ tally_store it.kind last_here m.tally
      → Follows (corners.store_corner set (output streams) cell k it (desk_of m)) after answer old new
      → Follows (store_corner set streams cell k it m) (λ a. with_desk (after a) (record m { tally = tally })) answer old new
  store-follows it m tally after answer old new fits counted is =
      subst (λ course. Follows course (λ a. with_desk (after a) (record m { tally = tally })) answer old new)
      (sym (allowed-is (tally_may_rise m.tally && is_placed set.axes it.kind here) (storing it m) fits))
      (subst (λ t. Follows (storing it m) (λ a. with_desk (after a) (record m { tally = t })) answer old new) (sym counted)
      (follows-map (λ desk. with_desk desk (record m { tally = tally_store it.kind last_here m.tally })) (corners.store_corner set (output streams) cell k it (desk_of m)) after answer old new is))

  pub store-touches : {A : Type 0} (it : VertexRecord) (m : Machine) (after : A → Machine) (answer : Result A Failure) (old : BeforeCall) (new : Told)
      → Fits (store_corner set streams cell k it m) → Follows (store_corner set streams cell k it m) after answer old new
      → Follows (corners.store_corner set (output streams) cell k it (desk_of m)) (λ a. desk_of (after a)) answer old new
  store-touches it m after answer old new fits is =
      follows-before (λ desk. with_desk desk (record m { tally = tally_store it.kind last_here m.tally })) desk_of (λ desk. refl)
      (corners.store_corner set (output streams) cell k it (desk_of m)) after answer old new
      (subst (λ course. Follows course after answer old new) (allowed-is (tally_may_rise m.tally && is_placed set.axes it.kind here) (storing it m) fits) is)

  pub store-fits : (it : VertexRecord) (m : Machine) → tally_may_rise m.tally ≡ true → is_placed set.axes it.kind here ≡ true
      → Fits (corners.store_corner set (output streams) cell k it (desk_of m)) → Fits (store_corner set streams cell k it m)
  store-fits it m rises placed fits =
      allowed-fit (tally_may_rise m.tally && is_placed set.axes it.kind here) (storing it m) (and_from _ _ rises placed)
      (and_then-fit (corners.store_corner set (output streams) cell k it (desk_of m)) _ fits (λ desk. refl))

-- what counts is placed where it is inside
pub placed-is : (axes : ℕ) (kind : Kind) (vertex : Place) → IsPlaced axes kind vertex → is_placed axes kind vertex ≡ true
placed-is axes Kept vertex placed = inside-passes axes vertex (placed.inside (λ no. absurd cc))
placed-is axes Born vertex placed = inside-passes axes vertex (placed.inside (λ no. absurd cc))
placed-is axes Dying vertex placed = inside-passes axes vertex (placed.inside (λ no. absurd cc))
placed-is axes Hanging vertex placed = refl

-- how many records are out, by the slot
left-loaded : {X : Type 0} (slot : Option X) (result : Result (Unit {0}) Inner) (old new : Holdings X) (room room' : ℕ → ℕ)
    → RecordsOut 0 1 old room new room' (is_err result) → OnOk result (IsSome slot) → OnErr result (slot ≡ None) → RecordsOut 0 (filled_in slot) old room new room' false
left-loaded None (Ok u) old new room room' left loaded emptied = absurd (let no : false ≡ true = loaded in cc)
left-loaded (Some x) (Ok u) old new room room' left loaded emptied = left
left-loaded None (Err halt) old new room room' left loaded emptied = record { count = left.count; keeps = left.keeps; out = left.out }
left-loaded (Some x) (Err halt) old new room room' left loaded emptied = absurd cc

left-stored : {X : Type 0} (result : Result (Unit {0}) Inner) (old new : Holdings X) (room room' : ℕ → ℕ)
    → RecordsOut 1 0 old room new room' (is_err result) → RecordsOut 1 0 old room new room' false
left-stored (Ok u) old new room room' left = left
left-stored (Err halt) old new room room' left = record { count = left.count; keeps = left.keeps; out = left.out }

-- cells are not counted
load-cells : (kind : Kind) (first : Bool) (tally : Tally) → (tally_load kind first tally).cells ≡ tally.cells
load-cells Hanging first tally = refl
load-cells Born true tally = refl
load-cells Kept true tally = refl
load-cells Dying true tally = refl
load-cells Born false tally = refl
load-cells Kept false tally = refl
load-cells Dying false tally = refl

store-cells : (kind : Kind) (last : Bool) (tally : Tally) → (tally_store kind last tally).cells ≡ tally.cells
store-cells Hanging last tally = refl
store-cells Dying true tally = refl
store-cells Born true tally = refl
store-cells Kept true tally = refl
store-cells Born false tally = refl
store-cells Kept false tally = refl
store-cells Dying false tally = refl

module _ {Plan V C : Type 0} (rules : Rules Plan) (numbers : Numbers V C) (settings : Settings) (place : Place) (k : ℕ) (result : Result (Unit {0}) Inner) (old new : Hand Plan V C) where
  abbrev set_here : Setting Plan
  set_here = setting_in rules old.held settings

  abbrev desk_before : Desk
  desk_before = desk_in_hand numbers old.vertices old.parents old.parent old.held.list

  abbrev desk_behind : Desk
  desk_behind = desk_in_hand numbers new.vertices new.parents new.parent new.held.list

  abbrev pub loads : Setting Plan → Machine → Course (VertexRecord × Machine)
  loads set machine = load_corner set (stream_stacks_of settings) place k machine

  abbrev pub stores : VertexRecord → Setting Plan → Machine → Course Machine
  stores it set machine = store_corner set (stream_stacks_of settings) place k it machine

  no_cells : Holdings (List ℤ)
  no_cells = record { stacks = []; fresh = 0; spent = 0; out = 0; most = 0 }

  pub goes-load : (slot : Option (Vertex V))
      → MayGo rules numbers settings loads old
      → new.progress.tally ≡ tally_load (kind_in_hand set_here place (corner_records numbers.vertex old.parents) (corner old.held.dim place k))
      (is_none (stack_in old.held.dim (way set_here) (corner old.held.dim place k) place)) old.progress.tally
      → ((room : ℕ → ℕ) → Follows (corners.load_corner set_here settings.input place k desk_before) (λ (done : Unit {0}). (seen_slot numbers.vertex slot, desk_behind))
      (read_by (failure_in new.progress) result) (found_in old room) new.held.told)
      → RecordsOut 0 1 old.vertices old.room new.vertices new.room (is_err result) → Stays numbers.vertex old.held new.held old.parents new.parents
      → OnOk result (IsSome slot) → OnErr result (slot ≡ None)
      → GoesAlong rules numbers settings loads (λ machine. (seen_slot numbers.vertex slot, machine)) 0 (filled_in slot) result old new
  goes-load slot may counted touched left stays loaded emptied = record {
    follows = λ cells room. load-follows set_here (stream_stacks_of settings) place k (machine_of numbers cells old) new.progress.tally (λ (done : Unit {0}). (seen_slot numbers.vertex slot, desk_behind))
        (read_by (failure_in new.progress) result) (found_in old room) new.held.told (may cells) counted (touched room);
    left = left-loaded slot result old.vertices new.vertices old.room new.room left loaded emptied;
    stays = stays;
    counted = ap (λ tally. tally.cells) counted
        ∙ load-cells (kind_in_hand set_here place (corner_records numbers.vertex old.parents) (corner old.held.dim place k)) (is_none (stack_in old.held.dim (way set_here) (corner old.held.dim place k) place)) old.progress.tally;
  }

  pub goes-store : (it : VertexRecord)
      → MayGo rules numbers settings (stores it) old
      → new.progress.tally ≡ tally_store it.kind (is_none (stack_out old.held.dim (way set_here) (corner old.held.dim place k) place)) old.progress.tally
      → ((room : ℕ → ℕ) → Follows (corners.store_corner set_here (output (stream_stacks_of settings)) place k it desk_before) (λ (done : Unit {0}). desk_behind)
      (read_by (failure_in new.progress) result) (found_in old room) new.held.told)
      → RecordsOut 1 0 old.vertices old.room new.vertices new.room (is_err result) → Stays numbers.vertex old.held new.held old.parents new.parents
      → GoesAlong rules numbers settings (stores it) (λ machine. machine) 1 0 result old new
  goes-store it may counted touched left stays = record {
    follows = λ cells room. store-follows set_here (stream_stacks_of settings) place k it (machine_of numbers cells old) new.progress.tally (λ (done : Unit {0}). desk_behind)
        (read_by (failure_in new.progress) result) (found_in old room) new.held.told (may cells) counted (touched room);
    left = left-stored result old.vertices new.vertices old.room new.room left;
    stays = stays;
    counted = ap (λ tally. tally.cells) counted ∙ store-cells it.kind (is_none (stack_out old.held.dim (way set_here) (corner old.held.dim place k) place)) old.progress.tally;
  }

  -- a call that goes along with the counted load does the load, and likewise of the store
  pub load-touched : (slot : Option (Vertex V)) → MayGo rules numbers settings loads old
      → GoesAlong rules numbers settings loads (λ machine. (seen_slot numbers.vertex slot, machine)) 0 (filled_in slot) result old new
      → (room : ℕ → ℕ) → Follows (corners.load_corner set_here settings.input place k desk_before) (λ (done : Unit {0}). (seen_slot numbers.vertex slot, desk_behind))
      (read_by (failure_in new.progress) result) (found_in old room) new.held.told
  load-touched slot may goes room =
      load-touches set_here (stream_stacks_of settings) place k (machine_of numbers no_cells old) (λ (done : Unit {0}). (seen_slot numbers.vertex slot, machine_of numbers no_cells new))
      (read_by (failure_in new.progress) result) (found_in old room) new.held.told (may no_cells) (goes.follows no_cells room)

  pub store-touched : (it : VertexRecord) → MayGo rules numbers settings (stores it) old
      → GoesAlong rules numbers settings (stores it) (λ machine. machine) 1 0 result old new
      → (room : ℕ → ℕ) → Follows (corners.store_corner set_here (output (stream_stacks_of settings)) place k it desk_before) (λ (done : Unit {0}). desk_behind)
      (read_by (failure_in new.progress) result) (found_in old room) new.held.told
  store-touched it may goes room =
      store-touches set_here (stream_stacks_of settings) place k it (machine_of numbers no_cells old) (λ (done : Unit {0}). machine_of numbers no_cells new)
      (read_by (failure_in new.progress) result) (found_in old room) new.held.told (may no_cells) (goes.follows no_cells room)

  -- what a load that may go tells: the tally may rise, and what counts is inside
  pub may-load-rises : MayGo rules numbers settings loads old → tally_may_rise old.progress.tally ≡ true
  may-load-rises may = load-rises set_here (stream_stacks_of settings) place k (machine_of numbers no_cells old) (may no_cells)

  pub may-load-desk : MayGo rules numbers settings loads old → Fits (corners.load_corner set_here settings.input place k desk_before)
  may-load-desk may = load-desk set_here (stream_stacks_of settings) place k (machine_of numbers no_cells old) (may no_cells)

  pub may-load-placed : MayGo rules numbers settings loads old
      → is_placed old.held.dim (kind_in_hand set_here place (corner_records numbers.vertex old.parents) (corner old.held.dim place k)) (corner old.held.dim place k) ≡ true
  may-load-placed may = load-placed set_here (stream_stacks_of settings) place k (machine_of numbers no_cells old) (may no_cells)

  pub may-store-rises : (it : VertexRecord) → MayGo rules numbers settings (stores it) old → tally_may_rise old.progress.tally ≡ true
  may-store-rises it may = store-rises set_here (stream_stacks_of settings) place k it (machine_of numbers no_cells old) (may no_cells)

  pub may-store-desk : (it : VertexRecord) → MayGo rules numbers settings (stores it) old → Fits (corners.store_corner set_here (output (stream_stacks_of settings)) place k it desk_before)
  may-store-desk it may = store-desk set_here (stream_stacks_of settings) place k it (machine_of numbers no_cells old) (may no_cells)

  pub may-store-placed : (it : VertexRecord) → MayGo rules numbers settings (stores it) old → is_placed old.held.dim it.kind (corner old.held.dim place k) ≡ true
  may-store-placed it may = store-placed set_here (stream_stacks_of settings) place k it (machine_of numbers no_cells old) (may no_cells)

-- what counts is inside
counts-inside : (kind : Kind) (inside : Bool) → (kind ≡ Hanging → ⊥) → (is_hanging kind || inside) ≡ true → inside ≡ true
counts-inside Kept inside counts is = is
counts-inside Born inside counts is = is
counts-inside Dying inside counts is = is
counts-inside Hanging inside counts is = absurd (counts refl)

pub placed-inside : (axes : ℕ) (settings : Settings) (cell : WalkedCell) (k : ℕ) (kind : Kind) → IsWalked axes settings cell → (kind ≡ Hanging → ⊥)
    → is_placed axes kind (corner axes cell.place k) ≡ true → IsInside axes (corner axes cell.place k)
placed-inside axes settings cell k kind is counts placed =
    inside-is axes (corner axes cell.place k) is.state.grid.1 is.place.level (counts-inside kind (is_inside axes (corner axes cell.place k)) counts placed)

-- the tally of a vertex that waits between two cells
pub tally-comes : (kind : Kind) (first : Bool) (tally : Tally) → (kind ≡ Hanging → ⊥) → first ≡ false → tally_load kind first tally ≡ tally
tally-comes Kept first tally counts waits = ap (λ f. tally_load Kept f tally) waits
tally-comes Born first tally counts waits = ap (λ f. tally_load Born f tally) waits
tally-comes Dying first tally counts waits = ap (λ f. tally_load Dying f tally) waits
tally-comes Hanging first tally counts waits = absurd (counts refl)

pub tally-goes : (kind : Kind) (last : Bool) (tally : Tally) → (kind ≡ Hanging → ⊥) → last ≡ false → tally_store kind last tally ≡ tally
tally-goes Kept last tally counts waits = ap (λ f. tally_store Kept f tally) waits
tally-goes Born last tally counts waits = ap (λ f. tally_store Born f tally) waits
tally-goes Dying last tally counts waits = ap (λ f. tally_store Dying f tally) waits
tally-goes Hanging last tally counts waits = absurd (counts refl)

-- the kind of what is in a slot
pub slot-kind : {V : Type 0} (numbers : V → List ℤ) (slot : Option (Vertex V)) (kind : Kind) → IsSomeAnd slot (λ v. v.kind ≡ kind) → (seen_slot numbers slot).kind ≡ kind
slot-kind numbers None kind is = absurd is
slot-kind numbers (Some v) kind is = is

pub slot-counts : {V : Type 0} (slot : Option (Vertex V)) (kind : Kind) → IsSomeAnd slot (λ v. v.kind ≡ kind) → (kind ≡ Hanging → ⊥) → IsSomeAnd slot (λ v. v.kind ≡ Hanging → ⊥)
slot-counts None kind is counts = absurd is
slot-counts (Some v) kind is counts = λ hangs. counts (sym is ∙ hangs)

-- the output is the other stream
pub output-is : (input out cell_input cell_output : ℕ) → AreStreams input out cell_input cell_output → out ≡ 17 - input
output-is input out cell_input cell_output are = omega (arith, are.others)

-- the stack that a number names
named-at : (test : Bool) (number : ℕ) → (number == 0) ≡ test → stack_of number ≡ (if test then None else Some (number % 8))
named-at test number is = ap (λ t. (if t then None else Some (number % 8))) is

pub number-none : (number : ℕ) → number ≡ 0 → stack_of number ≡ None
number-none number is = ap stack_of is

pub number-some : (number : ℕ) → (number ≡ 0 → ⊥) → stack_of number ≡ Some (number % 8)
number-some number is = at (number == 0) refl
  where
    at : (t : Bool) → (number == 0) ≡ t → stack_of number ≡ Some (number % 8)
    at true zero = absurd (is (eqb-true number 0 zero))
    at false other = named-at false number other

-- the stack that a number names is the route of a corner that counts
pub route-is : (stack : ℕ → Way → Place → Place → Option ℕ) (axes : ℕ) (settings : Settings) (cell : WalkedCell) (k : ℕ) (kind : Kind) (number : ℕ)
    → IsWalked axes settings cell → (kind ≡ Hanging → ⊥) → is_placed axes kind (corner axes cell.place k) ≡ true
    → ((d : ℕ) (w : Way) (place : Place) → IsCellPlace d place → StandsFor d w place cell.state → IsInside d (corner d place k) → stack_of number ≡ stack d w (corner d place k) place)
    → stack_of number ≡ stack axes (way_of settings.traversal) (corner axes cell.place k) cell.place
route-is stack axes settings cell k kind number is counts placed routes =
    let inside = placed-inside axes settings cell k kind is counts placed in
    subst (λ w. stack_of number ≡ stack axes w (corner axes cell.place k) cell.place) settings.turned (routes axes settings.way cell.place is.place is.state inside)

-- after a pop one record more is out
pub popped-left : {X : Type 0} (old new : Holdings X) (room room' : ℕ → ℕ) (s : ℕ) → new ≡ popped old s → KeepsRoom old room new room' → RecordsOut 0 1 old room new room' false
popped-left old new room room' s is keeps = record {
  count = ap (λ h. stack_count h) is ∙ length-set old.stacks s (popped_from (stack_at old s));
  keeps = keeps;
  out = let out : new.out ≡ old.out + 1 = ap (λ h. h.out) is in omega (arith, out);
}
