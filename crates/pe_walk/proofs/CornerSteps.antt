-- The corners of the cell that is walked, loaded and stored one after another.
use Rattle.std.proofs.Common.{◌≡◌, ℕ, ℤ, zero, suc, ◌+◌, ◌-◌, ◌*◌, ◌^◌, ◌<◌, ◌≤◌, true, false, List, [], ◌∷◌, map, length, set, Option, Some, None, IsSome, Result, Ok, Err, refl, sym, ap, subst, ◌∙◌, arith}
use Rattle.std.specs.Prelude.{OnOk}
use Rattle.std.proofs.lemmas.List.{length-map, set-get_or}
use Rattle.pe_base.specs.Acts.Effects.{VertexRecord, Rules}
use Rattle.pe_base.specs.Walk.Course.{Course, at_once, and_then}
use Rattle.pe_base.specs.Walk.Core.{Setting}
use Rattle.pe_base.specs.Tree.Dim.{IsDim}
use Rattle.pe_stacks.specs.declared.record.Vertex.{Vertex}
use Rattle.pe_stacks.specs.Corners.{CornerList, vertex_at, with_vertex, vertices_of, no_vertices, IsFull}
use Rattle.pe_stacks.specs.Filled.{FullFrom}
use Rattle.pe_stacks.proofs.Filling.{full_start, full_put, empty_below, full_take, full_here, full_seen, full_from, seen_put, seen_none}
use Rattle.pe_stacks.proofs.QuadSlots.{quad_within}
use Rattle.pe_stacks.specs.Sights.{Numbers, record_of, corner_records}
use Rattle.pe_hang.specs.InHand.{Stays}
use Rattle.pe_base.specs.Calls.Follows.{Fits}
use Rattle.pe_hang.proofs.Staying.{stays-full}
use Rattle.pe_adapt.specs.declared.stop.Inner.{Inner}
use Rattle.pe_adapt.specs.Ages.{GiveKinds}
use Rattle.pe_adapt.specs.Slots.{seen_slot}
use Rattle.pe_adapt.specs.declared.settings.Settings.{Settings}
use Rattle.pe_adapt.specs.declared.walked.WalkedCell.{WalkedCell}
use Rattle.pe_adapt.specs.CountedTouches.{Machine, load_corner, store_corner}
use Rattle.pe_walk.specs.Machine.{load_all, store_all}
use Rattle.pe_adapt.specs.WalkedCells.{IsWalked, setting_in, stream_stacks_of}
use Rattle.pe_adapt.specs.TouchCalls.{Hand, machine_of, MayGo, GoesAlong, filled_in}
use Rattle.pe_walk.specs.Corners.{TouchesOn, HasLast, MayLoad, MayStore, AreOf, left_of, loads_left, stores_left, filled_in_corners, seen_slots}
use Rattle.pe_walk.proofs.Going.{on-ok, on-always, may-first, may-next, first-goes, goes-same, goes-all}
use Rattle.pe_walk.proofs.CornerLists.{full-of, empty-of, seen_corners-full, filled-last, seen-take}
use Rattle.pe_walk.proofs.KindsKept.{kinds-kept}

-- a cell has at most sixteen corners
pub corners-most : (axes : ℕ) → axes ≤ 4 → 2 ^ axes ≤ 16
corners-most zero few = omega arith
corners-most (suc zero) few = omega arith
corners-most (suc (suc zero)) few = omega arith
corners-most (suc (suc (suc zero))) few = omega arith
corners-most (suc (suc (suc (suc zero)))) few = omega arith
corners-most (suc (suc (suc (suc (suc axes))))) few = absurd (omega arith)

-- a quad of which a cell has not all corners is none of the cell's
pub quad_beyond : (axes q : ℕ) → IsDim axes → 2 ^ axes ≤ 4 * q + 3 → 2 ^ axes ≤ 4 * q
quad_beyond axes q range beyond = grind (arith, quad_within axes q range)

-- as many corners are seen as are there
seen-last : {V : Type 0} (seen : V → List ℤ) (axes k : ℕ) (corners : CornerList (Vertex V)) → FullFrom axes k corners → k + length (corner_records seen corners) ≡ 2 ^ axes
seen-last {V} seen axes k corners last =
    let there = ap (λ (vs : List (Vertex V)). length vs) (full_seen axes k corners last) in
    omega (arith, last.count, there, length-map (vertices_of corners) (record_of seen))

module _ {Plan V C : Type 0} {settings : Settings} {cell : WalkedCell} where
  last-from : (k : ℕ) (corners : CornerList (Vertex V)) (hand : Hand Plan V C) → HasLast settings cell corners hand → filled_in_corners corners ≡ 2 ^ settings.setup.dim - k → k ≤ 2 ^ settings.setup.dim → FullFrom settings.setup.dim k corners
  last-from k corners hand here filled below =
      let same : 2 ^ settings.setup.dim - filled_in_corners corners ≡ k = omega arith in
      subst (λ j. FullFrom settings.setup.dim j corners) same here.last

  last-next : {numbers : V → List ℤ} (k : ℕ) (corners corners' : CornerList (Vertex V)) (old new : Hand Plan V C) → HasLast settings cell corners old → Stays numbers old.held new.held old.parents new.parents → FullFrom settings.setup.dim k corners'
      → HasLast settings cell corners' new
  last-next k corners corners' old new here stays last =
      let same : k ≡ 2 ^ settings.setup.dim - filled_in_corners corners' = omega (arith, last.count, filled-last settings.setup.dim k corners' last) in
      record {
        dim = stays.keeps.dim ∙ here.dim;
        walked = subst (λ d. IsWalked d settings cell) (sym stays.keeps.dim) here.walked;
        full = stays-full stays;
        last = subst (λ j. FullFrom settings.setup.dim j corners') same last;
      }

module _ {Plan V C : Type 0} {rules : Rules Plan} {numbers : Numbers V C} {settings : Settings} {cell : WalkedCell} where
  -- # One corner is loaded
  module _ {corners : CornerList (Vertex V)} {old : Hand Plan V C} (k : ℕ) (ready : MayLoad rules numbers settings cell corners old) (inside : k < 2 ^ settings.setup.dim) (behind : filled_in_corners corners ≡ 2 ^ settings.setup.dim - (k + 1)) where
    abbrev loaded_its : List VertexRecord
    loaded_its = corner_records numbers.vertex corners

    abbrev load_first : Setting Plan → Machine → Course (VertexRecord × Machine)
    load_first set machine = load_corner set (stream_stacks_of settings) cell.place k machine

    abbrev load_rest : Setting Plan → VertexRecord × Machine → Course (List VertexRecord × Machine)
    load_rest set it = load_all set (stream_stacks_of settings) cell.place k (it.0 ∷ loaded_its) it.1

    last_loaded : FullFrom settings.setup.dim (k + 1) corners
    last_loaded = last-from (k + 1) corners old ready.here behind (omega arith)

    load-whole : (machine : Machine) → left_of loads_left numbers settings cell.place corners (setting_in rules old.held settings) machine
        ≡ and_then (load_first (setting_in rules old.held settings) machine) (load_rest (setting_in rules old.held settings))
    load-whole machine =
        let same : 2 ^ old.held.dim - length loaded_its ≡ suc k = omega (arith, seen-last numbers.vertex settings.setup.dim (k + 1) corners last_loaded, ap (λ d. 2 ^ d) ready.here.dim) in
        ap (λ n. load_all (setting_in rules old.held settings) (stream_stacks_of settings) cell.place n loaded_its machine) same

    pub load-fits : MayGo rules numbers settings load_first old
    load-fits = may-first rules numbers settings load_first load_rest old (λ cells. subst Fits (load-whole (machine_of numbers cells old)) (ready.fits cells))

    filled-put : (slot : Option (Vertex V)) → filled_in_corners (with_vertex corners k slot) ≡ filled_in_corners corners + filled_in slot
    filled-put None =
        let none = empty_below settings.setup.dim k corners last_loaded in
        let same : set corners.slots k None ≡ corners.slots = ap (λ slot. set corners.slots k slot) (sym none) ∙ set-get_or corners.slots k None in
        ap (λ (slots : List (Option (Vertex V))). filled_in_corners (record corners { slots = slots })) same ∙ omega arith
    filled-put (Some v) =
        let put = full_put settings.setup.dim k v corners (with_vertex corners k (Some v)) refl last_loaded in
        omega (arith, filled-last settings.setup.dim (k + 1) corners last_loaded, last_loaded.count, filled-last settings.setup.dim k (with_vertex corners k (Some v)) put, put.count)

    load-rest : (slot : Option (Vertex V)) → IsSome slot → (machine : Machine) → load_rest (setting_in rules old.held settings) (seen_slot numbers.vertex slot, machine)
        ≡ left_of loads_left numbers settings cell.place (with_vertex corners k slot) (setting_in rules old.held settings) machine
    load-rest None is machine = absurd (let no : false ≡ true = is in cc)
    load-rest (Some v) is machine =
        let after = with_vertex corners k (Some v) in
        let put = full_put settings.setup.dim k v corners after refl last_loaded in
        let seen : corner_records numbers.vertex after ≡ record_of numbers.vertex v ∷ loaded_its = ap (λ vs. map (record_of numbers.vertex) vs) (seen_put settings.setup.dim k v corners after refl last_loaded) in
        let same : k ≡ 2 ^ old.held.dim - length (corner_records numbers.vertex after) = omega (arith, seen-last numbers.vertex settings.setup.dim k after put, ap (λ d. 2 ^ d) ready.here.dim) in
        ap (λ its. load_all (setting_in rules old.held settings) (stream_stacks_of settings) cell.place k its machine) (sym seen)
        ∙ ap (λ n. load_all (setting_in rules old.held settings) (stream_stacks_of settings) cell.place n (corner_records numbers.vertex after) machine) same

    module _ (slot : Option (Vertex V)) {result : Result (Unit {0}) Inner} {new : Hand Plan V C} (loaded : OnOk result (IsSome slot)) where
      pub load-goes : GoesAlong rules numbers settings load_first (λ machine. (seen_slot numbers.vertex slot, machine)) 0 (filled_in slot) result old new
          → TouchesOn rules numbers settings (λ set. loads_left set) cell.place corners (with_vertex corners k slot) result old new
      load-goes goes =
          goes-same _ _ (filled_in_corners corners) (filled_in_corners (with_vertex corners k slot)) (first-goes load_first load_rest (λ machine. (seen_slot numbers.vertex slot, machine)) goes)
          (λ machine. sym (load-whole machine)) (on-ok result loaded (load-rest slot)) (omega (arith, filled-put slot))

    pub load-ready : (slot : Option (Vertex V)) (result : Result (Unit {0}) Inner) (new : Hand Plan V C) → OnOk result (IsSome slot)
        → TouchesOn rules numbers settings (λ set. loads_left set) cell.place corners (with_vertex corners k slot) result old new
        → OnOk result (MayLoad rules numbers settings cell (with_vertex corners k slot) new)
    load-ready slot (Err halt) new loaded goes = tt
    load-ready None (Ok done) new loaded goes = absurd (let no : false ≡ true = loaded in cc)
    load-ready (Some v) (Ok done) new loaded goes = record {
      here = last-next k corners (with_vertex corners k (Some v)) old new ready.here goes.stays (full_put settings.setup.dim k v corners (with_vertex corners k (Some v)) refl last_loaded);
      kinds = kinds-kept (corner_records numbers.vertex old.parents) (corner_records numbers.vertex new.parents) goes.stays.parents.ages old.held.dim new.held.dim settings.traversal cell.place cell.ages goes.stays.keeps.dim ready.kinds;
      fits = may-next ready.fits goes;
    }

  -- # One corner is stored
  module _ {corners : CornerList (Vertex V)} {old : Hand Plan V C} (k : ℕ) (ready : MayStore rules numbers settings cell corners old) (inside : k < 2 ^ settings.setup.dim) (behind : filled_in_corners corners ≡ 2 ^ settings.setup.dim - k)
      {slot after : Option (Vertex V)} (at : vertex_at corners k ≡ slot) (none : after ≡ None) where
    abbrev after_store : CornerList (Vertex V)
    after_store = with_vertex corners k after

    abbrev store_first : Setting Plan → Machine → Course Machine
    store_first set machine = store_corner set (stream_stacks_of settings) cell.place k (seen_slot numbers.vertex slot) machine

    abbrev store_rest : Setting Plan → Machine → Course Machine
    store_rest set machine = store_all set (stream_stacks_of settings) cell.place (k + 1) (corner_records numbers.vertex after_store) machine

    last_to_store : FullFrom settings.setup.dim k corners
    last_to_store = last-from k corners old ready.here behind (omega arith)

    last_stored : FullFrom settings.setup.dim (k + 1) after_store
    last_stored = full_take settings.setup.dim k corners after_store inside (ap (λ it. with_vertex corners k it) none) last_to_store

    pub store-there : IsSome slot
    store-there = subst IsSome at (full_here settings.setup.dim k corners inside last_to_store)

    seen-store : corner_records numbers.vertex corners ≡ seen_slot numbers.vertex slot ∷ corner_records numbers.vertex after_store
    seen-store = go slot store-there at
      where
        go : (it : Option (Vertex V)) → IsSome it → vertex_at corners k ≡ it → corner_records numbers.vertex corners ≡ seen_slot numbers.vertex it ∷ corner_records numbers.vertex after_store
        go None is here = absurd (let no : false ≡ true = is in cc)
        go (Some v) is here =
            ap (λ vs. map (record_of numbers.vertex) vs) (seen-take settings.setup.dim k v corners inside last_to_store here)
            ∙ ap (λ it. record_of numbers.vertex v ∷ corner_records numbers.vertex (with_vertex corners k it)) (sym none)

    store-whole : (machine : Machine) → left_of stores_left numbers settings cell.place corners (setting_in rules old.held settings) machine
        ≡ and_then (store_first (setting_in rules old.held settings) machine) (store_rest (setting_in rules old.held settings))
    store-whole machine =
        let same : 2 ^ old.held.dim - length (corner_records numbers.vertex corners) ≡ k = omega (arith, seen-last numbers.vertex settings.setup.dim k corners last_to_store, ap (λ d. 2 ^ d) ready.here.dim) in
        ap (λ n. store_all (setting_in rules old.held settings) (stream_stacks_of settings) cell.place n (corner_records numbers.vertex corners) machine) same
        ∙ ap (λ its. store_all (setting_in rules old.held settings) (stream_stacks_of settings) cell.place k its machine) seen-store

    store-rest : (machine : Machine) → store_rest (setting_in rules old.held settings) machine ≡ left_of stores_left numbers settings cell.place after_store (setting_in rules old.held settings) machine
    store-rest machine =
        let same : k + 1 ≡ 2 ^ old.held.dim - length (corner_records numbers.vertex after_store) = omega (arith, seen-last numbers.vertex settings.setup.dim (k + 1) after_store last_stored, ap (λ d. 2 ^ d) ready.here.dim) in
        ap (λ n. store_all (setting_in rules old.held settings) (stream_stacks_of settings) cell.place n (corner_records numbers.vertex after_store) machine) same

    pub store-fits : MayGo rules numbers settings store_first old
    store-fits = may-first rules numbers settings store_first store_rest old (λ cells. subst Fits (store-whole (machine_of numbers cells old)) (ready.fits cells))

    pub store-filled : filled_in_corners after_store ≡ 2 ^ settings.setup.dim - (k + 1)
    store-filled = omega (arith, filled-last settings.setup.dim (k + 1) after_store last_stored, last_stored.count)

    pub store-goes : {result : Result (Unit {0}) Inner} {new : Hand Plan V C} → GoesAlong rules numbers settings store_first (λ machine. machine) 1 0 result old new
        → TouchesOn rules numbers settings (λ set. stores_left set) cell.place corners after_store result old new
    store-goes {result} goes =
        goes-same _ _ (filled_in_corners corners) (filled_in_corners after_store) (first-goes store_first store_rest (λ machine. machine) goes)
        (λ machine. sym (store-whole machine)) (on-always result store-rest) (omega (arith, behind, store-filled, inside))

    pub store-ready : (result : Result (Unit {0}) Inner) (new : Hand Plan V C) → TouchesOn rules numbers settings (λ set. stores_left set) cell.place corners after_store result old new
        → OnOk result (MayStore rules numbers settings cell after_store new)
    store-ready (Err halt) new goes = tt
    store-ready (Ok done) new goes = record {
      here = last-next (k + 1) corners after_store old new ready.here goes.stays last_stored;
      out = omega (arith, ready.out, goes.left.out);
      fits = may-next ready.fits goes;
    }

-- # All of them
module _ {Plan V C : Type 0} (rules : Rules Plan) (numbers : Numbers V C) (settings : Settings) (cell : WalkedCell) where
  -- none is loaded before the first
  module _ (corners : CornerList (Vertex V)) (old : Hand Plan V C) (dim : old.held.dim ≡ settings.setup.dim) (empty : corners ≡ no_vertices old.held.dim) where
    none-loaded : corners ≡ no_vertices settings.setup.dim
    none-loaded = empty ∙ ap no_vertices dim

    pub none-filled : filled_in_corners corners ≡ 0
    none-filled =
        let start = full_start settings.setup.dim corners none-loaded in
        omega (arith, filled-last settings.setup.dim (2 ^ settings.setup.dim) corners start, start.count)

    loads-all : (machine : Machine) → left_of loads_left numbers settings cell.place corners (setting_in rules old.held settings) machine
        ≡ load_all (setting_in rules old.held settings) (stream_stacks_of settings) cell.place (2 ^ old.held.dim) [] machine
    loads-all machine =
        ap (λ vs. loads_left (setting_in rules old.held settings) (stream_stacks_of settings) cell.place (map (record_of numbers.vertex) vs) machine) (seen_none settings.setup.dim corners none-loaded)
        ∙ ap (λ n. load_all (setting_in rules old.held settings) (stream_stacks_of settings) cell.place n [] machine) (omega arith)

    pub loads-start : IsWalked old.held.dim settings cell → GiveKinds old.held.dim settings.traversal cell.place (corner_records numbers.vertex old.parents) cell.ages → IsFull old.held.dim old.parents
        → MayGo rules numbers settings (λ set. load_all set (stream_stacks_of settings) cell.place (2 ^ old.held.dim) []) old
        → MayLoad rules numbers settings cell corners old
    loads-start walked kinds full fits =
        let same : 2 ^ settings.setup.dim ≡ 2 ^ settings.setup.dim - filled_in_corners corners = omega (arith, none-filled) in
        record {
          here = record { dim = dim; walked = walked; full = full; last = subst (λ j. FullFrom settings.setup.dim j corners) same (full_start settings.setup.dim corners none-loaded) };
          kinds = kinds;
          fits = λ cells. subst Fits (sym (loads-all (machine_of numbers cells old))) (fits cells);
        }

    pub loads-end : {corners' : CornerList (Vertex V)} {result : Result (Unit {0}) Inner} {new : Hand Plan V C} → AreOf settings.setup.dim corners' → OnOk result (filled_in_corners corners' ≡ 2 ^ settings.setup.dim - 0)
        → TouchesOn rules numbers settings (λ set. loads_left set) cell.place corners corners' result old new
        → GoesAlong rules numbers settings (λ set. load_all set (stream_stacks_of settings) cell.place (2 ^ old.held.dim) []) (λ machine. (seen_slots numbers.vertex corners', machine)) 0 (filled_in_corners corners') result old new
    loads-end {corners'} {result} are filled goes =
        goes-all _ _ 0 (filled_in_corners corners') goes loads-all (on-ok result filled none-left) (omega (arith, none-filled))
      where
        none-left : filled_in_corners corners' ≡ 2 ^ settings.setup.dim - 0 → (machine : Machine) → left_of loads_left numbers settings cell.place corners' (setting_in rules old.held settings) machine ≡ at_once (seen_slots numbers.vertex corners', machine)
        none-left all machine =
            let none : 2 ^ old.held.dim - length (seen_slots numbers.vertex corners') ≡ 0 = omega (arith, length-map corners'.slots (seen_slot numbers.vertex), are.count, ap (λ d. 2 ^ d) dim) in
            ap (λ its. loads_left (setting_in rules old.held settings) (stream_stacks_of settings) cell.place its machine) (seen_corners-full numbers.vertex settings.setup.dim corners' are (omega arith))
            ∙ ap (λ n. load_all (setting_in rules old.held settings) (stream_stacks_of settings) cell.place n (seen_slots numbers.vertex corners') machine) none

  -- all are there before the first is stored
  module _ (corners : CornerList (Vertex V)) (old : Hand Plan V C) (dim : old.held.dim ≡ settings.setup.dim) (are : AreOf old.held.dim corners) (all : filled_in_corners corners ≡ 2 ^ old.held.dim) where
    stores-all : (machine : Machine) → left_of stores_left numbers settings cell.place corners (setting_in rules old.held settings) machine
        ≡ store_all (setting_in rules old.held settings) (stream_stacks_of settings) cell.place 0 (seen_slots numbers.vertex corners) machine
    stores-all machine =
        let none : 2 ^ old.held.dim - length (seen_slots numbers.vertex corners) ≡ 0 = omega (arith, length-map corners.slots (seen_slot numbers.vertex), are.count) in
        ap (λ its. stores_left (setting_in rules old.held settings) (stream_stacks_of settings) cell.place its machine) (seen_corners-full numbers.vertex old.held.dim corners are all)
        ∙ ap (λ n. store_all (setting_in rules old.held settings) (stream_stacks_of settings) cell.place n (seen_slots numbers.vertex corners) machine) none

    pub stores-start : IsWalked old.held.dim settings cell → IsFull old.held.dim old.parents → 2 ^ old.held.dim ≤ old.vertices.out
        → MayGo rules numbers settings (λ set. store_all set (stream_stacks_of settings) cell.place 0 (seen_slots numbers.vertex corners)) old
        → MayStore rules numbers settings cell corners old
    stores-start walked full out fits =
        let there : FullFrom settings.setup.dim 0 corners = subst (λ d. FullFrom d 0 corners) dim (full_from old.held.dim corners (full-of old.held.dim corners are all)) in
        let same : 0 ≡ 2 ^ settings.setup.dim - filled_in_corners corners = omega (arith, all, ap (λ d. 2 ^ d) dim) in
        record {
          here = record { dim = dim; walked = walked; full = full; last = subst (λ j. FullFrom settings.setup.dim j corners) same there };
          out = omega (arith, all);
          fits = λ cells. subst Fits (sym (stores-all (machine_of numbers cells old))) (fits cells);
        }

    pub stores-end : {corners' : CornerList (Vertex V)} {result : Result (Unit {0}) Inner} {new : Hand Plan V C} → AreOf settings.setup.dim corners' → OnOk result (filled_in_corners corners' ≡ 0)
        → TouchesOn rules numbers settings (λ set. stores_left set) cell.place corners corners' result old new
        → GoesAlong rules numbers settings (λ set. store_all set (stream_stacks_of settings) cell.place 0 (seen_slots numbers.vertex corners)) (λ machine. machine) (2 ^ old.held.dim) (filled_in_corners corners') result old new
    stores-end {corners'} {result} are' filled goes =
        goes-all _ _ (2 ^ old.held.dim) (filled_in_corners corners') goes stores-all (on-ok result filled none-left) (omega (arith, all))
      where
        none-left : filled_in_corners corners' ≡ 0 → (machine : Machine) → left_of stores_left numbers settings cell.place corners' (setting_in rules old.held settings) machine ≡ at_once machine
        none-left none machine = ap (λ vs. stores_left (setting_in rules old.held settings) (stream_stacks_of settings) cell.place (map (record_of numbers.vertex) vs) machine) (seen_none settings.setup.dim corners' (empty-of settings.setup.dim corners' are' none))
