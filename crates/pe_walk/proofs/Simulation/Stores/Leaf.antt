-- A corner is stored by model and machine alike.
use Rattle.std.proofs.Common.{◌≡◌, ℕ, suc, ◌+◌, ◌-◌, ◌*◌, ◌^◌, ◌<◌, ◌≤◌, Bool, true, false, ◌==◌, List, [], ◌∷◌, ◌++◌, Option, Some, None, refl, sym, ap, ap₂, subst, ◌∙◌, arith}
use Rattle.std.specs.Prelude.{is_none, if◌then◌else◌}
use Rattle.std.specs.Option.{unwrap_or}
use Rattle.std.specs.List.{range_with_len, AllByRecursion as Each}
use Rattle.std.proofs.lemmas.Bool.{ne_eqb, and_from}
use Rattle.std.proofs.lemmas.List.{append-nil}
use Rattle.pe_base.specs.declared.place.Place.{Place}
use Rattle.pe_base.specs.Tree.Places.{corner}
use Rattle.pe_base.specs.Acts.Effects.{VertexRecord}
use Rattle.pe_base.specs.Walk.Maps.{at}
use Rattle.pe_base.specs.Walk.Course.{Push, Course, done, at_once, and_then, course_map, allowed}
use Rattle.pe_base.specs.Walk.Core.{Setting, Family, way}
use Rattle.pe_base.specs.Walk.Working.{Working, no_vertex, vertex_at, cell_at, record_at, family_of}
use Rattle.pe_base.specs.Walk.Touches.{tally_store, store_corner}
use Rattle.pe_base.proofs.Lists.{map_same}
use Rattle.pe_base.proofs.Walk.Families.{Each-range}
use Rattle.pe_stacks.specs.Holdings.{Holdings, len_at}
use Rattle.pe_stacks.specs.Grid.{input_stack, output_stack}
use Rattle.pe_hang.specs.InHand.{map_holdings}
use Rattle.pe_adapt.specs.Touches.{Desk}
use Rattle.pe_adapt.specs.Touches as corners
use Rattle.pe_adapt.specs.CountedTouches.{Machine, desk_of, with_desk, tally_may_rise, is_placed}
use Rattle.pe_order.specs.Tokens.{Tokens, store, put}
use Rattle.pe_walk.specs.Standing.{ForeseenStart, Stage, Holds, HasRoom, IsForeseenStart, IsStage}
use Rattle.pe_walk.proofs.Simulation.CellsCounted.{tally_rises}
use Rattle.pe_walk.proofs.Simulation.Leaves.{StoreLeaf, after_store, record_of, image_of, records_from, in_hand, store_first}
use Rattle.pe_walk.proofs.Simulation.Matching.{Matches, Alike, then-grouped, core-then-matches, matches-same, mapped-done}
use Rattle.pe_walk.proofs.Simulation.Shared.{cells-image, vertices-image}
use Rattle.pe_walk.proofs.Simulation.Silent.{store-silent}
use Rattle.pe_walk.proofs.Simulation.Stores.OnStacks.{len-pushed}
use Rattle.pe_order.specs.Laws.{IsCell}
use Rattle.pe_walk.proofs.Simulation.Stores.Goals.{goal_if, goal_apart}
use Rattle.pe_walk.proofs.Simulation.Stores.InHand.{stored_by}
use Rattle.pe_walk.proofs.Simulation.Stores.Fairness.{IsStored, found, found_lying, cells_lying, records-stored}
use Rattle.pe_walk.proofs.Simulation.Stores.Stored.{to_of, goal_at, core_of, before_of, after_of, places_of, places_are, hand, within, is_stored, tally_after, holds_after}
use Rattle.pe_walk.proofs.Simulation.Stores.Sending.{log_of, MayGo, goes-image}

-- the output of the machine is that of the outlook
output_is : (swapped : Bool) → 17 - input_stack swapped ≡ output_stack swapped
output_is true = refl
output_is false = refl

-- the corners in hand, the first of which is stored
pub first_in_hand : {Plan : Type 0} (set : Setting Plan) (e : ForeseenStart) (w : Working) (cell : Place) (from k : ℕ) → from ≡ k → k < 2 ^ set.axes
    → records_from set e w cell from (2 ^ set.axes - from) ≡ record_at set.axes w cell k ∷ records_from set e w cell (k + 1) (2 ^ set.axes - (k + 1))
first_in_hand set e w cell from k same below =
    ap (λ n. records_from set e w cell n (2 ^ set.axes - n)) same
    ∙ ap (records_from set e w cell k) (let more : 2 ^ set.axes - k ≡ suc (2 ^ set.axes - (k + 1)) = omega (arith, below) in more)

module _ {Plan : Type 0} (set : Setting Plan) (e : ForeseenStart) (walked : Place → Bool) (is : IsForeseenStart set e walked) (st : Stage) (stage : IsStage set.axes e.outlook st) (w : Working) (t : Tokens) (h : Holds set e st w t)
    (k : ℕ) (from : st.from ≡ k) (below : k < 2 ^ set.axes) (t' : Tokens) (run : store e.outlook st.cell k t ≡ Some t') where
  abbrev vertex : Place
  vertex = corner set.axes st.cell k

  abbrev now : Tokens
  now = places_of set e st k t

  abbrev its : List VertexRecord
  its = records_from set e w st.cell (k + 1) (2 ^ set.axes - (k + 1))

  -- the rest of the machine's step, after the core
  abbrev handed : Course Desk → Course (List VertexRecord × Machine)
  handed course =
      course_map (λ m. (its, m))
      (course_map (λ desk. with_desk desk (record (image_of set e st.parent w t) { tally = tally_store (record_at set.axes w st.cell k).kind (is_none (to_of set st k)) w.tally })) course)

  abbrev sent : ℕ → Holdings VertexRecord → Option VertexRecord × Family → Course (List VertexRecord × Machine)
  sent out vertices r = handed (corners.goes set out (to_of set st k) r.0 (record { vertices = vertices; family = r.1 }))

  handed-done : (log : List Push) (desk : Desk) → handed (record { text = []; log = log; ending = done desk })
      ≡ record { text = []; log = log; ending = done (its, with_desk desk (record (image_of set e st.parent w t) { tally = tally_store (record_at set.axes w st.cell k).kind (is_none (to_of set st k)) w.tally })) }
  handed-done log desk =
      ap (λ (l : List Push). record { text = []; log = l; ending = done (its, with_desk desk (record (image_of set e st.parent w t) { tally = tally_store (record_at set.axes w st.cell k).kind (is_none (to_of set st k)) w.tally })) })
      (append-nil (log ++ []) ∙ append-nil log)

  some_out : 0 < t.vertices.out
  some_out = omega (arith, h.stands.out, from, below)

  -- a push may be made
  may_go : MayGo (goal_at set e st k) t.vertices
  may_go s went =
      let pushes = h.owes.pushes s in
      let most : 34 * w.tally.cells ≤ 34 * set.max_cells = omega (arith, h.owes.cells) in
      (within set e walked is st stage w t h k from below t' run s went, omega (arith, pushes, is.bound, most))

  goal_counts : (s : ℕ) → goal_at set e st k ≡ Some s → e.outlook.counts vertex ≡ true
  goal_counts s went = go (e.outlook.counts vertex) refl
    where
      go : (b : Bool) → e.outlook.counts vertex ≡ b → b ≡ true
      go true off = refl
      go false off = absurd (let none : None ≡ Some s = sym (ap (λ c. goal_if c e.outlook set.axes (way set) vertex st.cell) off) ∙ went in cc)

  module _ (r : Option VertexRecord × Family) (run_core : (core_of set st k w).ending ≡ done r) where
    abbrev after : Working
    after = after_of set st k w r

    stored_is : IsStored set e.outlook e.foresight st k (to_of set st k) (goal_at set e st k) r.0 r.1 w (before_of set st k w r.0) (after_of set st k w r) t
    stored_is = is_stored set e walked is st stage w t h k from below t' run r run_core

    -- the vertices on stacks are seen as before
    vertices_same : map_holdings (record_of set e (after_of set st k w r) (places_of set e st k t)) t.vertices ≡ map_holdings (record_of set e w t) t.vertices
    vertices_same = vertices-image set e w after t now t.vertices
        (λ x lying. (found_lying set e.outlook e.foresight st k (to_of set st k) (goal_at set e st k) r.0 r.1 w (before_of set st k w r.0) after t stored_is x lying, refl))

    cells_same : map_holdings (cell_at (after_of set st k w r)) t.cells ≡ map_holdings (cell_at w) t.cells
    cells_same = cells-image w after t.cells (cells_lying set e.outlook e.foresight st k (to_of set st k) (goal_at set e st k) r.0 r.1 w (before_of set st k w r.0) after t stored_is)

    -- and so are the corners that stay in hand
    its_same : records_from set e (after_of set st k w r) st.cell (k + 1) (2 ^ set.axes - (k + 1)) ≡ records_from set e w st.cell (k + 1) (2 ^ set.axes - (k + 1))
    its_same = map_same (record_at set.axes after st.cell) (record_at set.axes w st.cell) (range_with_len (k + 1) (2 ^ set.axes - (k + 1)))
        (Each-range (λ j. record_at set.axes after st.cell j ≡ record_at set.axes w st.cell j) (k + 1) (2 ^ set.axes - (k + 1))
        (λ j past small. records-stored set e.outlook e.foresight st k (to_of set st k) (goal_at set e st k) r.0 r.1 w (before_of set st k w r.0) after t stored_is j past (omega (arith, small, below))))

    -- the vertex is found as it was left
    left_seen : (s : ℕ) (it : VertexRecord) → goal_at set e st k ≡ Some s → r.0 ≡ Some it → it ≡ record_of set e (after_of set st k w r) (places_of set e st k t) vertex
    left_seen s it went left =
        let on = goal_counts s went in
        let there : at after.vertices vertex ≡ Some it = found set e.outlook e.foresight st k (to_of set st k) (goal_at set e st k) r.0 r.1 w (before_of set st k w r.0) after t stored_is on ∙ left in
        let met : (t.met vertex == 0) ≡ false = ne_eqb (t.met vertex) 0 (λ none. omega (arith, none, (h.stands.mine k (omega (arith, from)) below on).1)) in
        sym (ap (λ b. if b then (record (vertex_at after vertex) { kind = e.stale vertex }) else vertex_at after vertex) met ∙ ap (λ x. unwrap_or x no_vertex) there)

    -- what the machine has then is the image of what the model has
    machine_same : (
      its,
      with_desk (record { vertices = map_holdings (record_of set e (after_of set st k w r) (places_of set e st k t)) (put (goal_at set e st k) vertex t.vertices); family = r.1 })
          (record (image_of set e st.parent w t) { tally = tally_store (record_at set.axes w st.cell k).kind (is_none (to_of set st k)) w.tally }),
    )
        ≡ in_hand set e (after_store k st) (after_of set st k w r) (places_of set e st k t)
    machine_same =
        let family = sym stored_is.puts.family in
        let tally = sym (tally_after set e walked is st stage w t h k from below t' run r run_core) in
        λ i. (
          sym its_same i,
          record {
            vertices = map_holdings (record_of set e after now) (put (goal_at set e st k) vertex t.vertices);
            cells = sym cells_same i;
            family = family i;
            tally = tally i;
          },
        )

    sent_same : sent (17 - input_stack e.outlook.swapped) (map_holdings (record_of set e w t) t.vertices) r
        ≡ record { text = []; log = log_of (goal_at set e st k) t.vertices; ending = done (in_hand set e (after_store k st) (after_of set st k w r) (places_of set e st k t)) }
    sent_same =
        ap₂ (λ out vertices. sent out vertices r) (output_is e.outlook.swapped) (sym vertices_same)
        ∙ ap handed (goes-image set e.foresight (output_stack e.outlook.swapped) vertex (to_of set st k) (goal_at set e st k) r.0 (record_of set e after now) t.vertices r.1 stored_is.fate may_go some_out left_seen)
        ∙ handed-done (log_of (goal_at set e st k) t.vertices) (record { vertices = map_holdings (record_of set e after now) (put (goal_at set e st k) vertex t.vertices); family = r.1 })
        ∙ ap (λ x. record { text = []; log = log_of (goal_at set e st k) t.vertices; ending = done x }) machine_same

    -- and the push has room
    pub logged : (room : Push → Type 0) → HasRoom set e room → 1 ≤ st.owed → 1 ≤ st.unstored → Each room (log_of (goal_at set e st k) t.vertices)
    logged room rooms owed unstored = go (goal_at set e st k) refl
      where
        go : (goal : Option ℕ) → goal_at set e st k ≡ goal → Each room (log_of goal t.vertices)
        go None went = tt
        go (Some s) went = (
          subst (λ n. room (record { of_cell = false; stack = s; length = n }))
              (ap (λ goal. len_at (put goal vertex t.vertices) s) went ∙ len-pushed s vertex t.vertices (within set e walked is st stage w t h k from below t' run s went))
              (rooms.vertices (after_store k st) after now (holds_after set e walked is st stage w t h k from below t' run r run_core owed unstored) s
              (omega (arith, within set e walked is st stage w t h k from below t' run s went, h.stands.stacks))
              (goal_apart e.outlook set.axes (way set) st.cell k is.foresees.dim (subst (λ u. IsCell set.axes u st.cell) is.foresees.ways stage.cell) below s went)),
          tt,
        )

    pub sent_matches : (room : Push → Type 0) → Each room (log_of (goal_at set e st k) t.vertices)
        → Matches room (λ v. in_hand set e (after_store k st) v (places_of set e st k t)) (at_once (after_of set st k w r)) (sent (17 - input_stack e.outlook.swapped) (map_holdings (record_of set e w t) t.vertices) r)
    sent_matches room logs =
        matches-same room (λ v. in_hand set e (after_store k st) v now) (at_once after) _ _ (sym sent_same) (record { text = refl; ending = refl; log = logs })

  -- the machine's step is the core, and then the rest
  machine_is : (room : Push → Type 0)
      → store_first set e room st.cell k (in_hand set e st w t) ≡ and_then (core_of set st k w) (λ r. sent (17 - input_stack e.outlook.swapped) (map_holdings (record_of set e w t) t.vertices) r)
  machine_is room =
      ap (λ records. store_first set e room st.cell k (records, image_of set e st.parent w t)) (first_in_hand set e w st.cell st.from k from below)
      ∙ ap (λ b. course_map (λ m. (its, m)) (allowed b (course_map (λ desk. with_desk desk (record (image_of set e st.parent w t) { tally = tally_store (record_at set.axes w st.cell k).kind (is_none (to_of set st k)) w.tally }))
      (corners.store_corner set (17 - input_stack e.outlook.swapped) st.cell k (record_at set.axes w st.cell k) (desk_of (image_of set e st.parent w t))))))
      (and_from (tally_may_rise w.tally) (is_placed set.axes (record_at set.axes w st.cell k).kind vertex) (tally_rises set e walked is st w.tally t h.owes) (hand set e walked is st stage w t h k from below t' run).placed)
      ∙ ap (λ c. and_then c (λ m. at_once (its, m)))
      (then-grouped (core_of set st k w) _ _)
      ∙ then-grouped (core_of set st k w) _ _

  pub stored_steps : (room : Push → Type 0) → ((r : Option VertexRecord × Family) → (core_of set st k w).ending ≡ done r → Each room (log_of (goal_at set e st k) t.vertices)) → 1 ≤ st.owed → 1 ≤ st.unstored
      → Alike room (in_hand set e (after_store k st)) (Holds set e (after_store k st)) (store_corner set st.parent st.cell k w) (store_first set e room st.cell k (in_hand set e st w t)) t'
  stored_steps room logs owed unstored =
      let its_hand = hand set e walked is st stage w t h k from below t' run in
      let last = is_none (to_of set st k) in
      subst (λ (c : Course Working). Alike room (in_hand set e (after_store k st)) (Holds set e (after_store k st)) c (store_first set e room st.cell k (in_hand set e st w t)) t') (sym its_hand.same)
      (subst (λ x. Alike room (in_hand set e (after_store k st)) (Holds set e (after_store k st)) (stored_by set st k w last) (store_first set e room st.cell k (in_hand set e st w t)) x)
      (places_are set e walked is st stage w t h k from below t' run)
      (record {
        same = matches-same room (λ v. in_hand set e (after_store k st) v now) (stored_by set st k w last) _ _ (sym (machine_is room))
            (core-then-matches room (λ v. in_hand set e (after_store k st) v now) (core_of set st k w) (after_of set st k w)
            (λ r. sent (17 - input_stack e.outlook.swapped) (map_holdings (record_of set e w t) t.vertices) r)
            (store-silent set last vertex (record_at set.axes w st.cell k) (family_of set.axes w st.parent))
            (λ r run_core. sent_matches r run_core room (logs r run_core)));
        holds = λ v q.
            let at = mapped-done (core_of set st k w) (after_of set st k w) v q in
            subst (λ x. Holds set e (after_store k st) x now) (sym at.2) (holds_after set e walked is st stage w t h k from below t' run at.0 at.1 owed unstored);
      }))

-- A corner is stored by model and machine alike.
pub store_leaf : {Plan : Type 0} (set : Setting Plan) (e : ForeseenStart) (walked : Place → Bool) (room : Push → Type 0) → IsForeseenStart set e walked → HasRoom set e room → StoreLeaf set e room
store_leaf set e walked room is rooms st k stage below from owed unstored w t t' h run =
    stored_steps set e walked is st stage w t h k from below t' run room (λ r run_core. logged set e walked is st stage w t h k from below t' run r run_core room rooms owed unstored) owed unstored
