-- What each step of the walk by address counts: by the kinds that are foreseen.
use Rattle.std.proofs.Common.{◌≡◌, inl, ℕ, ◌^◌, ◌<◌, Bool, true, false, Option, Some, refl, sym, ap, ap₂, ◌∙◌, arith}
use Rattle.std.specs.Prelude.{is_none, nat_lt}
use Rattle.std.specs.Option.{unwrap_or, option_and_then}
use Rattle.pe_base.specs.declared.place.Place.{Place}
use Rattle.pe_base.specs.declared.kind.Kind.{Kind}
use Rattle.pe_base.specs.declared.kind.Kind.TheVariants.{Kept, Born, Dying, Hanging}
use Rattle.pe_base.specs.declared.event.Event.{Event}
use Rattle.pe_base.specs.declared.tally.Tally.{Tally}
use Rattle.pe_base.specs.Tree.Places.{corner}
use Rattle.pe_base.specs.Steps.Routes.{stack_in, stack_out}
use Rattle.pe_base.specs.Acts.Effects.{VertexRecord}
use Rattle.pe_base.specs.Walk.Maps.{at}
use Rattle.pe_base.specs.Walk.Course.{Course, done, and_then}
use Rattle.pe_base.specs.Walk.Core.{Setting, Family, Own, plain_event, enter_touch, leave_touch}
use Rattle.pe_base.specs.Walk.Working.{Working, no_vertex, cell_at, records_of, family_of, own_of, record_at, put_family, put_own, put_cell}
use Rattle.pe_base.specs.Walk.Touches.{tally_load, tally_store, tally_cell, within_limit, put_loaded, after_cell, put_left}
use Rattle.pe_base.specs.Walk.Touches as model
use Rattle.pe_base.specs.Walk.Walk as walks
use Rattle.pe_base.proofs.Walk.Courses.{done_same, mapped-done, then-done}
use Rattle.pe_base.proofs.Walk.Families.{beside-put_records}
use Rattle.pe_order.specs.Tokens.{Tokens, touch_of, load, store}
use Rattle.pe_walk.specs.Standing.{ForeseenStart, Stage, Holds, IsForeseenStart, IsStage, IsFair}
use Rattle.pe_order.specs.Tallies.{counted_load, counted_store}
use Rattle.pe_walk.proofs.Simulation.Matching.{both_some}
use Rattle.pe_walk.proofs.Simulation.LoadedKinds.{found_stored, hangs_if}
use Rattle.pe_walk.proofs.Simulation.Loads.OnStacks.{loads_place}
use Rattle.pe_walk.proofs.Simulation.Loads.Cores.{vertex_of, source_of, core_of, working_after, model_is}
use Rattle.pe_walk.proofs.Simulation.Stores.InHand.{counting_free}
use Rattle.pe_walk.proofs.Simulation.Stores.Stored as stores

-- a step counts so, where it is done
abbrev pub Counted : (Working → Tokens → Type 0) → (Working → Course Working) → (Tokens → Option Tokens) → (Tally → Tally) → Type 0
Counted holds step tokens count = (w : Working) (t t' : Tokens) → holds w t → tokens t ≡ Some t' → (v : Working) → (step w).ending ≡ done v → v.tally ≡ count w.tally

-- and what holds after it
abbrev pub Leads : (Working → Tokens → Type 0) → (Working → Tokens → Type 0) → (Working → Course Working) → (Tokens → Option Tokens) → Type 0
Leads holds holds' step tokens = (w : Working) (t t' : Tokens) → holds w t → tokens t ≡ Some t' → (v : Working) → (step w).ending ≡ done v → holds' v t'

pub counted-then : (holds holds' : Working → Tokens → Type 0) (step step' : Working → Course Working) (tokens tokens' : Tokens → Option Tokens) (count count' : Tally → Tally)
    → Counted holds step tokens count → Leads holds holds' step tokens → Counted holds' step' tokens' count'
    → Counted holds (λ w. and_then (step w) step') (λ t. option_and_then tokens' (tokens t)) (λ tally. count' (count tally))
counted-then holds holds' step step' tokens tokens' count count' first leads next w t t' h k v q =
    let mid = both_some (tokens t) tokens' t' k in
    let at = then-done (step w) step' v q in
    next at.0 mid.0 t' (leads w t mid.0 h mid.1 at.0 at.1) mid.2 v at.2 ∙ ap count' (first w t mid.0 h mid.1 at.0 at.1)

-- what puts records back leaves the tally
family-tally : (axes : ℕ) (parent : Place) (family : Family) (w : Working) → (put_family axes parent family w).tally ≡ w.tally
family-tally axes parent family w = (beside-put_records axes parent 0 family.parents (put_cell parent family.parent (record w { list = family.list }))).tally

own-tally : (axes : ℕ) (cell : Place) (own : Own) (w : Working) → (put_own axes cell own w).tally ≡ w.tally
own-tally axes cell own w = (beside-put_records axes cell 0 own.corners (put_cell cell own.cell w)).tally

module _ {Plan : Type 0} (set : Setting Plan) where
  loaded-tally : (kind : Kind) (cell : Place) (k : ℕ) (it : VertexRecord) (w : Working) → (put_loaded set kind cell k it w).tally ≡ w.tally
  loaded-tally Kept cell k it w = refl
  loaded-tally Born cell k it w = refl
  loaded-tally Dying cell k it w = refl
  loaded-tally Hanging cell k it w = refl

  cell-tally : (parent cell : Place) (it : Own × Family) (w : Working) → (after_cell set parent cell it w).tally ≡ w.tally
  cell-tally parent cell it w = family-tally set.axes parent it.1 (put_own set.axes cell it.0 w) ∙ own-tally set.axes cell it.0 w

  left-tally : (kind : Kind) (cell : Place) (w : Working) → (put_left set kind cell w).tally ≡ w.tally
  left-tally Kept cell w = refl
  left-tally Born cell w = refl
  left-tally Dying cell w = refl
  left-tally Hanging cell w = refl

  -- a cell is counted
  pub count_counted : (holds : Working → Tokens → Type 0) (cell : Place) → Counted holds (model.count_cell set cell) (λ t. Some t) (tally_cell cell)
  count_counted holds cell w t t' h k v q = go (nat_lt set.max_cells (tally_cell cell w.tally).cells) q
    where
      go : (b : Bool) → (within_limit set cell (record w { tally = tally_cell cell w.tally }) b).ending ≡ done v → v.tally ≡ tally_cell cell w.tally
      go true e = absurd cc
      go false e = ap (λ (u : Working). u.tally) (sym (done_same (record w { tally = tally_cell cell w.tally }) v e))

  -- entered and left
  pub enter_counted : (holds : Working → Tokens → Type 0) (tokens : Tokens → Option Tokens) (parent cell : Place) → Counted holds (model.enter_cell set parent cell) tokens (λ tally. tally)
  enter_counted holds tokens parent cell w t t' h k v q = let at = mapped-done (enter_touch set (model.kind_of_children set w parent) (cell_at w cell) cell (records_of set.axes w cell) (family_of set.axes w parent)) (λ it. after_cell set parent cell it w) v q in ap (λ (u : Working). u.tally) at.2 ∙ cell-tally parent cell at.0 w

  pub leave_counted : (holds : Working → Tokens → Type 0) (tokens : Tokens → Option Tokens) (parent cell : Place) → Counted holds (model.leave_cell set parent cell) tokens (λ tally. tally)
  leave_counted holds tokens parent cell w t t' h k v q =
      let kind = model.kind_of_children set w parent in
      let at = mapped-done (leave_touch set kind cell (own_of set.axes w cell) (family_of set.axes w parent)) (λ it. put_left set kind cell (after_cell set parent cell it w)) v q in
      ap (λ (u : Working). u.tally) at.2 ∙ left-tally kind cell (after_cell set parent cell at.0 w) ∙ cell-tally parent cell at.0 w

  -- an event of the traversal as a whole
  pub plain_counted : (holds : Working → Tokens → Type 0) (tokens : Tokens → Option Tokens) (event : Event) → Counted holds (walks.plain set event) tokens (λ tally. tally)
  plain_counted holds tokens event w t t' h k v q = let at = mapped-done (plain_event set event w.list) (λ list. record w { list = list }) v q in ap (λ (u : Working). u.tally) at.2

  module _ (e : ForeseenStart) (walked : Place → Bool) (is : IsForeseenStart set e walked) (st : Stage) (stage : IsStage set.axes e.outlook st) (k : ℕ) (small : k < 2 ^ set.axes) where
    -- the kinds are those of the foreseen_start, over its axes and its way
    load-same : (tally : Tally) → tally_load (e.foresight.kind (vertex_of set st k)) (is_none (source_of set st k)) tally ≡ counted_load e.outlook e.foresight.kind (touch_of e.outlook st.cell k) tally
    load-same tally = ap₂ (λ n u. tally_load (e.foresight.kind (corner n st.cell k)) (is_none (stack_in n u (corner n st.cell k) st.cell)) tally) (sym is.foresees.axes) (sym is.foresees.ways)

    store-same : (tally : Tally) → tally_store (e.foresight.kind (corner set.axes st.cell k)) (is_none (stores.to_of set st k)) tally ≡ counted_store e.outlook e.foresight.kind (touch_of e.outlook st.cell k) tally
    store-same tally = ap₂ (λ n u. tally_store (e.foresight.kind (corner n st.cell k)) (is_none (stack_out n u (corner n st.cell k) st.cell)) tally) (sym is.foresees.axes) (sym is.foresees.ways)

    -- a corner is loaded
    pub load_counted : Counted (Holds set e st) (model.load_corner set st.parent st.cell k) (load e.outlook st.cell k) (counted_load e.outlook e.foresight.kind (touch_of e.outlook st.cell k))
    load_counted w t t' h run v q =
        let kind = e.foresight.kind (vertex_of set st k) in
        let first = is_none (source_of set st k) in
        let same = model_is set e walked is st stage k small w t t' h (loads_place e.outlook set.axes st.cell k t t' is.foresees.axes run) in
        let at = mapped-done (core_of set e st k w) (working_after set e st k w) v (ap (λ (c : Course Working). c.ending) (sym same) ∙ q) in
        ap (λ (u : Working). u.tally) at.2
        ∙ family-tally set.axes st.parent at.0.1 (put_loaded set kind st.cell k at.0.0 (record w { tally = tally_load kind first w.tally }))
        ∙ loaded-tally kind st.cell k at.0.0 (record w { tally = tally_load kind first w.tally })
        ∙ load-same w.tally

    -- a corner is stored
    pub store_counted : st.from ≡ k → Counted (Holds set e st) (model.store_corner set st.parent st.cell k) (store e.outlook st.cell k) (counted_store e.outlook e.foresight.kind (touch_of e.outlook st.cell k))
    store_counted from w t t' h run v q =
        let hand = stores.hand set e walked is st stage w t h k from small t' run in
        let at = mapped-done (stores.core_of set st k w) (stores.after_of set st k w) v (ap (λ (c : Course Working). c.ending) (sym hand.same) ∙ q) in
        ap (λ (u : Working). u.tally) at.2
        ∙ stores.tally_after set e walked is st stage w t h k from small t' run at.0 at.1
        ∙ ap (λ kind. tally_store kind (is_none (stores.to_of set st k)) w.tally) (foreseen (e.outlook.counts vertex) refl)
        ∙ store-same w.tally
      where
        vertex : Place
        vertex = corner set.axes st.cell k

        foreseen : (b : Bool) → e.outlook.counts (corner set.axes st.cell k) ≡ b → (record_at set.axes w st.cell k).kind ≡ e.foresight.kind (corner set.axes st.cell k)
        foreseen true on =
            let fair : IsFair e.foresight (set.rules.greatest set.plan) vertex (at w.vertices vertex) = h.fair.live vertex on (inl (h.stands.mine k (omega (arith, from)) small on).0) in
            ap (λ (it : VertexRecord). it.kind) (found_stored set.axes w st.cell k (counting_free set e walked is st stage w t h k from small (stores.deep set e walked is st stage w t h k from small t' run) on) ∙ ap (λ x. unwrap_or x no_vertex) fair.there) ∙ fair.kind
        foreseen false off = (h.fair.mine k (omega (arith, from)) small off).kind ∙ sym (hangs_if set e.outlook e.foresight is.foresees vertex off)
