-- At a load, the kind of a corner is the one foreseen, by the map and by the parent's corners in hand.
use Rattle.std.proofs.Common.{◌≡◌, ℕ, ◌/◌, ◌^◌, ◌<◌, ◌≤◌, Bool, true, false, not, length, None, refl, sym, ap, subst, ◌∙◌, inl, arith}
use Rattle.std.specs.Option.{option_map, unwrap_or}
use Rattle.std.proofs.lemmas.List.{length-map}
use Rattle.pe_base.specs.declared.place.Place.{Place}
use Rattle.pe_base.specs.declared.way.Way.{Way}
use Rattle.pe_base.specs.declared.state.State.{State}
use Rattle.pe_base.specs.declared.kind.Kind.{Kind}
use Rattle.pe_base.specs.declared.kind.Kind.TheVariants.{Kept, Born, Dying, Hanging}
use Rattle.pe_base.specs.Tree.Places.{corner, parent_of}
use Rattle.pe_base.specs.Life.States.{is_old, is_new}
use Rattle.pe_base.specs.Life.Kinds.{is_hanging}
use Rattle.pe_base.specs.Life.Carriers.{passes}
use Rattle.pe_base.specs.Acts.Effects.{VertexRecord}
use Rattle.pe_base.specs.Walk.Maps.{at}
use Rattle.pe_base.specs.Walk.Core.{Setting, way}
use Rattle.pe_base.specs.Walk.Working.{Working, no_vertex, state_of, vertex_at, record_at, records_of, family_of}
use Rattle.pe_base.specs.Walk.Touches.{kind_of_vertex}
use Rattle.pe_base.proofs.Walk.CarrierLaws.{carriers_are_parents}
use Rattle.pe_base.proofs.Walk.Slots.{read, slot_if, is_hung, record_at-is}
use Rattle.pe_adapt.specs.Touches.{state_in_hand, kind_in_hand}
use Rattle.pe_order.specs.Laws.{IsCell}
use Rattle.pe_order.specs.Tokens.{Outlook, Tokens}
use Rattle.pe_order.proofs.Trees.{cell_position}
use Rattle.pe_order.proofs.Unwalked.{cell_four}
use Rattle.pe_walk.specs.Standing.{Foresight, Foresees, IsForeseen, Stage, Stands, Fair, IsFair, IsIdle, KindsAreFound}
use Rattle.pe_walk.proofs.Simulation.FoundKinds.{kind_by-foreseen, state_in_hand-corner}

-- a corner that does not hang is found under its place, also by its number
pub found_stored : (axes : ℕ) (w : Working) (cell : Place) (k : ℕ) → is_hung w cell k ≡ false → record_at axes w cell k ≡ vertex_at w (corner axes cell k)
found_stored axes w cell k e = record_at-is axes w cell k ∙ ap (λ b. read w (slot_if axes b cell k)) e

module _ {Plan : Type 0} (set : Setting Plan) (o : Outlook) (f : Foresight) (see : Foresees set o f) where
  -- what does not count hangs
  pub hangs_if : (vertex : Place) → o.counts vertex ≡ false → f.kind vertex ≡ Hanging
  hangs_if vertex off = by (f.kind vertex) (see.counts vertex)
    where
      by : (kind : Kind) → o.counts vertex ≡ not (is_hanging kind) → kind ≡ Hanging
      by Kept e = absurd cc
      by Born e = absurd cc
      by Dying e = absurd cc
      by Hanging e = refl

  -- and is not there before the traversal, and neither old nor new
  pub idle_if : (vertex : Place) → o.counts vertex ≡ false → (f.start vertex ≡ None) × (f.old vertex ≡ false) × (f.new vertex ≡ false)
  idle_if vertex off = subst (λ kind. IsForeseen set f vertex kind (f.start vertex)) (hangs_if vertex off) (see.foreseen vertex)

  module _ (greatest : ℕ) (st : Stage) (w : Working) (t : Tokens) (stands : Stands set.axes o st t) (fair : Fair set.axes greatest o f st w t) where
    -- a corner of the parent that counts is there, as foreseen
    pub parent_fair : (j : ℕ) → j < 2 ^ set.axes → o.counts (corner set.axes st.parent j) ≡ true → IsFair f greatest (corner set.axes st.parent j) (at w.vertices (corner set.axes st.parent j))
    parent_fair j small on = fair.live (corner set.axes st.parent j) on (inl (stands.parents j small on))

    -- and one that does not is not
    pub parent_absent : (j : ℕ) → j < 2 ^ set.axes → o.counts (corner set.axes st.parent j) ≡ false → at w.vertices (corner set.axes st.parent j) ≡ None
    parent_absent j small off = fair.unread (corner set.axes st.parent j) (stands.unmet (corner set.axes st.parent j) off) ∙ (idle_if (corner set.axes st.parent j) off).0

    -- by the map: a test of states that agrees with what is foreseen
    by_map : (test : State → Bool) (seen : Place → Bool) → ((vertex : Place) → o.counts vertex ≡ false → seen vertex ≡ false) → ((vertex : Place) (it : IsFair f greatest vertex (at w.vertices vertex)) → test it.it.state ≡ seen vertex)
        → (j : ℕ) → j < 2 ^ set.axes → passes test (state_of w (corner set.axes st.parent j)) ≡ seen (corner set.axes st.parent j)
    by_map test seen idle live j small = by (o.counts (corner set.axes st.parent j)) refl
      where
        by : (b : Bool) → o.counts (corner set.axes st.parent j) ≡ b → passes test (state_of w (corner set.axes st.parent j)) ≡ seen (corner set.axes st.parent j)
        by true on =
            let it = parent_fair j small on in
            ap (λ found. passes test (option_map (λ (v : VertexRecord). v.state) found)) it.there ∙ live (corner set.axes st.parent j) it
        by false off =
            ap (λ found. passes test (option_map (λ (v : VertexRecord). v.state) found)) (parent_absent j small off) ∙ sym (idle (corner set.axes st.parent j) off)

    -- by the corners in hand
    in_hand : (test : State → Bool) (seen : Place → Bool) → ((vertex : Place) → o.counts vertex ≡ false → seen vertex ≡ false) → ((vertex : Place) (it : IsFair f greatest vertex (at w.vertices vertex)) → test it.it.state ≡ seen vertex)
        → ((it : VertexRecord) → IsIdle it → test it.state ≡ false) → set.axes ≤ length st.parent.pos
        → (j : ℕ) → j < 2 ^ set.axes → passes test (state_in_hand st.parent (records_of set.axes w st.parent) (corner set.axes st.parent j)) ≡ seen (corner set.axes st.parent j)
    in_hand test seen idle live hung long j small =
        ap (passes test) (state_in_hand-corner set.axes w st.parent j long small) ∙ by (o.counts (corner set.axes st.parent j)) refl
      where
        by : (b : Bool) → o.counts (corner set.axes st.parent j) ≡ b → test (record_at set.axes w st.parent j).state ≡ seen (corner set.axes st.parent j)
        by true on =
            let it = parent_fair j small on in
            ap (λ (v : VertexRecord). test v.state) (found_stored set.axes w st.parent j (fair.parent_flags j small ∙ ap not on) ∙ ap (λ found. unwrap_or found no_vertex) it.there)
            ∙ live (corner set.axes st.parent j) it
        by false off = hung (record_at set.axes w st.parent j) (fair.parents j small off) ∙ sym (idle (corner set.axes st.parent j) off)

    -- the kind by the map, and by the corners in hand
    pub kind_by_map : IsCell set.axes (way set) st.cell → parent_of st.cell ≡ st.parent → 1 ≤ st.cell.level → (k : ℕ) → k < 2 ^ set.axes → kind_of_vertex set w (corner set.axes st.cell k) ≡ f.kind (corner set.axes st.cell k)
    kind_by_map is_cell above deep k small =
        kind_by-foreseen set f (state_of w) st.cell k see.level_one (λ other. see.deeper st.cell k is_cell (omega arith) small)
        (carriers_are_parents set.axes st.cell k see.dim small (cell_position set.axes (way set) st.cell see.dim.1 is_cell))
        (subst (λ p. (j : ℕ) → j < 2 ^ set.axes → passes is_old (state_of w (corner set.axes p j)) ≡ f.old (corner set.axes p j)) (sym above) (by_map is_old f.old (λ vertex off. (idle_if vertex off).1) (λ vertex it. it.old)))
        (subst (λ p. (j : ℕ) → j < 2 ^ set.axes → passes is_new (state_of w (corner set.axes p j)) ≡ f.new (corner set.axes p j)) (sym above) (by_map is_new f.new (λ vertex off. (idle_if vertex off).2) (λ vertex it. it.new)))

    pub kind_by_hand : IsCell set.axes (way set) st.cell → parent_of st.cell ≡ st.parent → 1 ≤ st.cell.level → set.axes ≤ length st.parent.pos → (k : ℕ) → k < 2 ^ set.axes
        → kind_in_hand set st.cell (family_of set.axes w st.parent).parents (corner set.axes st.cell k) ≡ f.kind (corner set.axes st.cell k)
    kind_by_hand is_cell above deep long k small =
        kind_by-foreseen set f (state_in_hand (parent_of st.cell) (records_of set.axes w st.parent)) st.cell k see.level_one (λ other. see.deeper st.cell k is_cell (omega arith) small)
        (carriers_are_parents set.axes st.cell k see.dim small (cell_position set.axes (way set) st.cell see.dim.1 is_cell))
        (subst (λ p. (j : ℕ) → j < 2 ^ set.axes → passes is_old (state_in_hand p (records_of set.axes w st.parent) (corner set.axes p j)) ≡ f.old (corner set.axes p j)) (sym above)
        (in_hand is_old f.old (λ vertex off. (idle_if vertex off).1) (λ vertex it. it.old) (λ it idle. idle.old) long))
        (subst (λ p. (j : ℕ) → j < 2 ^ set.axes → passes is_new (state_in_hand p (records_of set.axes w st.parent) (corner set.axes p j)) ≡ f.new (corner set.axes p j)) (sym above)
        (in_hand is_new f.new (λ vertex off. (idle_if vertex off).2) (λ vertex it. it.new) (λ it idle. idle.new) long))

-- the parent of a cell of the tree has a position on each axis
pub parent_long : (axes : ℕ) (w : Way) (cell parent : Place) → axes ≤ 4 → IsCell axes w cell → parent_of cell ≡ parent → axes ≤ length parent.pos
parent_long axes w cell parent few is above =
    let four : length (parent_of cell).pos ≡ 4 = length-map cell.pos (λ p. p / 3) ∙ cell_four axes w cell few is in
    subst (λ (p : Place). axes ≤ length p.pos) above (omega (arith, four, few))

-- the kinds as they are found
pub kinds_are_found : {Plan : Type 0} → KindsAreFound Plan
kinds_are_found set e walked st w t is stage holds k small =
    let see = is.foresees in
    let is_cell : IsCell set.axes (way set) st.cell = subst (λ w. IsCell set.axes w st.cell) see.ways stage.cell in
    let long = parent_long set.axes (way set) st.cell st.parent see.dim.1 is_cell stage.above in
    record {
      by_map = kind_by_map set e.outlook e.foresight see (set.rules.greatest set.plan) st w t holds.stands holds.fair is_cell stage.above stage.deep k small;
      in_hand = kind_by_hand set e.outlook e.foresight see (set.rules.greatest set.plan) st w t holds.stands holds.fair is_cell stage.above stage.deep long k small;
    }
