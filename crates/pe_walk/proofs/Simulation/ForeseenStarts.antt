-- What is foreseen of a traversal of a grid is a foresight for the walk.
use Rattle.std.proofs.Common.{◌≡◌, ℕ, zero, suc, ◌+◌, ◌-◌, ◌^◌, ◌<◌, ◌≤◌, Bool, true, false, not, ◌&&◌, ◌||◌, ◌==◌, Option, Some, None, refl, sym, ap, ap₂, subst, ◌∙◌, inl, inr, arith, is_some, true≢false, if◌then◌else◌}
use Rattle.std.specs.Prelude.{nat_lt}
use Rattle.std.specs.Option.{option_map, unwrap_or}
use Rattle.std.specs.List.{list_any, AllByRecursion as Each}
use Rattle.std.proofs.lemmas.Bool.{lt-ltb, ne_eqb}
use Rattle.pe_base.specs.declared.place.Place.{Place}
use Rattle.pe_base.specs.declared.state.State.TheVariants.{Unrefined}
use Rattle.pe_base.specs.declared.kind.Kind.{Kind}
use Rattle.pe_base.specs.declared.kind.Kind.TheVariants.{Kept, Born, Dying, Hanging}
use Rattle.pe_base.specs.Tree.Dim.{IsDim}
use Rattle.pe_base.specs.Tree.Places.{corner, corners, parent_of}
use Rattle.pe_base.specs.Life.States.{is_old, is_new, is_stored}
use Rattle.pe_base.specs.Life.Table.{first_touch, start_state}
use Rattle.pe_base.specs.Life.Kinds.{kind_from, is_hanging, is_inside, level_one_kind}
use Rattle.pe_base.specs.Life.Carriers.{carriers, passes, is_carried}
use Rattle.pe_base.specs.Acts.Effects.{VertexRecord}
use Rattle.pe_base.specs.Walk.Maps.{at}
use Rattle.pe_base.specs.Walk.Core.{Setting, way}
use Rattle.pe_base.specs.Walk.Grids.{Grid, StoredVertex, state_in, is_stored_vertex}
use Rattle.pe_base.specs.Walk.Foreseen.{next_traversal, was, touched_state, will_on, will, kind_foreseen, old_foreseen, new_foreseen, below}
use Rattle.pe_base.proofs.Lists.{Each-weaker, Each-all, Each-In, list_any_none, list_any_same}
use Rattle.pe_order.specs.Laws.{IsCell}
use Rattle.pe_order.specs.Outlooks.{outlook, was_stored}
use Rattle.pe_walk.specs.Standing.{Foresight, IsForeseen, StartsFinest, Foresees}
use Rattle.pe_walk.specs.Gridded.{IsTraversalOf}
use Rattle.pe_base.specs.Tree.Curve.{order}
use Rattle.pe_base.specs.Tree.Ways.{way_of}
use Rattle.pe_base.proofs.Steps.VertexTouches.{OnGrid}
use Rattle.pe_base.proofs.Steps.CornerPlaces.{corner_on_grid}
use Rattle.pe_order.proofs.GridCells.{was-from, will-from}
use Rattle.pe_order.proofs.Steps.{order_on_grid}
use Rattle.pe_order.proofs.Unwalked.{contains_in}
use Rattle.pe_order.proofs.Forecasts.{Sound, old_stored, carrier_levels, counts_inside, two_or_deeper}
use Rattle.pe_walk.proofs.Simulation.Carried.{carried_inside}

-- a stored vertex as the working state has it before its first touch
abbrev pub as_begun : StoredVertex → VertexRecord
as_begun stored = record { state = stored.state; kind = Kept; numbers = stored.numbers }

abbrev pub foresight_of : ℕ → Grid → Foresight
foresight_of start_level grid = record {
  kind = kind_foreseen start_level grid;
  old = old_foreseen start_level grid;
  new = new_foreseen start_level grid;
  below = below start_level grid;
  start = λ vertex. option_map as_begun (at grid.vertices vertex);
}

module _ {Plan : Type 0} (set : Setting Plan) (grid : Grid) (swapped : Bool) (of : IsTraversalOf set grid) (sound : Sound grid) (stored : (vertex : Place) → is_some (at grid.vertices vertex) ≡ (nat_lt 0 grid.finished && is_stored_vertex grid.axes (state_in grid) vertex)) where
  abbrev f : Foresight
  f = foresight_of set.start_level grid

  -- each kind is as the state before the traversal makes it
  foreseen_by : (vertex : Place) (o : Option StoredVertex) → at grid.vertices vertex ≡ o → (b : Bool)
      → (is_old (touched_state set.start_level grid (kind_from (is_some o) b) vertex) ≡ f.old vertex) → (is_new (touched_state set.start_level grid (kind_from (is_some o) b) vertex) ≡ f.new vertex)
      → IsForeseen set f vertex (kind_from (is_some o) b) (option_map as_begun o)
  foreseen_by vertex None e true old new =
      let t : set.traversal ≡ next_traversal grid = of.traversal in
      (refl, ap (λ n. is_old (start_state n vertex.level set.start_level)) t ∙ old, ap (λ n. is_new (start_state n vertex.level set.start_level)) t ∙ new)
  foreseen_by vertex None e false old new = (refl, sym old, sym new)
  foreseen_by vertex (Some it) e true old new =
      let found : unwrap_or (state_in grid vertex) Unrefined ≡ it.state = ap (λ o. unwrap_or (option_map (λ (s : StoredVertex). s.state) o) Unrefined) e in
      (ap (λ s. is_old (first_touch s Kept)) (sym found) ∙ old, ap (λ s. is_new (first_touch s Kept)) (sym found) ∙ new)
  foreseen_by vertex (Some it) e false old new =
      let found : unwrap_or (state_in grid vertex) Unrefined ≡ it.state = ap (λ o. unwrap_or (option_map (λ (s : StoredVertex). s.state) o) Unrefined) e in
      (ap (λ s. is_old (first_touch s Dying)) (sym found) ∙ old, ap (λ s. is_new (first_touch s Dying)) (sym found) ∙ new)

  finest_by : (vertex : Place) (o : Option StoredVertex) → at grid.vertices vertex ≡ o → StartsFinest (set.rules.greatest set.plan) vertex (option_map as_begun o)
  finest_by vertex None e = tt
  finest_by vertex (Some it) e = λ deep. sound.finest vertex it.state (ap (option_map (λ (s : StoredVertex). s.state)) e) (subst (λ n. n ≤ vertex.level) of.greatest deep)

  -- on level 1
  first_level : (vertex : Place) → vertex.level ≡ 1 → level_one_kind set.axes set.traversal vertex ≡ f.kind vertex
  first_level vertex one =
      let axes : set.axes ≡ grid.axes = of.axes in
      let after : will set.start_level grid vertex ≡ is_inside grid.axes vertex = ap (λ n. will_on set.start_level grid n vertex) one in
      let before : was set.start_level grid vertex ≡ (is_inside grid.axes vertex && not (set.traversal == 1)) =
      stored vertex
      ∙ ap (λ n. nat_lt 0 grid.finished && (is_inside grid.axes vertex && (n == 1 || is_carried is_old (state_in grid) vertex))) one
      ∙ swap (is_inside grid.axes vertex) (nat_lt 0 grid.finished)
      ∙ ap (λ b. is_inside grid.axes vertex && b) (numbers grid.finished ∙ ap (λ n. not (n == 1)) (sym of.traversal)) in
      ap (λ n. kind_from (is_inside n vertex && not (set.traversal == 1)) (is_inside n vertex)) axes ∙ ap₂ kind_from (sym before) (sym after)
    where
      swap : (a b : Bool) → (b && (a && true)) ≡ (a && b)
      swap true true = refl
      swap true false = refl
      swap false true = refl
      swap false false = refl

      numbers : (n : ℕ) → nat_lt 0 n ≡ not (n + 1 == 1)
      numbers zero = refl
      numbers (suc n) = lt-ltb 0 (suc n) (omega arith) ∙ sym (ap not (ne_eqb (suc n + 1) 1 (λ e. absurd (omega (arith, e)))))

  -- a vertex that is not inside has no carrier that is old or new
  quiet_outside : (vertex : Place) → 1 ≤ vertex.level → OnGrid grid.axes vertex.level vertex → is_inside grid.axes vertex ≡ false → Each (λ m. (f.old m ≡ false) × (f.new m ≡ false)) (carriers vertex)
  quiet_outside vertex deep on outside =
      Each-weaker (λ m. is_inside grid.axes m ≡ true → is_inside grid.axes vertex ≡ true) (λ m. (f.old m ≡ false) × (f.new m ≡ false))
      (λ m inside. quiet m (λ h. absurd (true≢false (sym (inside h) ∙ outside)))) (carriers vertex) (carried_inside grid.axes vertex deep on)
    where
      quiet : (m : Place) → (is_inside grid.axes m ≡ true → ⊥) → (f.old m ≡ false) × (f.new m ≡ false)
      quiet m never =
          go (kind_foreseen set.start_level grid m) (λ counted. never (counts_inside set.start_level grid of.start_level sound m counted))
        where
          go : (k : Kind) → (not (is_hanging k) ≡ true → ⊥) → (is_old (touched_state set.start_level grid k m) ≡ false) × (is_new (touched_state set.start_level grid k m) ≡ false)
          go Kept h = absurd (h refl)
          go Born h = absurd (h refl)
          go Dying h = absurd (h refl)
          go Hanging h = (refl, refl)

  -- below level 1 a vertex on the grid is stored before where a carrier is old
  was_by : (vertex : Place) → 2 ≤ vertex.level → OnGrid grid.axes vertex.level vertex → list_any f.old (carriers vertex) ≡ was set.start_level grid vertex
  was_by vertex deep on =
      go (nat_lt 0 grid.finished) refl (is_inside grid.axes vertex) refl
      ∙ sym (stored vertex ∙ ap (λ b. nat_lt 0 grid.finished && (is_inside grid.axes vertex && (b || is_carried is_old (state_in grid) vertex))) (ne_eqb vertex.level 1 (λ e. absurd (omega (arith, e, deep)))))
    where
      olds : list_any f.old (carriers vertex) ≡ is_carried is_old (state_in grid) vertex
      olds = list_any_same f.old (λ m. passes is_old (state_in grid m)) (carriers vertex) (Each-all (λ m. f.old m ≡ passes is_old (state_in grid m)) (old_stored set.start_level grid of.start_level sound) (carriers vertex))

      unborn : nat_lt 0 grid.finished ≡ false → (m : Place) → passes is_old (state_in grid m) ≡ false
      unborn none m = none_there (at grid.vertices m) (stored m ∙ ap (λ b. b && is_stored_vertex grid.axes (state_in grid) m) none)
        where
          none_there : (o : Option StoredVertex) → is_some o ≡ false → passes is_old (option_map (λ (s : StoredVertex). s.state) o) ≡ false
          none_there None e = refl
          none_there (Some s) e = absurd (true≢false e)

      go : (b : Bool) → nat_lt 0 grid.finished ≡ b → (c : Bool) → is_inside grid.axes vertex ≡ c
          → list_any f.old (carriers vertex) ≡ (b && (c && is_carried is_old (state_in grid) vertex))
      go true p true q = olds
      go true p false q = list_any_none f.old (carriers vertex) (Each-weaker (λ m. (f.old m ≡ false) × (f.new m ≡ false)) (λ m. f.old m ≡ false) (λ m h. h.0) (carriers vertex) (quiet_outside vertex (omega (arith, deep)) on q))
      go false p c q = olds ∙ list_any_none (λ m. passes is_old (state_in grid m)) (carriers vertex) (Each-all (λ m. passes is_old (state_in grid m) ≡ false) (unborn p) (carriers vertex))

  -- and after where a carrier is new
  will_by : (n : ℕ) (vertex : Place) → vertex.level ≡ n → 2 ≤ n → OnGrid grid.axes vertex.level vertex → list_any f.new (carriers vertex) ≡ will_on set.start_level grid n vertex
  will_by zero vertex level deep on = absurd (omega (arith, deep))
  will_by (suc zero) vertex level deep on = absurd (omega (arith, deep))
  will_by (suc (suc n)) vertex level deep on =
      news ∙ go (is_inside grid.axes vertex) refl
    where
      news : list_any f.new (carriers vertex) ≡ list_any (λ m. is_new (touched_state set.start_level grid (kind_from (was set.start_level grid m) (will_on set.start_level grid (suc n) m)) m)) (carriers vertex)
      news = list_any_same f.new (λ m. is_new (touched_state set.start_level grid (kind_from (was set.start_level grid m) (will_on set.start_level grid (suc n) m)) m)) (carriers vertex)
          (Each-weaker (λ m. m.level ≡ vertex.level - 1) _
          (λ m up. ap (λ k. is_new (touched_state set.start_level grid (kind_from (was set.start_level grid m) (will_on set.start_level grid k m)) m)) (let e : m.level ≡ suc n = omega (arith, up, level) in e))
          (carriers vertex) (carrier_levels set.start_level grid of.start_level sound vertex))

      go : (c : Bool) → is_inside grid.axes vertex ≡ c
          → list_any (λ m. is_new (touched_state set.start_level grid (kind_from (was set.start_level grid m) (will_on set.start_level grid (suc n) m)) m)) (carriers vertex)
          ≡ (is_inside grid.axes vertex && list_any (λ m. is_new (touched_state set.start_level grid (kind_from (was set.start_level grid m) (will_on set.start_level grid (suc n) m)) m)) (carriers vertex))
      go true q = ap (λ c. c && list_any (λ m. is_new (touched_state set.start_level grid (kind_from (was set.start_level grid m) (will_on set.start_level grid (suc n) m)) m)) (carriers vertex)) (sym q)
      go false q =
          sym news
          ∙ list_any_none f.new (carriers vertex) (Each-weaker (λ m. (f.old m ≡ false) × (f.new m ≡ false)) (λ m. f.new m ≡ false) (λ m h. h.1) (carriers vertex) (quiet_outside vertex (omega (arith, level, deep)) on q))
          ∙ ap (λ c. c && list_any (λ m. is_new (touched_state set.start_level grid (kind_from (was set.start_level grid m) (will_on set.start_level grid (suc n) m)) m)) (carriers vertex)) (sym q)

  deeper : (cell : Place) (k : ℕ) → IsCell set.axes (way set) cell → 2 ≤ cell.level → k < 2 ^ set.axes
      → kind_from (list_any f.old (carriers (corner set.axes cell k))) (list_any f.new (carriers (corner set.axes cell k))) ≡ f.kind (corner set.axes cell k)
  deeper cell k is deep small =
      let here : OnGrid set.axes cell.level cell = Each-In (OnGrid set.axes cell.level) cell (order set.axes (way set) cell.level) (order_on_grid set.axes (way set) cell.level few) (contains_in (order set.axes (way set) cell.level) cell is) in
      let on : OnGrid grid.axes cell.level (corner set.axes cell k) = subst (λ n. OnGrid n cell.level (corner set.axes cell k)) of.axes (corner_on_grid set.axes cell.level cell k here) in
      ap₂ kind_from (was_by (corner set.axes cell k) deep on) (will_by cell.level (corner set.axes cell k) refl deep on)
    where
      few : set.axes ≤ 4
      few = subst (λ n. n ≤ 4) (sym of.axes) sound.dim.1

  -- what is foreseen of the grid
  pub foresees : Foresees set (outlook set.start_level grid swapped) f
  foresees = record {
    dim = subst IsDim (sym of.axes) sound.dim;
    axes = sym of.axes;
    ways = ap way_of (sym of.traversal);
    lawful = of.lawful;
    counts = λ vertex. refl;
    reads = λ vertex. was-from (was set.start_level grid vertex) (will set.start_level grid vertex);
    writes = λ vertex. will-from (was set.start_level grid vertex) (will set.start_level grid vertex);
    walks = λ cell. refl;
    reads_cell = λ cell deep. below_root cell deep (was_stored (below set.start_level grid (parent_of cell)));
    writes_cell = λ cell deep. below_root cell deep (is_stored (below set.start_level grid (parent_of cell)));
    level_one = first_level;
    deeper = deeper;
    foreseen = λ vertex. foreseen_by vertex (at grid.vertices vertex) refl (will set.start_level grid vertex) refl refl;
    root_below = λ cell level. ap (λ n. if n == 0 then (if next_traversal grid == 1 then Born else Kept) else kind_from (list_any f.old (corners grid.axes cell)) (list_any f.new (corners grid.axes cell))) level
        ∙ ap (λ n. if n == 1 then Born else Kept) (sym of.traversal);
    cell_below = λ cell deep. ap (λ b. if b then (if next_traversal grid == 1 then Born else Kept) else kind_from (list_any f.old (corners grid.axes cell)) (list_any f.new (corners grid.axes cell))) (ne_eqb cell.level 0 (λ e. absurd (omega (arith, e, deep))))
        ∙ ap (λ n. kind_from (list_any f.old (corners n cell)) (list_any f.new (corners n cell))) (sym of.axes);
    inside = λ vertex counted.
        let inside = counts_inside set.start_level grid of.start_level sound vertex counted in
        (deep_if vertex inside, subst (λ n. is_inside n vertex ≡ true) (sym of.axes) inside);
    finest = λ vertex. finest_by vertex (at grid.vertices vertex) refl;
    start_level = subst (λ n. set.start_level ≤ n) (sym of.greatest) of.start_level;
  }
    where
      below_root : (cell : Place) → 1 ≤ cell.level → (b : Bool) → (not (cell.level == 0) && b) ≡ b
      below_root cell deep b = ap (λ c. not c && b) (ne_eqb cell.level 0 (λ e. absurd (omega (arith, e, deep))))

      deep_if : (vertex : Place) → is_inside grid.axes vertex ≡ true → 1 ≤ vertex.level
      deep_if vertex inside = elim (two_or_deeper grid.axes vertex sound.dim inside) [ inl one ↦ omega (arith, one) | inr more ↦ omega (arith, more) ]
