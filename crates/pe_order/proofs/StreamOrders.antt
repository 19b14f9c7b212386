-- What a traversal reads and writes is the order of the grids before and after it.
use Rattle.std.proofs.Common.{◌≡◌, ◌≢◌, ◌⊎◌, inl, inr, ℕ, zero, suc, ◌+◌, ◌-◌, ◌%◌, ◌^◌, ◌<◌, ◌≤◌, Bool, true, false, not, ◌&&◌, ◌||◌, ◌==◌, List, [], ◌∷◌, map, length, take, drop, slice_index, Option, Some, None, refl, sym, ap, ap₂, ◌∙◌, subst, true≢false, arith}
use Rattle.std.specs.Prelude.{is_some, is_none, nat_lt, if◌then◌else◌}
use Rattle.std.specs.Option.{option_map, unwrap_or}
use Rattle.std.specs.List.{list_any, list_all}
use Rattle.std.proofs.lemmas.Bool.Decides.{nat_tests}
use Rattle.std.proofs.lemmas.Bool.{and_parts, eq-eqb, ne_eqb, eqb-true, and_right, or_right}
use Rattle.pe_base.specs.declared.place.Place.{Place}
use Rattle.pe_base.specs.declared.way.Way.TheVariants.{Forward, Inverted}
use Rattle.pe_base.specs.declared.state.State.{State}
use Rattle.pe_base.specs.declared.state.State.TheVariants.{Unrefined, RefinementTriggered, Refining, Refined, EraseTriggered, Erasing}
use Rattle.pe_base.specs.declared.kind.Kind.{Kind}
use Rattle.pe_base.specs.declared.kind.Kind.TheVariants.{Kept, Born, Dying, Hanging}
use Rattle.pe_base.specs.Tree.Dim.{IsDim}
use Rattle.pe_base.specs.Tree.Places.{IsPosition, root, corners, parent_of}
use Rattle.pe_base.specs.Tree.Ways.{way_of, opposite}
use Rattle.pe_base.specs.Steps.Routes.{stack_in}
use Rattle.pe_base.specs.Life.States.{is_old, is_new, is_stored}
use Rattle.pe_base.specs.Life.Kinds.{kind_from, is_hanging, is_inside}
use Rattle.pe_base.specs.Life.Carriers.{carriers, passes}
use Rattle.pe_base.specs.Life.Table.{first_touch}
use Rattle.pe_base.specs.Walk.Maps.{at}
use Rattle.pe_base.specs.Walk.Grids.{Grid, StoredVertex, state_in, is_cell, is_refined_cell, is_stored_vertex, is_stored_cell, IsWellFormed}
use Rattle.pe_base.specs.Walk.Streams.{goes_below, next_way, stream_vertices, stream_cells, walked_loads, walked_cells, is_first}
use Rattle.pe_base.specs.Walk.Foreseen.{next_traversal, was, will, will_on, touched_state, old_foreseen, new_foreseen, below, walks, walked}
use Rattle.pe_base.proofs.Lists.{Each-all, Each-weaker, filter_same, filter_none, list_any_same}
use Rattle.pe_order.specs.Tokens.{turned}
use Rattle.pe_order.specs.Takings.{loads_of, is_read, reads_of, writes_of, cell_reads_of, cell_writes_of, Grown}
use Rattle.pe_order.specs.Outlooks.{was_stored, outlook, stored_outlook, stored_walked, IsNew}
use Rattle.pe_order.specs.StreamLaws.{ReadsAreStreams, IsNext, NextIsFormed, WritesAreStreams, TraversalOfAGrid}
use Rattle.pe_stacks.specs.Grid.{input_stack, output_stack, cell_input_stack, cell_output_stack}
use Rattle.pe_order.proofs.Tokens.Traversals.{whole_traversal}
use Rattle.pe_order.proofs.Trees.{cell_position}
use Rattle.pe_order.proofs.Forecasts.{Sound, formed, fresh, old_stored, forecast_grown, forecast_fits, stored_grown, carrier_levels, two_or_deeper}
use Rattle.pe_order.proofs.Tokens.Turning.{writes-turned, cell_writes-turned}
use Rattle.pe_order.proofs.Tokens.Streams.{fits_turned, streams_are_one}
use Rattle.pe_order.proofs.Tests.{and_twice}

-- the streams of a grid are what a walk with no events reads
stream_reads : (grid : Grid) (swapped : Bool) → reads_of (stored_outlook grid swapped) grid.greatest root ≡ stream_vertices grid
stream_reads grid swapped = ap (map (λ t. t.vertex)) (filter_same (is_read (stored_outlook grid swapped)) _ (walked_loads grid.axes (next_way grid) (goes_below grid) grid.greatest root)
    (Each-all _ (λ t. and_twice (is_some (at grid.vertices t.vertex)) (is_none (stack_in grid.axes (next_way grid) t.vertex t.cell))) (walked_loads grid.axes (next_way grid) (goes_below grid) grid.greatest root)))

-- the test of a cell, at a cell of the tree
pub cell_test : (axes : ℕ) (cell : Place) → IsPosition axes (3 ^ cell.level) cell.pos → is_cell axes cell ≡ not (cell.level == 0)
cell_test axes cell is = ap₂ (λ x y. ((nat_lt 0 cell.level && x) && y) && list_all (λ z. z == 0) (drop axes cell.pos)) (eq-eqb (length cell.pos) 4 is.four) (front axes cell.pos (λ i h l. is.inside i h))
    ∙ ap (λ z. ((nat_lt 0 cell.level && true) && true) && z) (behind axes cell.pos is.rest) ∙ plain (nat_lt 0 cell.level) ∙ above cell.level
  where
    front : (n : ℕ) (pos : List ℕ) → ((i : ℕ) → i < n → i < length pos → slice_index pos i < 3 ^ cell.level) → list_all (λ x. nat_lt x (3 ^ cell.level)) (take n pos) ≡ true
    front zero pos h = refl
    front (suc n) [] h = refl
    front (suc n) (x ∷ pos) h = ap₂ (λ a b. a && b) (less x (3 ^ cell.level) (h 0 (omega arith) (omega arith))) (front n pos (λ i l m. h (suc i) (omega arith) (omega arith)))
      where
        less : (a b : ℕ) → a < b → nat_lt a b ≡ true
        less a b l = grind (arith, nat_tests)

    zeros : (pos : List ℕ) → ((i : ℕ) → slice_index pos i ≡ 0) → list_all (λ z. z == 0) pos ≡ true
    zeros [] h = refl
    zeros (x ∷ pos) h = ap₂ (λ a b. a && b) (eq-eqb x 0 (h 0)) (zeros pos (λ i. h (suc i)))

    behind : (n : ℕ) (pos : List ℕ) → ((i : ℕ) → n ≤ i → slice_index pos i ≡ 0) → list_all (λ z. z == 0) (drop n pos) ≡ true
    behind zero pos h = zeros pos (λ i. h i (omega arith))
    behind (suc n) [] h = refl
    behind (suc n) (x ∷ pos) h = behind n pos (λ i l. h (suc i) (omega arith))

    plain : (b : Bool) → (((b && true) && true) && true) ≡ b
    plain true = refl
    plain false = refl

    above : (n : ℕ) → nat_lt 0 n ≡ not (n == 0)
    above n = grind (arith, nat_tests)

next_way_of : (n : ℕ) → opposite (way_of n) ≡ way_of (n + 1)
next_way_of n = go (n % 2 == 1) (n % 2) (omega arith) refl
  where
    go : (b : Bool) (r : ℕ) → r ≡ n % 2 → (n % 2 == 1) ≡ b → opposite (if b then Forward else Inverted) ≡ way_of (n + 1)
    go true r k e = let odd : n % 2 ≡ 1 = eqb-true (n % 2) 1 e in ap (λ b. if b then Forward else Inverted) (sym (ne_eqb ((n + 1) % 2) 1 (λ h. omega (arith, h, odd))))
    go false r k e = let even : n % 2 ≢ 1 = (λ h. true≢false (sym (eq-eqb (n % 2) 1 h) ∙ e)) in ap (λ b. if b then Forward else Inverted) (sym (eq-eqb ((n + 1) % 2) 1 (omega (arith, two n even))))
      where
        two : (m : ℕ) → m % 2 ≢ 1 → m % 2 ≡ 0
        two m h = grind arith

-- what counts and was stored, was stored; and so with what will be
counts_was : (a b : Bool) → (not (is_hanging (kind_from a b)) && a) ≡ (a && a)
counts_was true true = refl
counts_was true false = refl
counts_was false true = refl
counts_was false false = refl

counts_will : (a b : Bool) → (not (is_hanging (kind_from a b)) && b) ≡ (b && b)
counts_will true true = refl
counts_will true false = refl
counts_will false true = refl
counts_will false false = refl

-- a cell of a kind that is stored is not hanging
was_not_hanging : (k : Kind) → was_stored k ≡ true → not (is_hanging k) ≡ true
was_not_hanging Kept h = refl
was_not_hanging Born h = refl
was_not_hanging Dying h = refl
was_not_hanging Hanging h = absurd (true≢false (sym h))

pub stored_not_hanging : (k : Kind) → is_stored k ≡ true → not (is_hanging k) ≡ true
stored_not_hanging Kept h = refl
stored_not_hanging Born h = refl
stored_not_hanging Dying h = refl
stored_not_hanging Hanging h = absurd (true≢false (sym h))

was_kind : (a b : Bool) → was_stored (kind_from a b) ≡ a
was_kind true true = refl
was_kind true false = refl
was_kind false true = refl
was_kind false false = refl

stored_kind : (a b : Bool) → is_stored (kind_from a b) ≡ b
stored_kind true true = refl
stored_kind true false = refl
stored_kind false true = refl
stored_kind false false = refl

-- what dies is not new
first_dying : (s : State) → is_new (first_touch s Dying) ≡ false
first_dying Unrefined = refl
first_dying RefinementTriggered = refl
first_dying Refining = refl
first_dying Refined = refl
first_dying EraseTriggered = refl
first_dying Erasing = refl

-- a stored cell is walked by the walk with no events
pub stored_is_walked : (grid : Grid) → IsWellFormed grid → (cell : Place) → is_some (at grid.cells cell) ≡ true → stored_walked grid cell ≡ true
stored_is_walked grid is cell t = or_right (cell.level == 0) _ (go (cell.level == 1) refl (and_parts (is_cell grid.axes cell) _ (sym (is.cells cell) ∙ t)).1)
  where
    go : (b : Bool) → (cell.level == 1) ≡ b → (b || is_refined_cell grid.axes (state_in grid) (parent_of cell)) ≡ true → goes_below grid (parent_of cell) ≡ true
    go true e h = let one : cell.level ≡ 1 = eqb-true cell.level 1 e in ap (λ b. b || is_refined_cell grid.axes (state_in grid) (parent_of cell)) (eq-eqb (cell.level - 1) 0 (omega (arith, one)))
    go false e h = or_right ((parent_of cell).level == 0) _ h

module _ (start_level : ℕ) (grid : Grid) (low : start_level ≤ grid.greatest) (sound : Sound grid) where
  -- a kind of children, for cells below level 0
  below_deep : (cell : Place) → cell.level ≢ 0 → below start_level grid cell ≡ kind_from (list_any (old_foreseen start_level grid) (corners grid.axes cell)) (list_any (new_foreseen start_level grid) (corners grid.axes cell))
  below_deep cell h = ap (λ b. if b then (if next_traversal grid == 1 then Born else Kept) else kind_from (list_any (old_foreseen start_level grid) (corners grid.axes cell)) (list_any (new_foreseen start_level grid) (corners grid.axes cell))) (ne_eqb cell.level 0 h)

  below_root : (cell : Place) → cell.level ≡ 0 → below start_level grid cell ≡ (if next_traversal grid == 1 then Born else Kept)
  below_root cell h = ap (λ b. if b then (if next_traversal grid == 1 then Born else Kept) else kind_from (list_any (old_foreseen start_level grid) (corners grid.axes cell)) (list_any (new_foreseen start_level grid) (corners grid.axes cell))) (eq-eqb cell.level 0 h)

  old_refined : (cell : Place) → list_any (old_foreseen start_level grid) (corners grid.axes cell) ≡ is_refined_cell grid.axes (state_in grid) cell
  old_refined cell = list_any_same (old_foreseen start_level grid) (λ v. passes is_old (state_in grid v)) (corners grid.axes cell) (Each-all _ (λ v. old_stored start_level grid low sound v) (corners grid.axes cell))

  -- the cells that are read are those that the grid has
  cells_read : IsWellFormed grid → (cell : Place) → IsPosition grid.axes (3 ^ cell.level) cell.pos → (not (cell.level == 0) && was_stored (below start_level grid (parent_of cell))) ≡ is_some (at grid.cells cell)
  cells_read is cell at_place =
      by_level (cell.level == 0) refl
      ∙ ap (λ b. b && (cell.level == 1 || is_refined_cell grid.axes (state_in grid) (parent_of cell))) (sym (cell_test grid.axes cell at_place))
      ∙ sym (is.cells cell)
    where
      deeper : cell.level ≢ 0 → (b : Bool) → (cell.level == 1) ≡ b → was_stored (below start_level grid (parent_of cell)) ≡ (b || is_refined_cell grid.axes (state_in grid) (parent_of cell))
      deeper h true e =
          let one : cell.level ≡ 1 = eqb-true cell.level 1 e in
          ap was_stored (below_root (parent_of cell) (omega (arith, one)) ∙ ap (λ b. if b then Born else Kept) (ne_eqb (next_traversal grid) 1 (λ k. omega (arith, k, is.finished))))
      deeper h false e =
          let two : cell.level ≢ 1 = (λ k. true≢false (sym (eq-eqb cell.level 1 k) ∙ e)) in
          ap was_stored (below_deep (parent_of cell) (far cell.level h two))
          ∙ was_kind (list_any (old_foreseen start_level grid) (corners grid.axes (parent_of cell))) (list_any (new_foreseen start_level grid) (corners grid.axes (parent_of cell)))
          ∙ old_refined (parent_of cell)
        where
          far : (n : ℕ) → n ≢ 0 → n ≢ 1 → n - 1 ≢ 0
          far n a b c = grind arith

      by_level : (b : Bool) → (cell.level == 0) ≡ b → (not b && was_stored (below start_level grid (parent_of cell))) ≡ (not (cell.level == 0) && (cell.level == 1 || is_refined_cell grid.axes (state_in grid) (parent_of cell)))
      by_level true e = ap (λ b. not b && (cell.level == 1 || is_refined_cell grid.axes (state_in grid) (parent_of cell))) (sym e)
      by_level false e = deeper (λ k. true≢false (sym (eq-eqb cell.level 0 k) ∙ e)) (cell.level == 1) refl
          ∙ ap (λ b. not b && (cell.level == 1 || is_refined_cell grid.axes (state_in grid) (parent_of cell))) (sym e)

  reads_are : (swapped : Bool) → IsWellFormed grid → (reads_of (outlook start_level grid swapped) grid.greatest root ≡ stream_vertices grid) × (cell_reads_of (outlook start_level grid swapped) grid.greatest root ≡ stream_cells grid)
  reads_are swapped is =
      let o = outlook start_level grid swapped in
      let p = stored_outlook grid swapped in
      let both = streams_are_one o p (walked start_level grid) (stored_walked grid) grid.greatest sound.dim (forecast_grown start_level grid low sound swapped) (stored_grown grid is swapped) (record {
        axes = refl;
        way = refl;
        vertices = λ v. counts_was (was start_level grid v) (will start_level grid v);
        cells = λ c i. cells_read is c (cell_position grid.axes (way_of (next_traversal grid)) c sound.dim.1 i);
        cells_walked = λ c i t. or_right (c.level == 0) _ (was_not_hanging (below start_level grid (parent_of c)) (and_parts (not (c.level == 0)) _ t).1);
        also_cells_walked = λ c i t. stored_is_walked grid is c t;
      }) in (both.0 ∙ stream_reads grid swapped, both.1)

  -- the grid that comes next
  module _ (next : Grid) (is : IsNext start_level grid next) where
    -- what it has refined is what is foreseen as new
    turned_new : (vertex : Place) → passes is_old (state_in next vertex) ≡ new_foreseen start_level grid vertex
    turned_new vertex = go (at next.vertices vertex) (λ s e. is.turned_old vertex s e) (is.vertices vertex)
      where
        go : (o : Option StoredVertex) → ((s : State) → option_map (λ it. it.state) o ≡ Some s → is_old s ≡ new_foreseen start_level grid vertex) → is_some o ≡ will start_level grid vertex → passes is_old (option_map (λ it. it.state) o) ≡ new_foreseen start_level grid vertex
        go (Some it) old stored = old it.state refl
        go None old stored = sym (not_new (was start_level grid vertex) (will start_level grid vertex) (sym stored))
          where
            not_new : (a b : Bool) → b ≡ false → is_new (touched_state start_level grid (kind_from a b) vertex) ≡ false
            not_new true true h = absurd (true≢false h)
            not_new true false h = first_dying (unwrap_or (state_in grid vertex) Unrefined)
            not_new false true h = absurd (true≢false h)
            not_new false false h = refl

    refined_next : (cell : Place) → is_refined_cell grid.axes (state_in next) cell ≡ list_any (new_foreseen start_level grid) (corners grid.axes cell)
    refined_next cell = list_any_same (λ v. passes is_old (state_in next v)) (new_foreseen start_level grid) (corners grid.axes cell) (Each-all _ (λ v. turned_new v) (corners grid.axes cell))

    -- a vertex is stored where it has a refined carrier
    stored_next : (vertex : Place) → will start_level grid vertex ≡ is_stored_vertex grid.axes (state_in next) vertex
    stored_next vertex = go vertex.level refl
      where
        no_level : vertex.level ≡ 0 → (b : Bool) → is_inside grid.axes vertex ≡ b → b ≡ false
        no_level e false h = refl
        no_level e true h = elim (two_or_deeper grid.axes vertex sound.dim h) [ inl k ↦ absurd (omega (arith, k)) | inr k ↦ absurd (omega arith) ]

        go : (n : ℕ) → vertex.level ≡ n → will_on start_level grid n vertex ≡ (is_inside grid.axes vertex && (vertex.level == 1 || list_any (λ m. passes is_old (state_in next m)) (carriers vertex)))
        go zero e = ap (λ b. b && (vertex.level == 1 || list_any (λ m. passes is_old (state_in next m)) (carriers vertex))) (sym (no_level e (is_inside grid.axes vertex) refl))
        go (suc zero) e = plain (is_inside grid.axes vertex) ∙ ap (λ b. is_inside grid.axes vertex && (b || list_any (λ m. passes is_old (state_in next m)) (carriers vertex))) (sym (eq-eqb vertex.level 1 e))
          where
            plain : (b : Bool) → b ≡ (b && true)
            plain true = refl
            plain false = refl
        go (suc (suc n)) e =
            ap (λ b. is_inside grid.axes vertex && b) (list_any_same (λ m. is_new (touched_state start_level grid (kind_from (was start_level grid m) (will_on start_level grid (suc n) m)) m)) (λ m. passes is_old (state_in next m)) (carriers vertex)
            (Each-weaker _ _ (λ m level. ap (λ k. is_new (touched_state start_level grid (kind_from (was start_level grid m) (will_on start_level grid k m)) m)) (let same : suc n ≡ m.level = omega (arith, level, e) in same) ∙ sym (turned_new m)) (carriers vertex) (carrier_levels start_level grid low sound vertex)))
            ∙ ap (λ b. is_inside grid.axes vertex && (b || list_any (λ m. passes is_old (state_in next m)) (carriers vertex))) (sym (ne_eqb vertex.level 1 (λ k. omega (arith, k, e))))

    -- a cell is stored where its parent has a refined corner
    stored_cell_next : (cell : Place) → (is_cell grid.axes cell && is_stored (below start_level grid (parent_of cell))) ≡ is_stored_cell grid.axes (state_in next) cell
    stored_cell_next cell = by_level (cell.level == 0) refl (cell.level == 1) refl
      where
        by_kind : (b : Bool) → is_stored (if b then Born else Kept) ≡ true
        by_kind true = refl
        by_kind false = refl

        no_cell : cell.level ≡ 0 → is_cell grid.axes cell ≡ false
        no_cell e = ap (λ n. ((nat_lt 0 n && length cell.pos == 4) && list_all (λ x. nat_lt x (3 ^ cell.level)) (take grid.axes cell.pos)) && list_all (λ x. x == 0) (drop grid.axes cell.pos)) e

        far : (n : ℕ) → n ≢ 0 → n ≢ 1 → n - 1 ≢ 0
        far n a b c = grind arith

        by_level : (a : Bool) → (cell.level == 0) ≡ a → (b : Bool) → (cell.level == 1) ≡ b
            → (is_cell grid.axes cell && is_stored (below start_level grid (parent_of cell))) ≡ (is_cell grid.axes cell && (cell.level == 1 || is_refined_cell grid.axes (state_in next) (parent_of cell)))
        by_level true e b f =
            let none = no_cell (eqb-true cell.level 0 e) in
            ap (λ x. x && is_stored (below start_level grid (parent_of cell))) none ∙ ap (λ x. x && (cell.level == 1 || is_refined_cell grid.axes (state_in next) (parent_of cell))) (sym none)
        by_level false e true f =
            let one : cell.level ≡ 1 = eqb-true cell.level 1 f in
            ap (λ x. is_cell grid.axes cell && x) (ap is_stored (below_root (parent_of cell) (omega (arith, one))) ∙ by_kind (next_traversal grid == 1)
            ∙ ap (λ b. b || is_refined_cell grid.axes (state_in next) (parent_of cell)) (sym f))
        by_level false e false f =
            ap (λ x. is_cell grid.axes cell && x)
            (ap is_stored (below_deep (parent_of cell) (far cell.level (λ k. true≢false (sym (eq-eqb cell.level 0 k) ∙ e)) (λ k. true≢false (sym (eq-eqb cell.level 1 k) ∙ f))))
            ∙ stored_kind (list_any (old_foreseen start_level grid) (corners grid.axes (parent_of cell))) (list_any (new_foreseen start_level grid) (corners grid.axes (parent_of cell)))
            ∙ sym (refined_next (parent_of cell)) ∙ ap (λ b. b || is_refined_cell grid.axes (state_in next) (parent_of cell)) (sym f))

    next_formed : IsWellFormed next
    next_formed = record {
      axes = subst IsDim (sym is.axes) sound.dim;
      some_level = omega (arith, is.greatest, sound.some);
      few_levels = omega (arith, is.greatest, sound.few);
      finished = omega (arith, is.finished);
      vertices = λ v. is.vertices v ∙ stored_next v ∙ ap (λ a. is_stored_vertex a (state_in next) v) (sym is.axes);
      cells = λ c. is.cells c ∙ stored_cell_next c ∙ ap (λ a. is_stored_cell a (state_in next) c) (sym is.axes);
      settled = is.settled;
      finest = is.finest;
    }

    writes_are : (swapped : Bool) → (writes_of (outlook start_level grid swapped) grid.greatest root ≡ stream_vertices next) × (cell_writes_of (outlook start_level grid swapped) grid.greatest root ≡ stream_cells next)
    writes_are swapped =
        let o = outlook start_level grid swapped in
        let p = stored_outlook next swapped in
        let also_grown = subst (Grown p (stored_walked next)) is.greatest (stored_grown next next_formed swapped) in
        let both = streams_are_one (turned o) p (walked start_level grid) (stored_walked next) grid.greatest sound.dim (fits_turned o (walked start_level grid) grid.greatest sound.dim (forecast_grown start_level grid low sound swapped)) also_grown (record {
          axes = sym is.axes;
          way = next_way_of (next_traversal grid) ∙ ap (λ n. way_of (n + 1)) (sym is.finished);
          vertices = λ v. counts_will (was start_level grid v) (will start_level grid v) ∙ ap (λ b. b && b) (sym (is.vertices v));
          cells = λ c i. ap (λ b. b && is_stored (below start_level grid (parent_of c))) (sym (cell_test grid.axes c (cell_position grid.axes (opposite (way_of (next_traversal grid))) c sound.dim.1 i))) ∙ sym (is.cells c);
          cells_walked = λ c i t. or_right (c.level == 0) _ (stored_not_hanging (below start_level grid (parent_of c)) (and_parts (not (c.level == 0)) _ t).1);
          also_cells_walked = λ c i t. stored_is_walked next next_formed c t;
        }) in (
          writes-turned o grid.greatest root sound.dim.1 ∙ both.0 ∙ ap (λ n. reads_of p n root) (sym is.greatest) ∙ stream_reads next swapped,
          cell_writes-turned o grid.greatest root ∙ both.1 ∙ ap (λ n. cell_reads_of p n root) (sym is.greatest),
        )

sound_of : (grid : Grid) → IsNew grid ⊎ IsWellFormed grid → Sound grid
sound_of grid is = elim is [ inl new ↦ fresh grid new | inr old ↦ formed grid old ]

-- a new grid has nothing, and nothing of it is read
module _ (start_level : ℕ) (grid : Grid) (low : start_level ≤ grid.greatest) (new : IsNew grid) where
  unstored : (vertex : Place) → is_some (at grid.vertices vertex) ≡ false
  unstored vertex = ap is_some (new.no_vertices vertex)

  never_old : (vertex : Place) → old_foreseen start_level grid vertex ≡ false
  never_old vertex = old_stored start_level grid low (fresh grid new) vertex ∙ ap (λ o. passes is_old (option_map (λ it. it.state) o)) (new.no_vertices vertex)

  none_old : (vs : List Place) → list_any (old_foreseen start_level grid) vs ≡ false
  none_old [] = refl
  none_old (v ∷ vs) = ap₂ (λ a b. a || b) (never_old v) (none_old vs)

  never_was : (cell : Place) → was_stored (below start_level grid cell) ≡ false
  never_was cell = go (cell.level == 0) refl
    where
      go : (b : Bool) → (cell.level == 0) ≡ b → was_stored (below start_level grid cell) ≡ false
      go true e = ap was_stored (below_root start_level grid low (fresh grid new) cell (eqb-true cell.level 0 e) ∙ ap (λ b. if b then Born else Kept) (eq-eqb (next_traversal grid) 1 (omega (arith, new.unfinished))))
      go false e = ap was_stored (below_deep start_level grid low (fresh grid new) cell (λ k. true≢false (sym (eq-eqb cell.level 0 k) ∙ e)))
          ∙ was_kind (list_any (old_foreseen start_level grid) (corners grid.axes cell)) (list_any (new_foreseen start_level grid) (corners grid.axes cell)) ∙ none_old (corners grid.axes cell)

  new_reads : (swapped : Bool) → (reads_of (outlook start_level grid swapped) grid.greatest root ≡ stream_vertices grid) × (cell_reads_of (outlook start_level grid swapped) grid.greatest root ≡ stream_cells grid)
  new_reads swapped =
      let o = outlook start_level grid swapped in
      let ts = loads_of o grid.greatest root in
      let cs = walked_cells grid.axes (next_way grid) (walks start_level grid) grid.greatest root in
      let us = walked_loads grid.axes (next_way grid) (goes_below grid) grid.greatest root in
      let ds = walked_cells grid.axes (next_way grid) (goes_below grid) grid.greatest root in (
        ap (map (λ t. t.vertex)) (filter_none (is_read o) ts (Each-all _ (λ t. and_right (o.counts t.vertex) _ (ap (λ b. b && is_none (stack_in grid.axes (next_way grid) t.vertex t.cell)) (unstored t.vertex))) ts)
            ∙ sym (filter_none _ us (Each-all _ (λ t. ap (λ b. b && is_first grid.axes (next_way grid) t) (unstored t.vertex)) us))),
        filter_none o.reads_cell cs (Each-all _ (λ c. and_right (not (c.level == 0)) _ (never_was (parent_of c))) cs)
            ∙ sym (filter_none (λ c. is_some (at grid.cells c)) ds (Each-all _ (λ c. ap is_some (new.no_cells c)) ds)),
      )

pub reads_are_streams : ReadsAreStreams
reads_are_streams start_level grid swapped low is = elim is [
  | inl new ↦ new_reads start_level grid low new swapped
  | inr old ↦ reads_are start_level grid low (formed grid old) swapped old
]

pub next_is_formed : NextIsFormed
next_is_formed start_level grid next low is so = next_formed start_level grid low (sound_of grid is) next so

pub writes_are_streams : WritesAreStreams
writes_are_streams start_level grid next swapped low is so = writes_are start_level grid low (sound_of grid is) next so swapped

pub traversal_of_a_grid : TraversalOfAGrid
traversal_of_a_grid start_level grid next swapped t low is so holds unmet =
    let o = outlook start_level grid swapped in
    let reads = reads_are_streams start_level grid swapped low is in
    let writes = writes_are_streams start_level grid next swapped low is so in
    let run = whole_traversal o (walked start_level grid) grid.greatest t (sound_of grid is).dim (forecast_fits start_level grid swapped low is) (record {
      stacks = holds.stacks;
      cell_stacks = holds.cell_stacks;
      reads_vertices = λ s. holds.vertices s ∙ ap (λ xs. if s == input_stack swapped then xs else []) (sym reads.0);
      reads_cells = λ s. holds.cells s ∙ ap (λ xs. if s == cell_input_stack swapped then xs else []) (sym reads.1);
      nothing_met = unmet;
    }) in (
      run.0,
      run.1,
      record {
        stacks = run.2.stacks;
        cell_stacks = run.2.cell_stacks;
        vertices = λ s. run.2.writes_vertices s ∙ ap (λ xs. if s == output_stack swapped then xs else []) writes.0;
        cells = λ s. run.2.writes_cells s ∙ ap (λ xs. if s == cell_output_stack swapped then xs else []) writes.1;
      },
    )
