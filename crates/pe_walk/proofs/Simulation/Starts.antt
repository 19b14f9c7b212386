-- A traversal of a grid as it begins: its foreseen_start, its places on stacks, and its working state.
use Rattle.std.proofs.Common.{◌≡◌, ◌⊎◌, ℕ, zero, suc, ◌+◌, ◌-◌, ◌*◌, ◌^◌, ◌<◌, ◌≤◌, Bool, true, false, not, ◌&&◌, ◌||◌, ◌==◌, List, [], ◌∷◌, map, length, slice_index, get_or, take, drop, Option, Some, None, refl, sym, ap, subst, ◌∙◌, arith, is_some, true≢false, if◌then◌else◌, inl, inr}
use Rattle.std.specs.Prelude.{nat_lt, nat_le}
use Rattle.std.proofs.lemmas.Bool.{lt-ltb, ltb-true, ltb-false, eq-eqb, eqb-true, ne_eqb, and_parts, or_right}
use Rattle.std.proofs.lemmas.List.FromFn.{length-range_with_len}
use Rattle.std.proofs.Math.Bool.{and-false}
use Rattle.std.specs.Option.{option_map, unwrap_or}
use Rattle.std.specs.List.{list_all}
use Rattle.pe_base.specs.declared.place.Place.{Place}
use Rattle.pe_base.specs.declared.state.State.TheVariants.{Unrefined}
use Rattle.pe_base.specs.Tree.Dim.{IsDim}
use Rattle.pe_base.specs.Tree.Places.{root, corner, parent_of, is_same}
use Rattle.pe_base.specs.Acts.Effects.{VertexRecord}
use Rattle.pe_base.specs.Walk.Maps.{at}
use Rattle.pe_base.specs.Walk.Core.{Setting}
use Rattle.pe_base.specs.declared.way.Way.{Way}
use Rattle.pe_base.specs.Walk.Grids.{Grid, StoredVertex, state_in, is_cell, is_refined_cell, is_stored_vertex, is_stored_cell, IsWellFormed}
use Rattle.pe_base.specs.Walk.Streams.{walked_cells, next_way, goes_below, stream_vertices, stream_cells, vertex_stream, cell_stream}
use Rattle.pe_base.specs.declared.kind.Kind.{Kind}
use Rattle.pe_base.specs.Walk.Working.{Working, no_vertex, cell_at, begun as begun_of}
use Rattle.pe_base.specs.Walk.Walk as model
use Rattle.pe_stacks.specs.Holdings.{new_stack, items_at, len_at}
use Rattle.pe_stacks.specs.Grid.{input_stack, cell_input_stack}
use Rattle.pe_hang.specs.InHand.{map_holdings}
use Rattle.pe_adapt.specs.CountedTouches.{Machine}
use Rattle.pe_order.specs.Tokens.{Outlook, Tokens, begun, numbers}
use Rattle.pe_order.specs.Takings.{Grown, MayTraverse}
use Rattle.pe_order.specs.CellsAhead.{times, cells_below}
use Rattle.pe_order.specs.Laws.{IsCell}
use Rattle.pe_order.specs.Outlooks.{outlook, stored_outlook, stored_walked, IsNew}
use Rattle.pe_walk.specs.Standing.{ForeseenStart, Stage, IsForeseenStart, Foresees, Stands, Fair, Owes, Holds}
use Rattle.pe_stacks.specs.StreamsHeld.{stored_of}
use Rattle.pe_walk.specs.Gridded.{IsTraversalOf, MachineMayTraverse}
use Rattle.pe_base.specs.Tree.Ways.{way_of}
use Rattle.pe_base.specs.Walk.Foreseen.{next_traversal, walked}
use Rattle.pe_base.proofs.Steps.VertexTouches.{is_same_itself}
use Rattle.pe_base.proofs.Lists.{map_same, Each-all, Each-weaker, Each-filter}
use Rattle.pe_base.proofs.Walk.MapLaws.{at-put, found-turned_by}
use Rattle.pe_base.proofs.Tree.Ranks.{same_places}
use Rattle.pe_base.proofs.Tree.PlaceLaws.{few_corners}
use Rattle.pe_order.specs.Apart.{IsApart, lies}
use Rattle.pe_order.specs.Traffic.{OnlyCounting}
use Rattle.pe_order.proofs.Forecasts.{Sound, fresh, formed, forecast_grown, stored_grown}
use Rattle.pe_order.proofs.StreamOrders.{reads_are_streams, stored_is_walked}
use Rattle.pe_order.proofs.Outlooks.{all_front, all_behind}
use Rattle.pe_order.proofs.Trees.{place_is_cell, root_is_cell}
use Rattle.pe_order.proofs.Tokens.WalkedHere.{walked_here}
use Rattle.pe_order.proofs.Tokens.Apart.{begins_apart}
use Rattle.pe_order.proofs.Tokens.CellsAhead.{count-filter, cells_on_input, begins_ahead}
use Rattle.pe_order.proofs.Tokens.CellsApart.{walked_cells_differ}
use Rattle.pe_order.proofs.Tokens.DepotCounts.{Lent, lent_counts}
use Rattle.pe_order.proofs.Tokens.Short.{begins_counting}
use Rattle.pe_order.proofs.Tokens.Traversals.{lent_items}
use Rattle.pe_walk.proofs.Simulation.Shared.{on_one, lies_counts}
use Rattle.pe_walk.proofs.Simulation.Levels.{levels_differ}
use Rattle.pe_walk.proofs.Simulation.Leaves.{record_of}
use Rattle.pe_walk.proofs.Simulation.Visits.Entering.{times-here, times-there}
use Rattle.pe_walk.proofs.Simulation.ForeseenStarts.{as_begun, foresight_of, foresees}
use Rattle.pe_walk.proofs.Simulation.RootCorners.{HasCorners, has_corners}
use Rattle.pe_walk.proofs.Simulation.Cells.Corners.{down_from}
use Rattle.pe_walk.proofs.Simulation.Begins.{places_with, count-with, WithItems, with_items, image-with, kind_among, with_kind, records_again}
use Rattle.pe_order.proofs.Tokens.Bounds.{few_cell_input_stacks, few_input_stacks}

-- the places of a grid's streams on the stacks of a machine; nothing is held, and nothing was met
abbrev pub tokens_of : Grid → Bool → Machine → Tokens
tokens_of grid swapped m = record {
  vertices = places_with m.vertices (λ s. if s == input_stack swapped then stream_vertices grid else []);
  cells = places_with m.cells (λ s. if s == cell_input_stack swapped then stream_cells grid else []);
  held = λ place. 0;
  met = λ place. 0;
}

-- the foreseen_start of a traversal of a grid: no count was greater than this when it began, with the root's corners
abbrev pub foreseen_start_of : {Plan : Type 0} → Setting Plan → Grid → Bool → Machine → ForeseenStart
foreseen_start_of set grid swapped m = record {
  outlook = outlook set.start_level grid swapped;
  foresight = foresight_of set.start_level grid;
  stale = kind_among (stream_vertices grid) (items_at m.vertices (input_stack swapped));
  total = length (cells_below (outlook set.start_level grid swapped) (grid.greatest - 1) root);
  base = 2 ^ 60 + 16;
  lens = λ s. len_at (tokens_of grid swapped m).vertices s;
  cell_lens = λ s. len_at (tokens_of grid swapped m).cells s;
}

-- a cell's place, by its test
pub cell_of : (axes : ℕ) (way : Way) (cell : Place) → axes ≤ 4 → is_cell axes cell ≡ true → IsCell axes way cell × (1 ≤ cell.level)
cell_of axes way cell few is =
    let back = and_parts (nat_lt 0 cell.level && length cell.pos == 4 && list_all (λ x. nat_lt x (3 ^ cell.level)) (take axes cell.pos)) (list_all (λ x. x == 0) (drop axes cell.pos)) is in
    let front = and_parts (nat_lt 0 cell.level && length cell.pos == 4) (list_all (λ x. nat_lt x (3 ^ cell.level)) (take axes cell.pos)) back.0 in
    let both = and_parts (nat_lt 0 cell.level) (length cell.pos == 4) front.0 in
    let four = eqb-true (length cell.pos) 4 both.1 in (
      place_is_cell axes way cell few (record {
        four = four;
        inside = λ axis low. ltb-true (slice_index cell.pos axis) (3 ^ cell.level) (all_front (λ x. nat_lt x (3 ^ cell.level)) axes cell.pos axis front.1 low (omega (arith, low, few, four)));
        rest = λ axis high. all_behind axes cell.pos axis back.1 high;
      }),
      ltb-true 0 cell.level both.0,
    )

-- a cell that a grid has is among those that are walked over what it has stored
stored_walks : (grid : Grid) (swapped : Bool) → IsWellFormed grid → (x : Place) → is_some (at grid.cells x) ≡ true → 1 ≤ times (walked_cells grid.axes (next_way grid) (goes_below grid) grid.greatest root) x
stored_walks grid swapped old x some =
    let grown = stored_grown grid old swapped in
    let is = and_parts (is_cell grid.axes x) (x.level == 1 || is_refined_cell grid.axes (state_in grid) (parent_of x)) (sym (old.cells x) ∙ some) in
    let place = cell_of grid.axes (next_way grid) x old.axes.1 is.0 in
    let walked_so = stored_is_walked grid old x some in
    let up = grown.walks_within (parent_of x) (ap (λ b. b || goes_below grid (parent_of x)) (sym (ne_eqb x.level 0 (λ e. absurd (let deep = place.1 in omega (arith, e, deep))))) ∙ walked_so) in
    walked_here (stored_outlook grid swapped) (stored_walked grid) grid.greatest old.axes grown x place.0 walked_so (let deep = place.1 in omega (arith, up, deep))

module _ {Plan : Type 0} (set : Setting Plan) (grid : Grid) (swapped : Bool) (m : Machine) (may : MachineMayTraverse set grid swapped m) where
  abbrev o : Outlook
  o = outlook set.start_level grid swapped

  pub sound_of : Sound grid
  sound_of = elim may.formed [ inl new ↦ fresh grid new | inr old ↦ formed grid old ]

  pub stored_by : (vertex : Place) → is_some (at grid.vertices vertex) ≡ (nat_lt 0 grid.finished && is_stored_vertex grid.axes (state_in grid) vertex)
  stored_by vertex = elim may.formed [
    | inl new ↦ ap is_some (new.no_vertices vertex) ∙ ap (λ n. nat_lt 0 n && is_stored_vertex grid.axes (state_in grid) vertex) (sym new.unfinished)
    | inr old ↦ old.vertices vertex ∙ ap (λ b. b && is_stored_vertex grid.axes (state_in grid) vertex) (sym (lt-ltb 0 grid.finished old.finished))
  ]

  cells_by : (cell : Place) → is_some (at grid.cells cell) ≡ (nat_lt 0 grid.finished && is_stored_cell grid.axes (state_in grid) cell)
  cells_by cell = elim may.formed [
    | inl new ↦ ap is_some (new.no_cells cell) ∙ ap (λ n. nat_lt 0 n && is_stored_cell grid.axes (state_in grid) cell) (sym new.unfinished)
    | inr old ↦ old.cells cell ∙ ap (λ b. b && is_stored_cell grid.axes (state_in grid) cell) (sym (lt-ltb 0 grid.finished old.finished))
  ]

  -- the root is not stored
  root_unstored : is_some (at grid.cells root) ≡ false
  root_unstored = cells_by root ∙ and-false (nat_lt 0 grid.finished)

  pub dim_of : IsDim (outlook set.start_level grid swapped).axes
  dim_of = sound_of.dim

  pub grown_of : Grown (outlook set.start_level grid swapped) (walked set.start_level grid) grid.greatest
  grown_of = forecast_grown set.start_level grid may.fits.start_level sound_of swapped

  -- what the stacks hold
  pub vertices_at : (s : ℕ) → items_at (tokens_of grid swapped m).vertices s ≡ (if s == input_stack swapped then stream_vertices grid else [])
  vertices_at s = by (nat_lt s 10) refl
    where
      with : WithItems m.vertices (λ s. if s == input_stack swapped then stream_vertices grid else []) s
      with = with_items m.vertices (λ s. if s == input_stack swapped then stream_vertices grid else []) s

      by : (b : Bool) → nat_lt s 10 ≡ b → items_at (tokens_of grid swapped m).vertices s ≡ (if s == input_stack swapped then stream_vertices grid else [])
      by true low = with.within (omega (arith, ltb-true s 10 low, may.holds.stacks))
      by false high = let low = few_input_stacks swapped in let past = ltb-false s 10 high in
          with.past (omega (arith, past, may.holds.stacks)) ∙ ap (λ b. if b then stream_vertices grid else []) (sym (ne_eqb s (input_stack swapped) (λ e. absurd (omega (arith, e, low, past)))))

  pub cells_at : (s : ℕ) → items_at (tokens_of grid swapped m).cells s ≡ (if s == cell_input_stack swapped then stream_cells grid else [])
  cells_at s = by (nat_lt s 2) refl
    where
      with : WithItems m.cells (λ s. if s == cell_input_stack swapped then stream_cells grid else []) s
      with = with_items m.cells (λ s. if s == cell_input_stack swapped then stream_cells grid else []) s

      by : (b : Bool) → nat_lt s 2 ≡ b → items_at (tokens_of grid swapped m).cells s ≡ (if s == cell_input_stack swapped then stream_cells grid else [])
      by true low = with.within (omega (arith, ltb-true s 2 low, may.holds.cell_stacks))
      by false high = let low = few_cell_input_stacks swapped in let past = ltb-false s 2 high in
          with.past (omega (arith, past, may.holds.cell_stacks)) ∙ ap (λ b. if b then stream_cells grid else []) (sym (ne_eqb s (cell_input_stack swapped) (λ e. absurd (omega (arith, e, low, past)))))

  pub may_traverse : MayTraverse (outlook set.start_level grid swapped) grid.greatest (tokens_of grid swapped m)
  may_traverse =
      let reads = reads_are_streams set.start_level grid swapped may.fits.start_level may.formed in
      record {
        stacks = count-with m.vertices.stacks (λ s. if s == input_stack swapped then stream_vertices grid else []) ∙ may.holds.stacks;
        cell_stacks = count-with m.cells.stacks (λ s. if s == cell_input_stack swapped then stream_cells grid else []) ∙ may.holds.cell_stacks;
        reads_vertices = λ s. vertices_at s ∙ ap (λ xs. if s == input_stack swapped then xs else []) (sym reads.0);
        reads_cells = λ s. cells_at s ∙ ap (λ xs. if s == cell_input_stack swapped then xs else []) (sym reads.1);
        nothing_met = λ place. refl;
      }

  apart_of : IsApart (outlook set.start_level grid swapped) (begun (outlook set.start_level grid swapped) (tokens_of grid swapped m))
  apart_of = begins_apart o (walked set.start_level grid) grid.greatest (tokens_of grid swapped m) dim_of grown_of may_traverse (λ place. refl)

  counting_of : OnlyCounting (outlook set.start_level grid swapped) (begun (outlook set.start_level grid swapped) (tokens_of grid swapped m))
  counting_of = begins_counting o grid.greatest (tokens_of grid swapped m) may_traverse

  -- no vertex is in a stream twice
  once : (vertex : Place) → times (stream_vertices grid) vertex ≤ 1
  once vertex = by (o.counts vertex) refl
    where
      t : Tokens
      t = begun o (tokens_of grid swapped m)

      here : times (items_at (begun o (tokens_of grid swapped m)).vertices (input_stack swapped)) vertex ≡ times (stream_vertices grid) vertex
      here = ap (λ xs. times xs vertex) (lent_items (numbers o) (tokens_of grid swapped m).vertices (input_stack swapped) ∙ vertices_at (input_stack swapped) ∙ ap (λ b. if b then stream_vertices grid else []) (eq-eqb (input_stack swapped) (input_stack swapped) refl))

      lying : times (stream_vertices grid) vertex ≤ lies (begun o (tokens_of grid swapped m)).vertices vertex
      lying = let one = on_one (begun o (tokens_of grid swapped m)).vertices (input_stack swapped) vertex in omega (arith, one, here)

      by : (b : Bool) → o.counts vertex ≡ b → times (stream_vertices grid) vertex ≤ 1
      by true on = omega (arith, lying, apart_of.once vertex on)
      by false off = none (times (stream_vertices grid) vertex) refl
        where
          none : (n : ℕ) → times (stream_vertices grid) vertex ≡ n → times (stream_vertices grid) vertex ≤ 1
          none zero e = omega (arith, e)
          none (suc n) e = absurd (true≢false (sym (lies_counts o (begun o (tokens_of grid swapped m)) counting_of vertex (omega (arith, lying, e))) ∙ off))

  -- # The image
  pub image_vertices : map_holdings (record_of set (foreseen_start_of set grid swapped m) (begun_of set.traversal grid) (tokens_of grid swapped m)) (tokens_of grid swapped m).vertices ≡ m.vertices
  image_vertices =
      image-with (record_of set (foreseen_start_of set grid swapped m) (begun_of set.traversal grid) (tokens_of grid swapped m)) m.vertices (λ s. if s == input_stack swapped then stream_vertices grid else []) (λ s low. by (s == input_stack swapped) s refl)
    where
      empty : {X Y : Type 0} (f : X → Y) (xs : List X) → map f xs ≡ [] → xs ≡ []
      empty f [] e = refl
      empty f (x ∷ xs) e = absurd cc

      seen : (vertex : Place) (kind : Kind) (found : Option StoredVertex)
          → (let it : VertexRecord = unwrap_or (option_map as_begun found) no_vertex in record it { kind = kind }) ≡ with_kind kind (unwrap_or found (record { state = Unrefined; numbers = [] }))
      seen vertex kind None = refl
      seen vertex kind (Some stored) = refl

      by : (b : Bool) → (s : ℕ) → (s == input_stack swapped) ≡ b
          → map (record_of set (foreseen_start_of set grid swapped m) (begun_of set.traversal grid) (tokens_of grid swapped m)) (if b then stream_vertices grid else []) ≡ items_at m.vertices s
      by true s here =
          let same : s ≡ input_stack swapped = eqb-true s (input_stack swapped) here in
          map_same (record_of set (foreseen_start_of set grid swapped m) (begun_of set.traversal grid) (tokens_of grid swapped m))
          (λ q. with_kind (kind_among (stream_vertices grid) (items_at m.vertices (input_stack swapped)) q) (unwrap_or (at grid.vertices q) (record { state = Unrefined; numbers = [] }))) (stream_vertices grid)
          (Each-all _ (λ q. ap (λ found. let it : VertexRecord = unwrap_or found no_vertex in record it { kind = kind_among (stream_vertices grid) (items_at m.vertices (input_stack swapped)) q }) (found-turned_by as_begun grid.vertices q.level q.pos)
          ∙ seen q (kind_among (stream_vertices grid) (items_at m.vertices (input_stack swapped)) q) (at grid.vertices q)) (stream_vertices grid))
          ∙ records_again (λ q. unwrap_or (at grid.vertices q) (record { state = Unrefined; numbers = [] })) (stream_vertices grid) (items_at m.vertices (input_stack swapped)) once
          (may.holds.vertices (input_stack swapped) ∙ ap (λ b. if b then vertex_stream grid else []) (eq-eqb (input_stack swapped) (input_stack swapped) refl))
          ∙ ap (items_at m.vertices) (sym same)
      by false s other = sym (empty stored_of (items_at m.vertices s) (may.holds.vertices s ∙ ap (λ b. if b then vertex_stream grid else []) other))

  pub image_cells : map_holdings (cell_at (begun_of set.traversal grid)) (tokens_of grid swapped m).cells ≡ m.cells
  image_cells = image-with (cell_at (begun_of set.traversal grid)) m.cells (λ s. if s == cell_input_stack swapped then stream_cells grid else []) (λ s low. by (s == cell_input_stack swapped) s refl)
    where
      stored_cell : (c : Place) → is_some (at grid.cells c) ≡ true → cell_at (begun_of set.traversal grid) c ≡ unwrap_or (at grid.cells c) []
      stored_cell c some = ap (λ found. unwrap_or found []) (at-put grid.cells root c grid.root ∙ ap (λ b. if b then Some grid.root else at grid.cells c) (other (is_same root c) refl))
        where
          other : (b : Bool) → is_same root c ≡ b → b ≡ false
          other false e = refl
          other true e = absurd (true≢false (sym some ∙ ap (λ c. is_some (at grid.cells c)) (sym (same_places root c e)) ∙ root_unstored))

      by : (b : Bool) (s : ℕ) → (s == cell_input_stack swapped) ≡ b → map (cell_at (begun_of set.traversal grid)) (if b then stream_cells grid else []) ≡ items_at m.cells s
      by true s here =
          map_same (cell_at (begun_of set.traversal grid)) (λ c. unwrap_or (at grid.cells c) []) (stream_cells grid)
          (Each-weaker (λ c. Unit {0} × (is_some (at grid.cells c) ≡ true)) (λ c. cell_at (begun_of set.traversal grid) c ≡ unwrap_or (at grid.cells c) []) (λ c some. stored_cell c some.1) (stream_cells grid)
          (Each-filter (λ c. Unit {0}) (λ c. is_some (at grid.cells c)) (walked_cells grid.axes (next_way grid) (goes_below grid) grid.greatest root)
          (Each-all (λ c. Unit {0}) (λ c. tt) (walked_cells grid.axes (next_way grid) (goes_below grid) grid.greatest root))))
          ∙ sym (may.holds.cells s ∙ ap (λ b. if b then cell_stream grid else []) here)
      by false s other = sym (may.holds.cells s ∙ ap (λ b. if b then cell_stream grid else []) other)

  -- # With the root's corners
  -- the working state with them
  abbrev pub cornered : Working
  cornered = model.root_corners set (down_from (2 ^ set.axes)) (begun_of set.traversal grid)

  has : HasCorners set (2 ^ set.axes) (begun_of set.traversal grid) (model.root_corners set (down_from (2 ^ set.axes)) (begun_of set.traversal grid))
  has = has_corners set (2 ^ set.axes) (begun_of set.traversal grid)

  fits : IsTraversalOf set grid
  fits = may.fits

  pub is_foreseen_start : IsForeseenStart set (foreseen_start_of set grid swapped m) (walked set.start_level grid)
  is_foreseen_start = record {
    foresees = foresees set grid swapped may.fits sound_of stored_by;
    grown = subst (λ n. Grown (outlook set.start_level grid swapped) (walked set.start_level grid) n) (sym may.fits.greatest) grown_of;
    bound = let few = may.fits.max_cells in bounded set.max_cells few;
  }
    where
      bounded : (n : ℕ) → n ≤ 4194304 → 2 ^ 60 + 16 + 34 * n < 2 ^ 63
      bounded n few = omega (arith, few)

  sees : Foresees set (outlook set.start_level grid swapped) (foresight_of set.start_level grid)
  sees = is_foreseen_start.foresees

  -- no corner of the root counts
  root_off : (k : ℕ) → o.counts (corner set.axes root k) ≡ false
  root_off k = by (o.counts (corner set.axes root k)) refl
    where
      by : (b : Bool) → o.counts (corner set.axes root k) ≡ b → b ≡ false
      by false e = refl
      by true e = let deep = (sees.inside (corner set.axes root k) e).0 in absurd (omega (arith, deep))

  lies_read : (x : Place) → lies (tokens_of grid swapped m).cells x ≡ times (stream_cells grid) x
  lies_read x =
      cells_on_input o grid.greatest (tokens_of grid swapped m) may_traverse x
      ∙ ap (λ xs. times xs x) (reads_are_streams set.start_level grid swapped may.fits.start_level may.formed).1

  -- a cell lies on the input just where the grid has it
  there_read : (x : Place) → is_some (at grid.cells x) ≡ nat_lt 0 (times (stream_cells grid) x)
  there_read x = by (is_some (at grid.cells x)) refl
    where
      counted : times (stream_cells grid) x ≡ (if is_some (at grid.cells x) then times (walked_cells grid.axes (next_way grid) (goes_below grid) grid.greatest root) x else 0)
      counted = count-filter (λ c. is_some (at grid.cells c)) (walked_cells grid.axes (next_way grid) (goes_below grid) grid.greatest root) x

      by : (b : Bool) → is_some (at grid.cells x) ≡ b → b ≡ nat_lt 0 (times (stream_cells grid) x)
      by false none = sym (ap (nat_lt 0) (counted ∙ ap (λ b. if b then times (walked_cells grid.axes (next_way grid) (goes_below grid) grid.greatest root) x else 0) none))
      by true some = sym (lt-ltb 0 (times (stream_cells grid) x) (omega (
        arith,
        counted ∙ ap (λ b. if b then times (walked_cells grid.axes (next_way grid) (goes_below grid) grid.greatest root) x else 0) some,
        walked_there may.formed,
      )))
        where
          walked_there : IsNew grid ⊎ IsWellFormed grid → 1 ≤ times (walked_cells grid.axes (next_way grid) (goes_below grid) grid.greatest root) x
          walked_there (inl new) = absurd (true≢false (sym some ∙ ap is_some (new.no_cells x)))
          walked_there (inr old) = stored_walks grid swapped old x some

  -- the places as the traversal begins
  abbrev pub start : Tokens
  start = begun (outlook set.start_level grid swapped) (tokens_of grid swapped m)

  lent_is : Lent (length (numbers (outlook set.start_level grid swapped))) (tokens_of grid swapped m).vertices (begun (outlook set.start_level grid swapped) (tokens_of grid swapped m)).vertices
  lent_is = lent_counts (numbers (outlook set.start_level grid swapped)) (tokens_of grid swapped m).vertices

  many : length (numbers (outlook set.start_level grid swapped)) ≡ 2 ^ set.axes
  many = length-range_with_len 0 (2 ^ grid.axes) ∙ ap (λ n. 2 ^ n) (sym may.fits.axes)

  abbrev pub first_stage : Stage
  first_stage = record {
    out = 2 ^ set.axes;
    parent = root;
    cell = root;
    from = 2 ^ set.axes;
    owed = 0;
    unstored = 0;
    counted = 0;
    entered = root ∷ [];
    ahead = cells_below (outlook set.start_level grid swapped) (grid.greatest - 1) root;
  }

  only_root : (x : Place) → 1 ≤ times (root ∷ []) x → is_same root x ≡ true
  only_root x some = by (is_same root x) refl
    where
      by : (b : Bool) → is_same root x ≡ b → b ≡ true
      by true e = refl
      by false e = absurd (omega (arith, some, times-there root [] x e))

  root_lies : lies (tokens_of grid swapped m).cells root ≡ 0
  root_lies = lies_read root ∙ none (times (stream_cells grid) root) refl
    where
      none : (n : ℕ) → times (stream_cells grid) root ≡ n → n ≡ 0
      none zero e = refl
      none (suc n) e = absurd (true≢false (sym (lt-ltb 0 (times (stream_cells grid) root) (omega (arith, e))) ∙ sym (there_read root) ∙ root_unstored))

  stands : Stands set.axes (outlook set.start_level grid swapped) first_stage start
  stands = record {
    apart = apart_of;
    counting = counting_of;
    unmet = λ vertex off. refl;
    held_met = λ vertex some. absurd (omega (arith, some));
    stacks = lent_is.stacks ∙ may_traverse.stacks;
    cell_stacks = may_traverse.cell_stacks;
    parents = λ k low on. absurd (true≢false (sym on ∙ root_off k));
    mine = λ k high low on. absurd (omega (arith, high, low));
    out = omega (arith, lent_is.out, many, may.holds.none_out);
    cells_out = omega (arith, may.holds.no_cell_out);
    parent_entered = omega (arith, times-here root [] root (is_same_itself root));
    entered_off = λ cell some. ap (λ c. lies (tokens_of grid swapped m).cells c) (sym (same_places root cell (only_root cell some))) ∙ root_lies;
    entered_once = λ cell some. ap (times (cells_below (outlook set.start_level grid swapped) (grid.greatest - 1) root)) (sym (same_places root cell (only_root cell some)))
        ∙ (walked_cells_differ (outlook set.start_level grid swapped) (grid.greatest - 1) root dim_of (root_is_cell grid.axes (way_of (next_traversal grid)))).deeper root (omega arith);
    entered_distinct = λ cell. distinct cell (is_same root cell) refl;
    ahead = begins_ahead (outlook set.start_level grid swapped) (walked set.start_level grid) grid.greatest (tokens_of grid swapped m) dim_of grown_of may_traverse;
  }
    where
      distinct : (x : Place) (b : Bool) → is_same root x ≡ b → times (root ∷ []) x ≤ 1
      distinct x true e = omega (arith, times-here root [] x e)
      distinct x false e = omega (arith, times-there root [] x e)

  fair : Fair set.axes (set.rules.greatest set.plan) (outlook set.start_level grid swapped) (foresight_of set.start_level grid) first_stage cornered start
  fair = record {
    loads = λ vertex. ap (λ loads. unwrap_or (at loads vertex) 0) has.loads;
    unread = λ vertex none. ap (λ found. at found vertex) has.vertices ∙ found-turned_by as_begun grid.vertices vertex.level vertex.pos;
    live = λ vertex on live. absurd (elim live [ inl held ↦ let none : 1 ≤ 0 = held in omega (arith, none) | inr lying ↦ let none : 1 ≤ 0 = lying.3 in omega (arith, none) ]);
    written = λ vertex some met. absurd (omega (arith, met));
    gone = λ vertex on met none. absurd (omega (arith, met));
    cells_there = λ x. ap (λ cells. is_some (at cells x)) has.cells ∙ ap is_some (at-put grid.cells root x grid.root) ∙ there x (is_same root x) refl;
    parent_flags = λ k low. (has.made k low).1 ∙ ap not (sym (root_off k));
    parents = λ k low off. (has.made k low).0;
    flags = λ x k deep. ap is_some (has.others x k (omega (arith, deep)))
        ∙ ap (λ b. b && nat_le (2 ^ set.axes) k && nat_lt k (2 ^ set.axes) && not (o.counts (corner set.axes root k))) (sym (levels_differ root x (λ e. absurd (omega (arith, e, deep)))));
    mine = λ k high low off. absurd (omega (arith, high, low));
  }
    where
      or_none : (a b : Bool) → b ≡ false → a ≡ (a || b)
      or_none true b q = refl
      or_none false b q = sym q

      there : (x : Place) (b : Bool) → is_same root x ≡ b → is_some (if b then Some grid.root else at grid.cells x) ≡ (nat_lt 0 (lies (tokens_of grid swapped m).cells x) || nat_lt 0 (times (root ∷ []) x))
      there x true e = sym (or_right (nat_lt 0 (lies (tokens_of grid swapped m).cells x)) (nat_lt 0 (times (root ∷ []) x)) (lt-ltb 0 (times (root ∷ []) x) (omega (arith, times-here root [] x e))))
      there x false e =
          there_read x ∙ ap (nat_lt 0) (sym (lies_read x))
          ∙ or_none (nat_lt 0 (lies (tokens_of grid swapped m).cells x)) (nat_lt 0 (times (root ∷ []) x)) (ap (nat_lt 0) (times-there root [] x e))

  owes : Owes set.axes set.max_cells (foreseen_start_of set grid swapped m) first_stage cornered.tally start
  owes = subst (λ tally. Owes set.axes set.max_cells (foreseen_start_of set grid swapped m) first_stage tally start) (sym has.tally) (record {
    cells = omega arith;
    total = omega arith;
    fresh = let corners = few_corners set.axes (subst IsDim (sym may.fits.axes) dim_of).1 in omega (arith, lent_is.fresh, many, may.counts.fresh, corners);
    pushes = λ s. let with = with_items m.vertices (λ s. if s == input_stack swapped then stream_vertices grid else []) s in omega (arith, ap (λ stacks. (get_or stacks s new_stack).pushes) lent_is.same, with.pushes, may.counts.pushes s);
    pops = λ s. let with = with_items m.vertices (λ s. if s == input_stack swapped then stream_vertices grid else []) s in omega (arith, ap (λ stacks. (get_or stacks s new_stack).pops) lent_is.same, with.pops, may.counts.pops s);
    cell_fresh = omega (arith, may.cell_counts.fresh);
    cell_pushes = λ s. let with = with_items m.cells (λ s. if s == cell_input_stack swapped then stream_cells grid else []) s in omega (arith, with.pushes, may.cell_counts.pushes s);
    cell_pops = λ s. let with = with_items m.cells (λ s. if s == cell_input_stack swapped then stream_cells grid else []) s in omega (arith, with.pops, may.cell_counts.pops s);
    read = omega arith;
    written = omega arith;
    created = omega arith;
    destroyed = omega arith;
    hanging = omega arith;
    lens = λ s. omega (arith, ap length (lent_items (numbers (outlook set.start_level grid swapped)) (tokens_of grid swapped m).vertices s));
    cell_lens = λ s. omega arith;
  })

  -- what holds as a traversal begins
  pub starts : Holds set (foreseen_start_of set grid swapped m) first_stage cornered start
  starts = record { stands = stands; fair = fair; owes = owes }
