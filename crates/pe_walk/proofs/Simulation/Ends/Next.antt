-- As a traversal of a grid ends, the working state is the grid that comes next, and what was written is its streams.
use Rattle.std.proofs.Common.{◌≡◌, ℕ, ◌<◌, ◌≤◌, Bool, true, false, not, ◌&&◌, ◌||◌, ◌==◌, [], Option, Some, None, refl, sym, ap, ap₂, subst, ◌∙◌, arith, is_some, true≢false, if◌then◌else◌}
use Rattle.std.specs.Prelude.{nat_lt}
use Rattle.std.specs.Option.{option_map}
use Rattle.std.proofs.lemmas.Bool.{lt-ltb, ltb-true, eq-eqb, ne_eqb, and_parts, or_right}
use Rattle.std.proofs.Math.Bool.{or-false}
use Rattle.pe_base.specs.declared.place.Place.{Place}
use Rattle.pe_base.specs.declared.state.State.{State}
use Rattle.pe_base.specs.Tree.Dim.{IsDim}
use Rattle.pe_base.specs.Tree.Places.{root, parent_of, is_same}
use Rattle.pe_base.specs.Tree.Ways.{way_of, opposite}
use Rattle.pe_base.specs.Life.States.{is_old, is_stored}
use Rattle.pe_base.specs.Life.Table.{is_settled}
use Rattle.pe_base.specs.Life.Kinds.{kind_from, is_hanging}
use Rattle.pe_base.specs.Walk.Maps.{at}
use Rattle.pe_base.specs.Walk.Course.{Push}
use Rattle.pe_base.specs.Walk.Core.{Setting}
use Rattle.pe_base.specs.Walk.Grids.{Grid, StoredVertex, state_in, is_cell, IsWellFormed}
use Rattle.pe_base.specs.Walk.Foreseen.{next_traversal, was, will, below, walked}
use Rattle.pe_base.specs.Walk.Streams.{stream_vertices, stream_cells}
use Rattle.pe_base.specs.Walk.Working.{Working, ended}
use Rattle.pe_base.proofs.Steps.SlowerLaws.{length-around}
use Rattle.pe_base.proofs.Walk.MapLaws.{at-removed, found-turned_by}
use Rattle.pe_base.proofs.Tree.Ranks.{same_places}
use Rattle.pe_stacks.specs.Holdings.{items_at}
use Rattle.pe_stacks.specs.Grid.{output_stack, cell_output_stack}
use Rattle.pe_adapt.specs.CountedTouches.{Machine}
use Rattle.pe_order.specs.Tokens.{Outlook, Tokens, turned, numbers}
use Rattle.pe_order.specs.Tokens as tokens
use Rattle.pe_order.specs.Takings.{writes_of, cell_reads_of, cell_writes_of, Grown, HasTraversed}
use Rattle.pe_order.specs.CellsAhead.{times}
use Rattle.pe_order.specs.Apart.{lies}
use Rattle.pe_order.specs.Outlooks.{outlook}
use Rattle.pe_order.specs.StreamLaws.{IsNext}
use Rattle.pe_walk.specs.Standing.{Foresight, IsWritten, Holds}
use Rattle.pe_stacks.specs.StreamsHeld.{stored_of}
use Rattle.pe_walk.specs.Gridded.{MachineMayTraverse}
use Rattle.pe_order.proofs.Tests.{some_power}
use Rattle.pe_order.proofs.Trees.{cell_position}
use Rattle.pe_order.proofs.StreamOrders.{cell_test, stored_not_hanging, next_is_formed, writes_are_streams}
use Rattle.pe_order.proofs.Tokens.Apart.{lies_only, not_read}
use Rattle.pe_order.proofs.Tokens.OnStreams.{reads_it, reads_cell_it, reads_cells_only}
use Rattle.pe_order.proofs.Tokens.Streams.{fits_turned}
use Rattle.pe_order.proofs.Tokens.Traversals.{given_items}
use Rattle.pe_order.proofs.Tokens.Turning.{writes-turned, cell_writes-turned}
use Rattle.pe_walk.proofs.Simulation.Leaves.{at_root}
use Rattle.pe_walk.proofs.Simulation.ForeseenStarts.{as_begun, foresight_of}
use Rattle.pe_walk.proofs.Simulation.Starts.{tokens_of, foreseen_start_of, cell_of, dim_of, grown_of}
use Rattle.pe_walk.proofs.Simulation.Visits.Entering.{times-there}
use Rattle.pe_order.proofs.Tokens.Bounds.{few_stacks, few_cell_stacks}

-- what will be stored counts; what does not count was not stored and will not be
stored_counts : (a b : Bool) → b ≡ true → not (is_hanging (kind_from a b)) ≡ true
stored_counts true true h = refl
stored_counts false true h = refl
stored_counts true false h = absurd (true≢false (sym h))
stored_counts false false h = absurd (true≢false (sym h))

never_stored : (a b : Bool) → not (is_hanging (kind_from a b)) ≡ false → a ≡ false
never_stored true true h = absurd (true≢false h)
never_stored false b h = refl
never_stored true false h = absurd (true≢false h)

none_there : {X : Type 0} (found : Option X) → is_some found ≡ false → found ≡ None
none_there None e = refl
none_there (Some x) e = absurd (true≢false e)

module _ {Plan : Type 0} (set : Setting Plan) (grid : Grid) (swapped : Bool) (m : Machine) (may : MachineMayTraverse set grid swapped m) (room : Push → Type 0) (w : Working) (t : Tokens)
    (holds : Holds set (foreseen_start_of set grid swapped m) (at_root set (foreseen_start_of set grid swapped m) room []) w t)
    (all : HasTraversed (outlook set.start_level grid swapped) grid.greatest (tokens_of grid swapped m) (tokens.ended (outlook set.start_level grid swapped) t)) where
  abbrev o : Outlook
  o = outlook set.start_level grid swapped

  abbrev f : Foresight
  f = foresight_of set.start_level grid

  dim : IsDim grid.axes
  dim = dim_of set grid swapped m may

  grown : Grown (outlook set.start_level grid swapped) (walked set.start_level grid) grid.greatest
  grown = grown_of set grid swapped m may

  back : Grown (turned (outlook set.start_level grid swapped)) (walked set.start_level grid) grid.greatest
  back = fits_turned o (walked set.start_level grid) grid.greatest dim grown

  -- # Vertices
  met_some : (q : Place) → o.counts q ≡ true → 1 ≤ t.met q
  met_some q counts = omega (arith, all.all_met q counts, length-around grid.axes (way_of (next_traversal grid)) q dim.1 (grown.is_walk.inside q counts), some_power grid.axes)

  vertices_at : (s : ℕ) → items_at t.vertices s ≡ (if s == output_stack swapped then writes_of o grid.greatest root else [])
  vertices_at s = sym (given_items (numbers o) t.vertices s) ∙ all.writes_vertices s

  on_output : items_at t.vertices (output_stack swapped) ≡ writes_of o grid.greatest root
  on_output = vertices_at (output_stack swapped) ∙ ap (λ b. if b then writes_of o grid.greatest root else []) (same_number (output_stack swapped))
    where
      same_number : (n : ℕ) → (n == n) ≡ true
      same_number n = eq-eqb n n refl

  -- what will be stored was written
  stays : (q : Place) → will set.start_level grid q ≡ true → IsWritten f (set.rules.greatest set.plan) q (at w.vertices q)
  stays q h =
      let counts : o.counts q ≡ true = stored_counts (was set.start_level grid q) (will set.start_level grid q) h in
      holds.fair.written q
      (subst (λ qs. 1 ≤ times qs q) (sym (on_output ∙ writes-turned o grid.greatest root dim.1)) (reads_it (turned o) (walked set.start_level grid) grid.greatest dim back q counts h))
      (met_some q counts)

  -- and all else is gone
  goes : (q : Place) → will set.start_level grid q ≡ false → at w.vertices q ≡ None
  goes q h = by (o.counts q) refl
    where
      nowhere : lies t.vertices q ≡ 0
      nowhere =
          lies_only t.vertices (output_stack swapped) (writes_of o grid.greatest root) (omega (arith, few_stacks swapped, holds.stands.stacks)) vertices_at q
          ∙ ap (λ qs. times qs q) (writes-turned o grid.greatest root dim.1) ∙ not_read (turned o) grid.greatest q h

      by : (b : Bool) → o.counts q ≡ b → at w.vertices q ≡ None
      by true counts = holds.fair.gone q counts (met_some q counts) (omega (arith, all.held q, nowhere))
      by false off = holds.fair.unread q (holds.stands.unmet q off)
          ∙ ap (option_map as_begun) (none_there (at grid.vertices q) (never_stored (was set.start_level grid q) (will set.start_level grid q) off))

  -- what the next grid has of a vertex
  found_next : (q : Place) → at (ended w grid).vertices q ≡ option_map stored_of (at w.vertices q)
  found_next q = found-turned_by stored_of w.vertices q.level q.pos

  vertices_next : (q : Place) → is_some (at (ended w grid).vertices q) ≡ will set.start_level grid q
  vertices_next q = ap is_some (found_next q) ∙ by (will set.start_level grid q) refl
    where
      by : (b : Bool) → will set.start_level grid q ≡ b → is_some (option_map stored_of (at w.vertices q)) ≡ b
      by true h = ap (λ found. is_some (option_map stored_of found)) (stays q h).there
      by false h = ap (λ found. is_some (option_map stored_of found)) (goes q h)

  states_next : (q : Place) (state : State) → state_in (ended w grid) q ≡ Some state → (it : IsWritten f (set.rules.greatest set.plan) q (at w.vertices q)) × (it.it.state ≡ state)
  states_next q state found = by (will set.start_level grid q) refl
    where
      seen : option_map (λ (it : StoredVertex). it.state) (option_map stored_of (at w.vertices q)) ≡ Some state
      seen = ap (option_map (λ (it : StoredVertex). it.state)) (sym (found_next q)) ∙ found

      by : (b : Bool) → will set.start_level grid q ≡ b → (it : IsWritten f (set.rules.greatest set.plan) q (at w.vertices q)) × (it.it.state ≡ state)
      by true h =
          let it = stays q h in
          let same : Some it.it.state ≡ Some state = ap (λ found. option_map (λ (s : StoredVertex). s.state) (option_map stored_of found)) (sym it.there) ∙ seen in
          (it, cc)
      by false h =
          let none : None ≡ Some state = ap (λ found. option_map (λ (s : StoredVertex). s.state) (option_map stored_of found)) (sym (goes q h)) ∙ seen in
          absurd cc

  -- # Cells
  lies_written : (x : Place) → lies t.cells x ≡ times (cell_writes_of o grid.greatest root) x
  lies_written = lies_only t.cells (cell_output_stack swapped) (cell_writes_of o grid.greatest root) (omega (arith, few_cell_stacks swapped, holds.stands.cell_stacks)) all.writes_cells

  -- the cells that are to be stored are walked
  stored_walked : (x : Place) → (turned o).reads_cell x ≡ true → walked set.start_level grid x ≡ true
  stored_walked x h = or_right (x.level == 0) _ (stored_not_hanging (below set.start_level grid (parent_of x)) (and_parts (not (x.level == 0)) (is_stored (below set.start_level grid (parent_of x))) h).1)

  cells_written : (x : Place) → nat_lt 0 (times (cell_writes_of o grid.greatest root) x) ≡ (is_cell grid.axes x && is_stored (below set.start_level grid (parent_of x)))
  cells_written x =
      ap (λ cs. nat_lt 0 (times cs x)) (cell_writes-turned o grid.greatest root) ∙ by (is_cell grid.axes x && is_stored (below set.start_level grid (parent_of x))) refl
    where
      there : (is_cell grid.axes x && is_stored (below set.start_level grid (parent_of x))) ≡ true → 1 ≤ times (cell_reads_of (turned o) grid.greatest root) x
      there h =
          let both = and_parts (is_cell grid.axes x) (is_stored (below set.start_level grid (parent_of x))) h in
          let place = cell_of grid.axes (opposite o.way) x dim.1 both.0 in
          let reads : (turned o).reads_cell x ≡ true = ap₂ (λ a b. not a && b) (ne_eqb x.level 0 (λ e. omega (arith, e, place.1))) both.1 in
          let up : (parent_of x).level < grid.greatest = grown.walks_within (parent_of x) (stored_not_hanging (below set.start_level grid (parent_of x)) both.1) in
          reads_cell_it (turned o) (walked set.start_level grid) grid.greatest dim back x place.0 (stored_walked x reads) (omega (arith, up, place.1)) reads

      only : 1 ≤ times (cell_reads_of (turned o) grid.greatest root) x → (is_cell grid.axes x && is_stored (below set.start_level grid (parent_of x))) ≡ true
      only some =
          let found = reads_cells_only (turned o) (walked set.start_level grid) grid.greatest dim back (λ c is reads. stored_walked c reads) x some in
          let both = and_parts (not (x.level == 0)) (is_stored (below set.start_level grid (parent_of x))) found.1 in
          ap₂ (λ a b. a && b) (cell_test grid.axes x (cell_position grid.axes (opposite o.way) x dim.1 found.0) ∙ both.0) both.1

      by : (b : Bool) → (is_cell grid.axes x && is_stored (below set.start_level grid (parent_of x))) ≡ b → nat_lt 0 (times (cell_reads_of (turned o) grid.greatest root) x) ≡ b
      by true h = lt-ltb 0 (times (cell_reads_of (turned o) grid.greatest root) x) (there h)
      by false h = none (nat_lt 0 (times (cell_reads_of (turned o) grid.greatest root) x)) refl
        where
          none : (b : Bool) → nat_lt 0 (times (cell_reads_of (turned o) grid.greatest root) x) ≡ b → b ≡ false
          none false e = refl
          none true e = absurd (true≢false (sym (only (ltb-true 0 (times (cell_reads_of (turned o) grid.greatest root) x) e)) ∙ h))

  cells_next : (x : Place) → is_some (at (ended w grid).cells x) ≡ (is_cell grid.axes x && is_stored (below set.start_level grid (parent_of x)))
  cells_next x = ap is_some (at-removed w.cells root x) ∙ by (is_same root x) refl
    where
      by : (b : Bool) → is_same root x ≡ b → is_some (if b then None else at w.cells x) ≡ (is_cell grid.axes x && is_stored (below set.start_level grid (parent_of x)))
      by true e = ap (λ c. is_cell grid.axes c && is_stored (below set.start_level grid (parent_of c))) (same_places root x e)
      by false e =
          holds.fair.cells_there x
          ∙ ap₂ (λ a b. nat_lt 0 a || nat_lt 0 b) (lies_written x) (times-there root [] x e)
          ∙ or-false (nat_lt 0 (times (cell_writes_of o grid.greatest root) x))
          ∙ cells_written x

  -- # The grid that comes next
  pub next_of : IsNext set.start_level grid (ended w grid)
  next_of = record {
    axes = refl;
    greatest = refl;
    finished = refl;
    vertices = vertices_next;
    cells = cells_next;
    turned_old = λ q state found. let it = states_next q state found in ap is_old (sym it.1) ∙ it.0.old;
    settled = λ q state found. let it = states_next q state found in ap is_settled (sym it.1) ∙ it.0.settled;
    finest = λ q state found deep. let it = states_next q state found in sym it.1 ∙ it.0.finest (subst (λ n. n ≤ q.level) (sym may.fits.greatest) deep);
  }

  pub formed_of : IsWellFormed (ended w grid)
  formed_of = next_is_formed set.start_level grid (ended w grid) may.fits.start_level may.formed next_of

  -- what was written is its streams
  pub streams_of : (writes_of (outlook set.start_level grid swapped) grid.greatest root ≡ stream_vertices (ended w grid)) × (cell_writes_of (outlook set.start_level grid swapped) grid.greatest root ≡ stream_cells (ended w grid))
  streams_of = writes_are_streams set.start_level grid (ended w grid) swapped may.fits.start_level may.formed next_of
