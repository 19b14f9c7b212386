-- What a traversal moves, in what it counts.
use Rattle.std.proofs.Common.{◌≡◌, ℕ, suc, ◌+◌, ◌-◌, ◌*◌, ◌^◌, ◌≤◌, Bool, true, false, not, ◌&&◌, List, ◌∷◌, ◌++◌, filter, reverse, length, Some, refl, sym, ap, ap₂, ◌∙◌, arith}
use Rattle.std.specs.Prelude.{max, is_none, count_by}
use Rattle.std.specs.List.{flat_map}
use Rattle.std.proofs.lemmas.List.{length-map, length-reverse}
use Rattle.std.proofs.lemmas.List.Sums.{length-filter}
use Rattle.std.proofs.Math.Nat.{mul-suc, le_of_mul-le-mul_left}
use Rattle.std.proofs.lemmas.Bool.{ne_eqb}
use Rattle.pe_base.specs.declared.place.Place.{Place}
use Rattle.pe_base.specs.declared.kind.Kind.{Kind}
use Rattle.pe_base.specs.declared.tally.Tally.{Tally}
use Rattle.pe_base.specs.Tree.Dim.{IsDim}
use Rattle.pe_base.specs.Tree.Places.{root}
use Rattle.pe_base.specs.Tree.Ways.{opposite}
use Rattle.pe_base.specs.Tree.Curve.{children}
use Rattle.pe_base.specs.Steps.Routes.{stack_in, stack_out}
use Rattle.pe_base.specs.Steps.Faces.{Touch, corner_touches}
use Rattle.pe_base.specs.Steps.Stacks.{is_stack}
use Rattle.pe_base.specs.Walk.Working.{no_tally}
use Rattle.pe_base.specs.Walk.Streams.{if_walks, walked_cells}
use Rattle.pe_base.proofs.Lists.{Each-all, Each-weaker}
use Rattle.pe_base.proofs.Steps.VertexTouches.{same_itself}
use Rattle.pe_base.proofs.Steps.Turned.{stack-opposite}
use Rattle.pe_stacks.specs.Holdings.{stack_at}
use Rattle.pe_stacks.specs.Grid.{input_stack, output_stack, cell_input_stack, cell_output_stack}
use Rattle.pe_order.specs.Tokens.{Outlook, Tokens, turned, given, cell_source, cell_target, traverse}
use Rattle.pe_order.specs.Takings.{loads_of, stores_of, left_cells, is_read, is_written, Grown}
use Rattle.pe_order.specs.Traffic.{tallest, height, entered_cells, departed_cells, first_vertices}
use Rattle.pe_order.specs.Frames.{HasStacks}
use Rattle.pe_order.specs.Tallies.{IsOfKinds, counted_traversal, is_created, is_destroyed, is_hung, TallyRises, ExactTraffic, TrafficByTally}
use Rattle.pe_order.proofs.Trees.{root_is_cell}
use Rattle.pe_order.proofs.Tokens.LoadOrder.{root_walks}
use Rattle.pe_order.proofs.Tokens.Walks.{children_levels}
use Rattle.pe_order.proofs.Tokens.Traversals.{root_corners}
use Rattle.pe_order.proofs.Tokens.Turning.{stores-turned}
use Rattle.pe_order.proofs.Tokens.Streams.{fits_turned}
use Rattle.pe_order.proofs.Tokens.DepotCounts.{count_none, count_all}
use Rattle.pe_order.proofs.Tokens.Traffic.{corners_of, loads_length, loads_per_cell}
use Rattle.pe_order.proofs.Tokens.TraversalTraffic.{traffic_of_a_traversal}
use Rattle.pe_order.proofs.Tokens.Short.{sum-same}
use Rattle.pe_order.proofs.Tokens.Crossings.{traffic_is_crossings, hanging_loads}
use Rattle.pe_order.proofs.Tokens.CountLists.{count-append, count-flat_map, count-reverse, count-same, count-not}
use Rattle.pe_order.proofs.Tokens.TallyLaws.{walk_rises, each_rises}
use Rattle.pe_order.proofs.Tokens.Depths.{each_deepest, some_height, walk_deepest}
use Rattle.pe_order.proofs.Tokens.TouchCounts.{input_reads, output_unread, output_writes, input_unwritten, idle_loads, idle_stores, made_counts, ended_counts, first_counts, last_counts, stores-loads, left-walked}
use Rattle.pe_order.proofs.Tests.{some_power}

-- what the root's corners, and what is below the root, add to a count
module _ (o : Outlook) (walked : Place → Bool) (greatest : ℕ) (dim : IsDim o.axes) (grown : Grown o walked greatest) where
  abbrev kids : List Place
  kids = children o.axes o.way root

  abbrev own : List Touch
  own = reverse (corner_touches o.axes root)

  abbrev deep_loads : List Touch
  deep_loads = flat_map (loads_of o (greatest - 1)) (children o.axes o.way root)

  abbrev deep_stores : List Touch
  deep_stores = flat_map (stores_of o (greatest - 1)) (children o.axes o.way root)

  some_level : greatest ≡ suc (greatest - 1)
  some_level = omega (arith, grown.walks_within root (root_walks o walked greatest dim grown))

  all_loads : loads_of o greatest root ≡ reverse (corner_touches o.axes root) ++ flat_map (loads_of o (greatest - 1)) (children o.axes o.way root)
  all_loads = ap (λ n. loads_of o n root) some_level ∙ ap (λ b. own ++ flat_map (loads_of o (greatest - 1)) (if_walks o.axes o.way o.walks b kids)) (root_walks o walked greatest dim grown)

  all_stores : stores_of o greatest root ≡ flat_map (stores_of o (greatest - 1)) (children o.axes o.way root) ++ corner_touches o.axes root
  all_stores = ap (λ n. stores_of o n root) some_level ∙ ap (λ b. flat_map (stores_of o (greatest - 1)) (if_walks o.axes o.way o.walks b kids) ++ corner_touches o.axes root) (root_walks o walked greatest dim grown)

  pub all_cells : walked_cells o.axes o.way o.walks greatest root ≡ root ∷ entered_cells o greatest
  all_cells = ap (λ n. walked_cells o.axes o.way o.walks n root) some_level ∙ ap (λ b. root ∷ flat_map (walked_cells o.axes o.way o.walks (greatest - 1)) (if_walks o.axes o.way o.walks b kids)) (root_walks o walked greatest dim grown)

  root_height : height o greatest root ≡ suc (tallest (height o (greatest - 1)) (children o.axes o.way root))
  root_height = ap (λ n. height o n root) some_level ∙ ap (λ b. suc (tallest (height o (greatest - 1)) (if_walks o.axes o.way o.walks b kids))) (root_walks o walked greatest dim grown)

  load_count : (p : Touch → Bool) (n : ℕ) → count_by p (reverse (corner_touches o.axes root)) ≡ n → count_by p (loads_of o greatest root) ≡ n + count_by p (flat_map (loads_of o (greatest - 1)) (children o.axes o.way root))
  load_count p n e = ap (count_by p) all_loads ∙ count-append p own deep_loads ∙ ap (λ m. m + count_by p deep_loads) e

  store_count : (p : Touch → Bool) (n : ℕ) → count_by p (reverse (corner_touches o.axes root)) ≡ n → count_by p (stores_of o greatest root) ≡ n + count_by p (flat_map (stores_of o (greatest - 1)) (children o.axes o.way root))
  store_count p n e = ap (count_by p) all_stores ∙ omega (arith, count-append p deep_stores (corner_touches o.axes root), count-reverse p (corner_touches o.axes root), e)

  own_none : (x : Touch → Bool) → count_by (λ t. o.counts t.vertex && x t) (reverse (corner_touches o.axes root)) ≡ 0
  own_none x = count_none _ own (Each-weaker (λ t. o.counts t.vertex ≡ false) _ (λ t c. ap (λ b. b && x t) c) own (root_corners o walked greatest dim grown))

  own_hung : count_by (is_hung o) (reverse (corner_touches o.axes root)) ≡ 2 ^ o.axes
  own_hung = count_all (is_hung o) own (Each-weaker (λ t. o.counts t.vertex ≡ false) _ (λ t c. ap not c) own (root_corners o walked greatest dim grown)) ∙ length-reverse (corner_touches o.axes root) ∙ corners_of o.axes root

  -- the cells that are left are those that were entered
  pub deep_left : (p : Place → Bool) → count_by p (departed_cells o greatest) ≡ count_by p (entered_cells o greatest)
  deep_left p =
      count-flat_map p (left_cells o (greatest - 1)) kids
      ∙ sum-same (λ c. count_by p (left_cells o (greatest - 1) c)) (λ c. count_by p (walked_cells o.axes o.way o.walks (greatest - 1) c)) kids (Each-all _ (left-walked o p (greatest - 1)) kids)
      ∙ sym (count-flat_map p (walked_cells o.axes o.way o.walks (greatest - 1)) kids)

  -- the vertices that count, by their first loads
  firsts_length : length (first_vertices o greatest) ≡ count_by (λ t. o.counts t.vertex && is_none (stack_in o.axes o.way t.vertex t.cell)) (loads_of o greatest root)
  firsts_length = length-map (filter (λ t. o.counts t.vertex && is_none (stack_in o.axes o.way t.vertex t.cell)) (loads_of o greatest root)) (λ t. t.vertex)
      ∙ length-filter (λ t. o.counts t.vertex && is_none (stack_in o.axes o.way t.vertex t.cell)) (loads_of o greatest root)

-- and by their last stores
lasts_length : (o : Outlook) (walked : Place → Bool) (greatest : ℕ) → IsDim o.axes → Grown o walked greatest
    → length (first_vertices o greatest) ≡ count_by (λ t. o.counts t.vertex && is_none (stack_out o.axes o.way t.vertex t.cell)) (stores_of o greatest root)
lasts_length o walked greatest dim grown = same ∙ firsts_length (turned o) walked greatest dim (fits_turned o walked greatest dim grown)
    ∙ ap (count_by test) (sym (stores-turned o.axes o.way o.walks greatest root)) ∙ count-reverse test (stores_of o greatest root)
    ∙ count-same test _ (stores_of o greatest root) (Each-all _ (λ t. ap (λ s. o.counts t.vertex && is_none s) (stack-opposite o.axes o.way t.vertex t.cell dim.1)) (stores_of o greatest root))
  where
    test : Touch → Bool
    test t = o.counts t.vertex && is_none (stack_in o.axes (opposite o.way) t.vertex t.cell)

    cancel : (k a b : ℕ) → 1 ≤ k → k * a ≡ k * b → a ≡ b
    cancel k a b some e = let below : a ≤ b = le_of_mul-le-mul_left {k = k} (omega (arith, e)) some in let above : b ≤ a = le_of_mul-le-mul_left {k = k} (omega (arith, e)) some in omega arith

    turned_hung : count_by (is_hung o) (loads_of (turned o) greatest root) ≡ count_by (is_hung o) (loads_of o greatest root)
    turned_hung = ap (count_by (is_hung o)) (sym (stores-turned o.axes o.way o.walks greatest root)) ∙ count-reverse (is_hung o) (stores_of o greatest root) ∙ stores-loads o (λ v. not (o.counts v)) greatest root

    turned_length : length (loads_of (turned o) greatest root) ≡ length (loads_of o greatest root)
    turned_length = ap length (sym (stores-turned o.axes o.way o.walks greatest root)) ∙ length-reverse (stores_of o greatest root) ∙ (loads_per_cell o greatest root).stores ∙ sym (loads_per_cell o greatest root).loads

    same : length (first_vertices o greatest) ≡ length (first_vertices (turned o) greatest)
    same = cancel (2 ^ o.axes) (length (first_vertices o greatest)) (length (first_vertices (turned o) greatest)) (some_power o.axes) (omega (
      arith,
      hanging_loads o walked greatest dim grown,
      hanging_loads (turned o) walked greatest dim (fits_turned o walked greatest dim grown),
      turned_hung,
      turned_length,
      loads_length o greatest root,
      loads_length (turned o) greatest root,
    ))

-- from where a cell comes, and to where it goes
pub by_given : (b : Bool) (s : ℕ) → is_stack s (given b (Some s)) ≡ b
by_given true s = same_itself s
by_given false s = refl

pub by_other : (b : Bool) (s other : ℕ) → (s ≡ other → ⊥) → is_stack s (given b (Some other)) ≡ false
by_other true s other apart = ne_eqb s other apart
by_other false s other apart = refl

pub two_cell_streams : (swapped : Bool) → cell_input_stack swapped ≡ cell_output_stack swapped → ⊥
two_cell_streams true e = omega (arith, e)
two_cell_streams false e = omega (arith, e)

pub by_none : (b : Bool) (s : ℕ) → is_none (given b (Some s)) ≡ not b
by_none true s = refl
by_none false s = refl

module _ (o : Outlook) (kind : Place → Kind) (walked : Place → Bool) (greatest traversal : ℕ) (dim : IsDim o.axes) (grown : Grown o walked greatest) (is : IsOfKinds o kind) where
  abbrev tally : Tally
  tally = counted_traversal o kind greatest (no_tally traversal)

  rises : TallyRises o (entered_cells o greatest) (deep_loads o walked greatest dim grown) (deep_stores o walked greatest dim grown) (no_tally traversal) (counted_traversal o kind greatest (no_tally traversal))
  rises = each_rises o kind is (greatest - 1) (walk_rises o kind is (greatest - 1)) (children o.axes o.way root) (no_tally traversal)

  -- each count, over the loads and stores of the whole traversal
  all_read : count_by (is_read o) (loads_of o greatest root) ≡ (counted_traversal o kind greatest (no_tally traversal)).read
  all_read = load_count o walked greatest dim grown (is_read o) 0 (own_none o walked greatest dim grown _) ∙ sym rises.read

  all_created : count_by (is_created o) (loads_of o greatest root) ≡ (counted_traversal o kind greatest (no_tally traversal)).created
  all_created = load_count o walked greatest dim grown (is_created o) 0 (own_none o walked greatest dim grown _) ∙ sym rises.created

  all_hung : count_by (is_hung o) (loads_of o greatest root) ≡ 2 ^ o.axes + (counted_traversal o kind greatest (no_tally traversal)).hanging
  all_hung = load_count o walked greatest dim grown (is_hung o) (2 ^ o.axes) (own_hung o walked greatest dim grown) ∙ ap (λ n. 2 ^ o.axes + n) (plain ∙ sym rises.hanging)
    where
      plain : count_by (is_hung o) (flat_map (loads_of o (greatest - 1)) (children o.axes o.way root)) ≡ 0 + count_by (is_hung o) (flat_map (loads_of o (greatest - 1)) (children o.axes o.way root))
      plain = omega arith

  all_written : count_by (is_written o) (stores_of o greatest root) ≡ (counted_traversal o kind greatest (no_tally traversal)).written
  all_written = store_count o walked greatest dim grown (is_written o) 0 (own_none o walked greatest dim grown _) ∙ sym rises.written

  all_destroyed : count_by (is_destroyed o) (stores_of o greatest root) ≡ (counted_traversal o kind greatest (no_tally traversal)).destroyed
  all_destroyed = store_count o walked greatest dim grown (is_destroyed o) 0 (own_none o walked greatest dim grown _) ∙ sym rises.destroyed

  all_gone : count_by (is_hung o) (stores_of o greatest root) ≡ 2 ^ o.axes + (counted_traversal o kind greatest (no_tally traversal)).hanging
  all_gone = stores-loads o (λ v. not (o.counts v)) greatest root ∙ all_hung

  cells_counted : (counted_traversal o kind greatest (no_tally traversal)).cells ≡ length (entered_cells o greatest)
  cells_counted = rises.cells ∙ omega arith

  depth : (counted_traversal o kind greatest (no_tally traversal)).deepest ≡ tallest (height o (greatest - 1)) (children o.axes o.way root)
  depth = rises.deepest
      ∙ each_deepest o (greatest - 1) 0 (walk_deepest o (greatest - 1)) (children o.axes o.way root) (children_levels o.axes o.way root) (Each-all _ (some_height o (greatest - 1)) (children o.axes o.way root)) 0 (omega arith)
      ∙ omega arith

  exact : (t after : Tokens) → HasStacks t → traverse o greatest t ≡ Some after → ExactTraffic o greatest t.vertices after.vertices t.cells after.cells (counted_traversal o kind greatest (no_tally traversal))
  exact t after has e =
      let traffic = traffic_of_a_traversal o walked greatest t after dim grown has.vertices has.cells e in
      let m = traffic.moved in
      let loads = loads_of o greatest root in
      let stores = stores_of o greatest root in
      let entered = entered_cells o greatest in
      let is_cell = root_is_cell o.axes o.way in
      let tall : height o greatest root ≡ tally.deepest + 1 = omega (arith, root_height o walked greatest dim grown, depth) in
      record {
        read = m.pops (input_stack o.swapped) ∙ ap (λ n. (stack_at t.vertices (input_stack o.swapped)).pops + n) (input_reads o dim greatest root is_cell ∙ all_read);
        written = m.pushes (output_stack o.swapped) ∙ ap (λ n. (stack_at t.vertices (output_stack o.swapped)).pushes + n) (output_writes o dim greatest root is_cell ∙ all_written);
        input_kept = m.pushes (input_stack o.swapped) ∙ omega (arith, input_unwritten o dim greatest root is_cell);
        output_kept = m.pops (output_stack o.swapped) ∙ omega (arith, output_unread o dim greatest root is_cell);
        fresh = m.fresh ∙ ap (λ n. t.vertices.fresh + n) (made_counts o loads ∙ omega (arith, all_created, all_hung));
        spent = m.spent ∙ ap (λ n. t.vertices.spent + n) (ended_counts o stores ∙ omega (arith, all_destroyed, all_gone));
        popped = λ axis parity a b. m.pops (2 * axis + parity) ∙ ap (λ n. (stack_at t.vertices (2 * axis + parity)).pops + n) (traffic_is_crossings o walked greatest axis parity dim grown a b).pops;
        pushed = λ axis parity a b. m.pushes (2 * axis + parity) ∙ ap (λ n. (stack_at t.vertices (2 * axis + parity)).pushes + n) (traffic_is_crossings o walked greatest axis parity dim grown a b).pushes;
        idle = λ s beyond below. (
          m.pops s ∙ omega (arith, idle_loads o dim greatest root is_cell s beyond below),
          m.pushes s ∙ omega (arith, idle_stores o dim greatest root is_cell s beyond below),
        );
        out = traffic.vertices.out;
        most = traffic.vertices.most ∙ ap (λ n. max t.vertices.most (t.vertices.out + 2 ^ o.axes * n)) tall;
        counting = firsts_length o walked greatest dim grown ∙ first_counts o loads ∙ ap₂ (λ a b. a + b) all_read all_created;
        counting_after = lasts_length o walked greatest dim grown ∙ last_counts o stores ∙ ap₂ (λ a b. a + b) all_written all_destroyed;
        hanging = spread (2 ^ o.axes) (length (first_vertices o greatest)) (count_by (is_hung o) loads) tally.hanging (length (walked_cells o.axes o.way o.walks greatest root)) tally.cells
            (hanging_loads o walked greatest dim grown) all_hung (ap length (all_cells o walked greatest dim grown) ∙ ap suc (sym cells_counted));
        cell_count = cells_counted;
        cells_read = m.cell_pops (cell_input_stack o.swapped)
            ∙ ap (λ n. (stack_at t.cells (cell_input_stack o.swapped)).pops + n) (count-same (λ c. is_stack (cell_input_stack o.swapped) (cell_source o c)) o.reads_cell entered (Each-all _ (λ c. by_given (o.reads_cell c) (cell_input_stack o.swapped)) entered));
        cell_input_kept = m.cell_pushes (cell_input_stack o.swapped)
            ∙ omega (arith, count_none (λ c. is_stack (cell_input_stack o.swapped) (cell_target o c)) (departed_cells o greatest) (Each-all _ (λ c. by_other (o.writes_cell c) (cell_input_stack o.swapped) (cell_output_stack o.swapped) (two_cell_streams o.swapped)) (departed_cells o greatest)));
        cell_output_kept = m.cell_pops (cell_output_stack o.swapped)
            ∙ omega (arith, count_none (λ c. is_stack (cell_output_stack o.swapped) (cell_source o c)) entered (Each-all _ (λ c. by_other (o.reads_cell c) (cell_output_stack o.swapped) (cell_input_stack o.swapped) (λ e. two_cell_streams o.swapped (sym e))) entered));
        cells_made = omega (
          arith,
          m.cell_fresh,
          count-same (λ c. is_none (cell_source o c)) (λ c. not (o.reads_cell c)) entered (Each-all _ (λ c. by_none (o.reads_cell c) (cell_input_stack o.swapped)) entered),
          count-not o.reads_cell entered,
          cells_counted,
        );
        cells_written = m.cell_pushes (cell_output_stack o.swapped)
            ∙ ap (λ n. (stack_at t.cells (cell_output_stack o.swapped)).pushes + n) (deep_left o walked greatest dim grown (λ c. is_stack (cell_output_stack o.swapped) (cell_target o c))
            ∙ count-same (λ c. is_stack (cell_output_stack o.swapped) (cell_target o c)) o.writes_cell entered (Each-all _ (λ c. by_given (o.writes_cell c) (cell_output_stack o.swapped)) entered));
        cells_gone = omega (
          arith,
          m.cell_spent,
          deep_left o walked greatest dim grown (λ c. is_none (cell_target o c)),
          count-same (λ c. is_none (cell_target o c)) (λ c. not (o.writes_cell c)) entered (Each-all _ (λ c. by_none (o.writes_cell c) (cell_output_stack o.swapped)) entered),
          count-not o.writes_cell entered,
          cells_counted,
        );
        cells_out = λ h. (traffic.cells h).out;
        cells_most = λ h. (traffic.cells h).most ∙ ap (λ n. max t.cells.most (t.cells.out + n)) (let z : 1 * (height o greatest root - 1) ≡ tally.deepest = omega (arith, tall) in z);
      }
    where
      spread : (k n h hanging all cells : ℕ) → h + k * n ≡ k * all → h ≡ k + hanging → all ≡ suc cells → hanging + k * n ≡ k * cells
      spread k n h hanging all cells e f g = let s : k * all ≡ k * cells + k = ap (λ x. k * x) g ∙ omega (arith, mul-suc k cells) in omega (arith, e, f, s)

pub traffic_by_tally : TrafficByTally
traffic_by_tally o kind walked greatest traversal t after dim grown is has e = exact o kind walked greatest traversal dim grown is t after has e
