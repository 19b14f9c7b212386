-- What is counted of the walk of a cell.
use Rattle.std.proofs.Common.{◌≡◌, ℕ, zero, suc, ◌+◌, Bool, true, false, not, ◌&&◌, List, [], ◌∷◌, ◌++◌, reverse, refl, sym, ap, ap₂, ◌∙◌, subst, append-nil, length-append, arith}
use Rattle.std.specs.Prelude.{max, is_none}
use Rattle.std.specs.List.{flat_map}
use Rattle.pe_base.specs.declared.place.Place.{Place}
use Rattle.pe_base.specs.declared.kind.Kind.{Kind}
use Rattle.pe_base.specs.declared.kind.Kind.TheVariants.{Kept, Born, Dying, Hanging}
use Rattle.pe_base.specs.declared.tally.Tally.{Tally}
use Rattle.pe_base.specs.Steps.Routes.{stack_in, stack_out}
use Rattle.pe_base.specs.Steps.Faces.{Touch, corner_touches}
use Rattle.pe_base.specs.Life.States.{is_stored}
use Rattle.pe_base.specs.Life.Kinds.{is_hanging}
use Rattle.pe_base.specs.Walk.Touches.{tally_load, tally_store, tally_cell}
use Rattle.pe_base.specs.Walk.Streams.{walked_children, walked_cells}
use Rattle.pe_order.specs.Outlooks.{was_stored}
use Rattle.pe_order.specs.Tokens.{Outlook}
use Rattle.pe_order.specs.Takings.{loads_of, stores_of, is_read, is_written}
use Rattle.pe_order.specs.Tallies.{each_counted, IsOfKinds, counted_load, counted_store, counted_around, counted_walk, is_created, is_destroyed, is_hung, deepest_of, TallyRises, TallyOfACell}
use Rattle.pe_order.proofs.Tokens.Apart.{one_if}
use Rattle.pe_order.proofs.Tokens.CountLists.{count-cons, count-append}

pub deepest-append : (xs ys : List Place) (level : ℕ) → deepest_of (xs ++ ys) level ≡ deepest_of ys (deepest_of xs level)
deepest-append [] ys level = refl
deepest-append (x ∷ xs) ys level = deepest-append xs ys (max level x.level)

-- a load and a store by kinds
record LoadCounts (hangs was first : Bool) (tally after : Tally) : Type 0 where
  traversal : after.traversal ≡ tally.traversal
  way : after.way ≡ tally.way
  cells : after.cells ≡ tally.cells
  read : after.read ≡ tally.read + one_if (not hangs && (was && first))
  written : after.written ≡ tally.written
  created : after.created ≡ tally.created + one_if (not hangs && (not was && first))
  destroyed : after.destroyed ≡ tally.destroyed
  hanging : after.hanging ≡ tally.hanging + one_if (not (not hangs))
  deepest : after.deepest ≡ tally.deepest

load_counts : (kind : Kind) (first : Bool) (tally : Tally) → LoadCounts (is_hanging kind) (was_stored kind) first tally (tally_load kind first tally)
load_counts Hanging first tally = record { traversal = refl; way = refl; cells = refl; read = omega arith; written = refl; created = omega arith; destroyed = refl; hanging = omega arith; deepest = refl }
load_counts Born true tally = record { traversal = refl; way = refl; cells = refl; read = omega arith; written = refl; created = omega arith; destroyed = refl; hanging = omega arith; deepest = refl }
load_counts Kept true tally = record { traversal = refl; way = refl; cells = refl; read = omega arith; written = refl; created = omega arith; destroyed = refl; hanging = omega arith; deepest = refl }
load_counts Dying true tally = record { traversal = refl; way = refl; cells = refl; read = omega arith; written = refl; created = omega arith; destroyed = refl; hanging = omega arith; deepest = refl }
load_counts Born false tally = record { traversal = refl; way = refl; cells = refl; read = omega arith; written = refl; created = omega arith; destroyed = refl; hanging = omega arith; deepest = refl }
load_counts Kept false tally = record { traversal = refl; way = refl; cells = refl; read = omega arith; written = refl; created = omega arith; destroyed = refl; hanging = omega arith; deepest = refl }
load_counts Dying false tally = record { traversal = refl; way = refl; cells = refl; read = omega arith; written = refl; created = omega arith; destroyed = refl; hanging = omega arith; deepest = refl }

record StoreCounts (hangs will last : Bool) (tally after : Tally) : Type 0 where
  traversal : after.traversal ≡ tally.traversal
  way : after.way ≡ tally.way
  cells : after.cells ≡ tally.cells
  read : after.read ≡ tally.read
  written : after.written ≡ tally.written + one_if (not hangs && (will && last))
  created : after.created ≡ tally.created
  destroyed : after.destroyed ≡ tally.destroyed + one_if (not hangs && (not will && last))
  hanging : after.hanging ≡ tally.hanging
  deepest : after.deepest ≡ tally.deepest

store_counts : (kind : Kind) (last : Bool) (tally : Tally) → StoreCounts (is_hanging kind) (is_stored kind) last tally (tally_store kind last tally)
store_counts Hanging last tally = record { traversal = refl; way = refl; cells = refl; read = refl; written = omega arith; created = refl; destroyed = omega arith; hanging = refl; deepest = refl }
store_counts Born true tally = record { traversal = refl; way = refl; cells = refl; read = refl; written = omega arith; created = refl; destroyed = omega arith; hanging = refl; deepest = refl }
store_counts Kept true tally = record { traversal = refl; way = refl; cells = refl; read = refl; written = omega arith; created = refl; destroyed = omega arith; hanging = refl; deepest = refl }
store_counts Dying true tally = record { traversal = refl; way = refl; cells = refl; read = refl; written = omega arith; created = refl; destroyed = omega arith; hanging = refl; deepest = refl }
store_counts Born false tally = record { traversal = refl; way = refl; cells = refl; read = refl; written = omega arith; created = refl; destroyed = omega arith; hanging = refl; deepest = refl }
store_counts Kept false tally = record { traversal = refl; way = refl; cells = refl; read = refl; written = omega arith; created = refl; destroyed = omega arith; hanging = refl; deepest = refl }
store_counts Dying false tally = record { traversal = refl; way = refl; cells = refl; read = refl; written = omega arith; created = refl; destroyed = omega arith; hanging = refl; deepest = refl }

module _ (o : Outlook) where
  rises_nothing : (tally : Tally) → TallyRises o [] [] [] tally tally
  rises_nothing tally = record { traversal = refl; way = refl; cells = omega arith; read = omega arith; written = omega arith; created = omega arith; destroyed = omega arith; hanging = omega arith; deepest = refl }

  rises_then : (cs ds : List Place) (ls ms ss ts : List Touch) (a b c : Tally) → TallyRises o cs ls ss a b → TallyRises o ds ms ts b c → TallyRises o (cs ++ ds) (ls ++ ms) (ss ++ ts) a c
  rises_then cs ds ls ms ss ts a b c f g = record {
    traversal = g.traversal ∙ f.traversal;
    way = g.way ∙ f.way;
    cells = omega (arith, f.cells, g.cells, length-append cs ds);
    read = omega (arith, f.read, g.read, count-append (is_read o) ls ms);
    written = omega (arith, f.written, g.written, count-append (is_written o) ss ts);
    created = omega (arith, f.created, g.created, count-append (is_created o) ls ms);
    destroyed = omega (arith, f.destroyed, g.destroyed, count-append (is_destroyed o) ss ts);
    hanging = omega (arith, f.hanging, g.hanging, count-append (is_hung o) ls ms);
    deepest = g.deepest ∙ ap (deepest_of ds) f.deepest ∙ sym (deepest-append cs ds a.deepest);
  }

  module _ (kind : Place → Kind) (is : IsOfKinds o kind) where
    one : {p q : Bool} (n m : ℕ) (rest : ℕ) → p ≡ q → m ≡ n + one_if q → rest ≡ one_if p + 0 → m ≡ n + rest
    one n m rest e f g = omega (arith, f, g, ap one_if e)

    load_rises : (touch : Touch) (tally : Tally) → TallyRises o [] (touch ∷ []) [] tally (counted_load o kind touch tally)
    load_rises touch tally =
        let first = is_none (stack_in o.axes o.way touch.vertex touch.cell) in
        let by = load_counts (kind touch.vertex) first tally in
        record {
          traversal = by.traversal;
          way = by.way;
          cells = omega (arith, by.cells);
          read = one tally.read _ _ (ap₂ (λ x y. x && (y && first)) (is.counts touch.vertex) (is.reads touch.vertex)) by.read (count-cons (is_read o) touch []);
          written = omega (arith, by.written);
          created = one tally.created _ _ (ap₂ (λ x y. x && (not y && first)) (is.counts touch.vertex) (is.reads touch.vertex)) by.created (count-cons (is_created o) touch []);
          destroyed = omega (arith, by.destroyed);
          hanging = one tally.hanging _ _ (ap not (is.counts touch.vertex)) by.hanging (count-cons (is_hung o) touch []);
          deepest = by.deepest;
        }

    store_rises : (touch : Touch) (tally : Tally) → TallyRises o [] [] (touch ∷ []) tally (counted_store o kind touch tally)
    store_rises touch tally =
        let last = is_none (stack_out o.axes o.way touch.vertex touch.cell) in
        let by = store_counts (kind touch.vertex) last tally in
        record {
          traversal = by.traversal;
          way = by.way;
          cells = omega (arith, by.cells);
          read = omega (arith, by.read);
          written = one tally.written _ _ (ap₂ (λ x y. x && (y && last)) (is.counts touch.vertex) (is.writes touch.vertex)) by.written (count-cons (is_written o) touch []);
          created = omega (arith, by.created);
          destroyed = one tally.destroyed _ _ (ap₂ (λ x y. x && (not y && last)) (is.counts touch.vertex) (is.writes touch.vertex)) by.destroyed (count-cons (is_destroyed o) touch []);
          hanging = omega (arith, by.hanging);
          deepest = by.deepest;
        }

    loads_rise : (touches : List Touch) (tally : Tally) → TallyRises o [] touches [] tally (each_counted (counted_load o kind) touches tally)
    loads_rise [] tally = rises_nothing tally
    loads_rise (touch ∷ touches) tally =
        let next = counted_load o kind touch tally in
        rises_then [] [] (touch ∷ []) touches [] [] tally next (each_counted (counted_load o kind) touches next) (load_rises touch tally) (loads_rise touches next)

    stores_rise : (touches : List Touch) (tally : Tally) → TallyRises o [] [] touches tally (each_counted (counted_store o kind) touches tally)
    stores_rise [] tally = rises_nothing tally
    stores_rise (touch ∷ touches) tally =
        let next = counted_store o kind touch tally in
        rises_then [] [] [] [] (touch ∷ []) touches tally next (each_counted (counted_store o kind) touches next) (store_rises touch tally) (stores_rise touches next)

    cell_rises : (cell : Place) (tally : Tally) → TallyRises o (cell ∷ []) [] [] tally (tally_cell cell tally)
    cell_rises cell tally = record { traversal = refl; way = refl; cells = refl; read = omega arith; written = omega arith; created = omega arith; destroyed = omega arith; hanging = omega arith; deepest = refl }

    around_rises : (below : Tally → Tally) (cell : Place) (cs : List Place) (ls ss : List Touch) → ((tally : Tally) → TallyRises o cs ls ss tally (below tally))
        → (tally : Tally) → TallyRises o (cell ∷ cs) (reverse (corner_touches o.axes cell) ++ ls) (ss ++ corner_touches o.axes cell) tally (counted_around o kind below cell tally)
    around_rises below cell cs ls ss goes tally =
        let own = corner_touches o.axes cell in
        let t1 = tally_cell cell tally in
        let t2 = each_counted (counted_load o kind) (reverse own) t1 in
        let t3 = below t2 in
        let t4 = each_counted (counted_store o kind) own t3 in
        let all = rises_then (cell ∷ []) (cs ++ []) [] (reverse own ++ (ls ++ [])) [] (ss ++ own) tally t1 t4 (cell_rises cell tally)
        (rises_then [] (cs ++ []) (reverse own) (ls ++ []) [] (ss ++ own) t1 t2 t4 (loads_rise (reverse own) t1)
        (rises_then cs [] ls [] ss own t2 t3 t4 (goes t2) (stores_rise own t3))) in
        subst (λ xs. TallyRises o (cell ∷ xs) (reverse own ++ ls) (ss ++ own) tally t4) (append-nil cs)
        (subst (λ xs. TallyRises o (cell ∷ (cs ++ [])) (reverse own ++ xs) (ss ++ own) tally t4) (append-nil ls) all)

    pub each_rises : (levels : ℕ) → ((cell : Place) (tally : Tally) → TallyRises o (walked_cells o.axes o.way o.walks levels cell) (loads_of o levels cell) (stores_of o levels cell) tally (counted_walk o kind levels cell tally))
        → (cells : List Place) (tally : Tally) → TallyRises o (flat_map (walked_cells o.axes o.way o.walks levels) cells) (flat_map (loads_of o levels) cells) (flat_map (stores_of o levels) cells) tally (each_counted (counted_walk o kind levels) cells tally)
    each_rises levels law [] tally = rises_nothing tally
    each_rises levels law (c ∷ cs) tally =
        let next = counted_walk o kind levels c tally in
        rises_then (walked_cells o.axes o.way o.walks levels c) (flat_map (walked_cells o.axes o.way o.walks levels) cs) (loads_of o levels c) (flat_map (loads_of o levels) cs) (stores_of o levels c) (flat_map (stores_of o levels) cs)
        tally next (each_counted (counted_walk o kind levels) cs next) (law c tally) (each_rises levels law cs next)

    pub walk_rises : (levels : ℕ) (cell : Place) (tally : Tally) → TallyRises o (walked_cells o.axes o.way o.walks levels cell) (loads_of o levels cell) (stores_of o levels cell) tally (counted_walk o kind levels cell tally)
    walk_rises zero cell tally =
        let own = corner_touches o.axes cell in
        subst (λ xs. TallyRises o (cell ∷ []) xs own tally (counted_walk o kind zero cell tally)) (append-nil (reverse own))
        (around_rises (λ tally. tally) cell [] [] [] rises_nothing tally)
    walk_rises (suc levels) cell tally =
        let kids = walked_children o.axes o.way o.walks cell in
        around_rises (each_counted (counted_walk o kind levels) kids) cell (flat_map (walked_cells o.axes o.way o.walks levels) kids) (flat_map (loads_of o levels) kids) (flat_map (stores_of o levels) kids)
        (each_rises levels (walk_rises levels) kids) tally

pub tally_of_a_cell : TallyOfACell
tally_of_a_cell o kind levels cell tally is = walk_rises o kind is levels cell tally
